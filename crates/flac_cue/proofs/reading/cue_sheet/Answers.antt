use Rattle.flac_cue.proofs.Counts.{each_fits}
use Rattle.flac_cue.proofs.reading.cue_sheet.Goals as goal

pub returns-clause-fits : goal.returns-clause-fits
returns-clause-fits c = each_fits c.args.audio.now c.args.text.now c.sheet_in.result c.sheet_in.ensures.read
