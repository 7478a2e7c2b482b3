use Rattle.std.proofs.Common.{◌∙◌}
use Rattle.flac_cli.proofs.TakenWaves.{part_taken}
use Rattle.flac_cli.proofs.wave_file.read_parts.Goals as goal

pub returns-clause-taken : goal.returns-clause-taken
returns-clause-taken g c = λ known.
    let samples = c.in_ok-samples.ensures in
    part_taken c.args.to_end (g.R.Source.coming c.args.source.now) c.as_slice.result.now c.args.front c.args.size c.in_ok-samples.samples c.in_ok-after.after (samples.good known) (samples.taken known)
    (c.as_slice.ensures.value ∙ (c.in_ok-back.ensures.bytes (samples.known known) ∙ samples.left known)) c.in_ok-after.ensures
