use Rattle.std.proofs.Common.{◌≡◌, true}
use Rattle.flac_bits.specs.Fencing.{lifted}
use Rattle.flac_edit.proofs.Alike.{kept_from}
use Rattle.flac_edit.proofs.changing.change_from.Goals as goal

pub returns-clause-kept : goal.returns-clause-kept
returns-clause-kept g c =
    kept_from c.edits_change-outcome.result (lifted c.args.reader.now).cursor c.args.edits.now c.in-Ok.blocks.items c.deref.result.now _ (c.args.reader.now.known ≡ true) c.in-Ok.ensures.read c.deref.ensures.value c.edits_change-outcome.ensures.kept c.edits_change-outcome.ensures.judged
