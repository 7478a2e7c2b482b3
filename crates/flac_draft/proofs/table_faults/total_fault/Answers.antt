use Rattle.std.proofs.Common.{sym, ◌∙◌}
use Rattle.flac_encoder.specs.Pushing.{shape_of}
use Rattle.flac_encoder.proofs.Pushing.{shaped}
use Rattle.flac_draft.proofs.Planned.{stated_fault}
use Rattle.flac_draft.proofs.table_faults.total_fault.Goals as goal

pub length_fault-requires : goal.length_fault-requires
length_fault-requires c = let q = shaped (shape_of c.args.format.now) c.requires in (q.least, q.small)

pub returns : goal.returns
returns c = c.length_fault.ensures ∙ sym (stated_fault (shape_of c.args.format.now) c.args.total c.args.every c.requires)
