use Rattle.std.proofs.Common.{refl, sym, ◌∙◌}
use Rattle.flac_c.proofs.NativeInOgg.{nothing_left, more_left}
use Rattle.flac_c.proofs.unpacking.judge_end.Goals as goal

pub returns-in-Ok-true-clause-over : goal.returns-in-Ok-true-clause-over
returns-in-Ok-true-clause-over c = nothing_left c.args.bits.now.cursor c.requires.short (sym c.in-Ok-true.field-0-test ∙ (c.in-Ok-true.ensures.over c.requires.known).1)

pub returns-in-Ok-false-clause-fault : goal.returns-in-Ok-false-clause-fault
returns-in-Ok-false-clause-fault c = λ quiet. (refl, more_left c.args.bits.now.cursor (sym c.in-Ok-false.field-0-test ∙ (c.in-Ok-false.ensures.over c.requires.known).1))
