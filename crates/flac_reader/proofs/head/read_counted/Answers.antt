use Rattle.std.proofs.Common.{inl, inr, refl, ◌∙◌}
use Rattle.flac_native.specs.Giving.{stage_of}
use Rattle.flac_reader.proofs.Heads.{head_starts, head_more, head_over, head_refused}
use Rattle.flac_reader.proofs.head.read_counted.Goals as goal

pub loop-index-init : goal.loop-index-init
loop-index-init g c = record { head = head_starts g.C.Container (stage_of c.args.decoder.now) c.args.keep c.args.kept.now.items c.args.size.now c.requires; past = inl c.requires }

pub returns-in-Err-clause-head : goal.returns-in-Err-clause-head
returns-in-Err-clause-head g c =
    head_refused g.C.Container (stage_of c.args.decoder.now) (stage_of c.loop-index.decoder) (stage_of c.take_block.new.decoder) c.args.keep c.loop-index.kept.items c.take_block.new.kept.items c.args.size.now c.loop-index.size c.take_block.new.size c.in-Err.fault c.loop-index.invariant.head c.in-Err.ensures.gives

pub returns-in-Ok-false-clause-head : goal.returns-in-Ok-false-clause-head
returns-in-Ok-false-clause-head g c = λ calm roomy blocks frames end comes.
    let told = rw c.in-Ok-false.field-0-test at c.in-Ok-false.ensures in
    (head_over g.C.Container (stage_of c.args.decoder.now) (stage_of c.loop-index.decoder) (stage_of c.take_block.new.decoder) c.args.keep c.loop-index.kept.items c.take_block.new.kept.items c.args.size.now c.loop-index.size c.take_block.new.size tt c.loop-index.invariant.head told.gives calm blocks frames end comes).0

pub returns-in-Ok-false-clause-size : goal.returns-in-Ok-false-clause-size
returns-in-Ok-false-clause-size g c = λ calm blocks frames end comes.
    let told = rw c.in-Ok-false.field-0-test at c.in-Ok-false.ensures in
    (head_over g.C.Container (stage_of c.args.decoder.now) (stage_of c.loop-index.decoder) (stage_of c.take_block.new.decoder) c.args.keep c.loop-index.kept.items c.take_block.new.kept.items c.args.size.now c.loop-index.size c.take_block.new.size tt c.loop-index.invariant.head told.gives calm blocks frames end comes).1

pub returns-in-Ok-false-clause-past : goal.returns-in-Ok-false-clause-past
returns-in-Ok-false-clause-past g c =
    let told = rw c.in-Ok-false.field-0-test at c.in-Ok-false.ensures in
    elim c.loop-index.invariant.past [ inl none ↦ inl (told.unkept refl ∙ none) | inr going ↦ inr (told.past refl going) ]

pub loop-index-preserved : goal.loop-index-preserved
loop-index-preserved g c =
    let told = rw c.in-Ok-true.field-0-test at c.in-Ok-true.ensures in
    record {
      head = head_more g.C.Container (stage_of c.args.decoder.now) (stage_of c.loop-index.decoder) (stage_of c.take_block.new.decoder) c.args.keep c.loop-index.kept.items c.take_block.new.kept.items c.args.size.now c.loop-index.size c.take_block.new.size c.loop-index.invariant.head told.counts told.gives;
      past = inr (told.going refl);
    }
