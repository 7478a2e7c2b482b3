use Rattle.std.proofs.Common.{Result, Ok, Err, ap, ◌∙◌}
use Rattle.std.specs.Prelude.{OnOk}
use Rattle.flac_bits.specs.Fencing.{lifted}
use Rattle.flac_edit.specs.Tagged.{arranged}
use Rattle.flac_edit.proofs.TaggedFiles.{rewritten}
use Rattle.flac_edit.proofs.rewriting.rewrite_from.Goals as goal

when_ok : {X E : Type 0} {A B : Type 0} (r : Result X E) → (A → B) → OnOk r A → OnOk r B
when_ok (Ok x) f a = f a
when_ok (Err e) f a = tt

pub returns-clause-written : goal.returns-clause-written
returns-clause-written g c =
    when_ok c.send_with_blocks-outcome.result (λ sent known told.
    let read = c.in-Ok.ensures in
    let is = c.deref-2.ensures.value ∙ c.in-Ok-made.ensures ∙ ap (arranged c.args.edits.now c.args.padding) c.deref.ensures.value in
    rewritten (lifted c.args.reader.now).cursor c.args.edits.now c.args.padding c.in-Ok.blocks.items _ _ _ _ (read.read known) is (sent (read.counts.0 known) told)) c.send_with_blocks-outcome.ensures.written
