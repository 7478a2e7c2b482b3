use Rattle.std.proofs.Common.{ap, subst, ◌∙◌}
use Rattle.std.proofs.lemmas.Result.{on_ok_weaker}
use Rattle.flac_frame.specs.Frame.{Frame}
use Rattle.flac_copy.specs.Inputs.{NextFrame}
use Rattle.flac_copy.specs.Outputs.{Puts}
use Rattle.flac_copy.proofs.Copied.{one_more, none_left}
use Rattle.flac_copy.proofs.copying.copy_frames.Goals as goal

pub frames-preserved : goal.frames-preserved
frames-preserved g c =
    let next = subst (λ b. NextFrame g.R.Source c.frames.track c.next.new.track c.frames.input c.next.new.self c.next.new.bytes.items b) c.in-Ok-true.field-0-test c.in-Ok-true.ensures in
    let put = subst (λ l. Puts g.W.Target c.frames.out c.put.new.self l c.len.result c.frames.target c.put.new.target) c.as_slice.ensures.value c.in-Ok.ensures in
    record {
      whole = λ end later. c.frames.invariant.whole end
          (one_more g.R.Source g.W.Target c.frames.track c.next.new.track c.frames.input c.next.new.self c.frames.out c.put.new.self c.frames.target c.put.new.target end c.next.new.bytes.items c.len.result
          next put (c.len.ensures ∙ ap (λ (f : Frame). f.size) c.view.ensures) later);
    }

pub returns-in-Ok-false-clause-copies : goal.returns-in-Ok-false-clause-copies
returns-in-Ok-false-clause-copies g c =
    let next = subst (λ b. NextFrame g.R.Source c.frames.track c.next.new.track c.frames.input c.next.new.self c.next.new.bytes.items b) c.in-Ok-false.field-0-test c.in-Ok-false.ensures in
    on_ok_weaker c.end_at.result (λ ends. c.frames.invariant.whole c.end_at.new.target
    (none_left g.R.Source g.W.Target c.frames.track c.next.new.track c.frames.input c.next.new.self c.frames.out c.frames.target c.end_at.new.target c.next.new.bytes.items next ends))
    c.end_at.ensures.ends
