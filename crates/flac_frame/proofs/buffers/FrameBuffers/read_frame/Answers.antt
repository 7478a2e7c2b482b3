use Rattle.std.proofs.Common.{Err, Ok, Some, ap, sym, refl, ◌∙◌}
use Rattle.std.specs.Bool.{⊤}
use Rattle.std.proofs.lemmas.Result.{err_from_is_err_and}
use Rattle.flac_bits.proofs.Within.{means_within, reads_within}
use Rattle.flac_frame.specs.Frame.{Frame, frame, after_frame}
use Rattle.flac_frame.specs.Viewed.{frame_of}
use Rattle.flac_frame.proofs.buffers.FrameBuffers.read_frame.Goals as goal

pub returns-in_err-fill : goal.returns-in_err-fill
returns-in_err-fill g c =
    let p = err_from_is_err_and c.from_residual.result c.from_residual.ensures.1 in
    let was = c.in_err-fill.ensures in
    rw (p.1, p.2) (
      (refl, λ _. tt, (was.room.0, was.room.1, was.refused)),
      record { after = tt; reading = record { spends = tt; counts = was.reading.counts; memory = was.reading.memory; reads = means_within (Some 16777215) frame_of (frame c.args.profile c.args.info.now c.args.self.now.before) c.args.bits.now c.fill.new.bits (Err c.in_err-fill.field-0.0) (reads_within {X = ⊤} {Y = Frame} (Some 16777215) (λ _. c.fill.new.self.held) (frame c.args.profile c.args.info.now c.args.self.now.before) c.args.bits.now c.fill.new.bits _ was.reading.reads) } },
    )

pub returns : goal.returns
returns g c =
    let was = c.in_ok-fill.ensures in
    let held = sym c.view.ensures in
    let read = reads_within {X = ⊤} {Y = Frame} (Some 16777215) (λ _. c.fill.new.self.held) (frame c.args.profile c.args.info.now c.args.self.now.before) c.args.bits.now c.fill.new.bits (Ok tt) was.reading.reads in
    let told = rw held at read in (
      (refl, λ _. tt, (was.room.0, was.room.1, (was.before ∙ ap (λ f. Some (after_frame c.args.self.now.before f)) held, held))),
      record { after = tt; reading = record { spends = was.reading.spends; counts = was.reading.counts; memory = tt; reads = means_within (Some 16777215) frame_of (frame c.args.profile c.args.info.now c.args.self.now.before) c.args.bits.now c.fill.new.bits (Ok c.view.result) told } },
    )
