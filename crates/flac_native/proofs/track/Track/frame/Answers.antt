use Rattle.std.proofs.Common.{refl, sym, subst, Ok, Some}
use Rattle.std.proofs.lemmas.Result.{err_from_is_err_and}
use Rattle.std.specs.Bool.{⊤}
use Rattle.flac_frame.specs.Frame.{Frame}
use Rattle.flac_frame.specs.Viewed.{frame_of}
use Rattle.flac_native.specs.Stream.{framed, next, frame_after}
use Rattle.flac_native.specs.Track.{IsAt, stand_of, shown}
use Rattle.flac_bits.proofs.Within.{means_within, reads_within}
use Rattle.flac_native.proofs.track.Track.frame.Goals as goal

pub returns-in_err-next_frame : goal.returns-in_err-next_frame
returns-in_err-next_frame g c =
    let p = err_from_is_err_and c.from_residual.result c.from_residual.ensures.1 in
    let told = c.in_err-next_frame.ensures in
    let s = stand_of c.args.self.now in
    rw (p.1, p.2) (
      (refl, λ _. tt, tt),
      record { after = tt; reading = record { spends = tt; counts = told.reading.counts; memory = told.reading.memory; reads = means_within (Some 16777215) _ (frame_after s.profile s.info s.before) c.args.bits.now c.next_frame.new.bits _ (reads_within {X = ⊤} {Y = Frame} (Some 16777215) (λ _. shown c.next_frame.new.self) (frame_after s.profile s.info s.before) c.args.bits.now c.next_frame.new.bits _ told.reading.reads) } },
    )

pub returns : goal.returns
returns g c =
    let told = c.in_ok-next_frame.ensures in
    let s = stand_of c.args.self.now in
    let read = reads_within {X = ⊤} {Y = Frame} (Some 16777215) (λ _. shown c.next_frame.new.self) (frame_after s.profile s.info s.before) c.args.bits.now c.next_frame.new.bits (Ok tt) told.reading.reads in (
      (refl, λ _. tt, λ p at. subst (λ k. IsAt c.next_frame.new.self (next p (framed k))) (sym c.view.ensures) (told.next p at)),
      record { after = tt; reading = record { spends = told.reading.spends; counts = told.reading.counts; memory = tt; reads = means_within (Some 16777215) frame_of (frame_after s.profile s.info s.before) c.args.bits.now c.next_frame.new.bits (Ok c.view.result) (rw c.view.ensures read) } },
    )
