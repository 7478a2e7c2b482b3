use Rattle.std.proofs.Common.{◌≤◌, ℕ, refl, sym, subst, arith}
use Rattle.std.proofs.lemmas.Result.{err_from_is_err_and}
use Rattle.flac_subframe.specs.format.Handed.{AreWithin}
use Rattle.flac_frame.specs.Audio.{Sound}
use Rattle.flac_frame.specs.Frame.{limits_at}
use Rattle.flac_frame.specs.PlaneLists.{Lists, AreAllWithin}
use Rattle.flac_native.proofs.Predictors.{within}
use Rattle.flac_encoder.proofs.stream_format.StreamFormat.encode_block.Goals as goal

pub frame_bytes-requires-clause-orders : goal.frame_bytes-requires-clause-orders
frame_bytes-requires-clause-orders c =
    let f = c.args.self.now in
    let ps = c.args.predictors.now in
    let few : AreWithin (limits_at c.in_ok-audio.audio.profile c.in_ok-audio.audio.rate).linear ps =
    subst (λ (a : Sound). AreWithin (limits_at a.profile a.rate).linear ps) (sym c.in_ok-audio.ensures.samples) (within f.profile f.rate ps c.requires.predictors) in
    subst (λ (ls : Lists). AreAllWithin (limits_at c.in_ok-audio.audio.profile c.in_ok-audio.audio.rate).linear ls) (sym c.same-planes.ensures) (λ plane. few)

both_most : (a b m : ℕ) → a ≤ b → b ≤ m → a ≤ m
both_most a b m h k = omega arith

pub frame_bytes-requires-clause-some : goal.frame_bytes-requires-clause-some
frame_bytes-requires-clause-some c = rw c.in_ok-audio.ensures.samples c.requires.some

pub frame_bytes-requires-clause-room : goal.frame_bytes-requires-clause-room
frame_bytes-requires-clause-room c = rw c.in_ok-audio.ensures.samples (both_most _ _ _ c.requires.size c.requires.room)

pub frame_bytes-requires-clause-most : goal.frame_bytes-requires-clause-most
frame_bytes-requires-clause-most c = rw c.in_ok-audio.ensures.samples c.requires.most

pub frame_bytes-requires-clause-number : goal.frame_bytes-requires-clause-number
frame_bytes-requires-clause-number c = c.requires.number

pub returns-in_err-audio : goal.returns-in_err-audio
returns-in_err-audio c =
    let p = err_from_is_err_and c.from_residual.result c.from_residual.ensures.1 in
    rw (p.1, p.2) (record { kept = refl; frame = tt; least = tt; memory = c.in_err-audio.ensures.memory })

pub returns-clause-kept : goal.returns-clause-kept
returns-clause-kept c = c.frame_bytes.ensures.kept

pub returns-clause-frame : goal.returns-clause-frame
returns-clause-frame c = rw c.in_ok-audio.ensures.samples at c.frame_bytes.ensures.frame

pub returns-clause-least : goal.returns-clause-least
returns-clause-least c =
    let e = rw c.same-planes.ensures at c.frame_bytes.ensures.least in
    rw c.in_ok-audio.ensures.samples at e

pub returns-clause-memory : goal.returns-clause-memory
returns-clause-memory c = c.frame_bytes.ensures.memory
