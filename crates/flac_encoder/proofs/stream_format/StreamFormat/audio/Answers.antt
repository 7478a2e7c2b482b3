use Rattle.std.proofs.Common.{◌≡◌, ℤ, List, Option, Some, None, map, subst}
use Rattle.flac_frame.specs.Audio.{audio_fault}
use Rattle.flac_encoder.specs.Pushing.{shape_of}
use Rattle.flac_encoder.proofs.Pushing.{fits_format}
use Rattle.flac_encoder.proofs.stream_format.StreamFormat.audio.Goals as goal

not_both : {X : Type 0} (o : Option X) (x : X) → o ≡ None → o ≡ Some x → ⊥
not_both o x none some = absurd cc

pub unreachable-requires : goal.unreachable-requires
unreachable-requires c =
    let f = c.args.self.now in
    let block = map (λ b. b.now) c.args.block.now in
    let fit = fits_format (shape_of f) block c.requires.format c.requires.block c.requires.size in
    not_both _ _ fit (subst (λ (k : List (List ℤ)). audio_fault f.profile f.rate f.bits k ≡ Some c.in-Err.field-0) c.in_ok-channels.ensures.items c.in-Err.ensures)
