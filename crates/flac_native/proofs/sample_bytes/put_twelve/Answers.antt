use Rattle.std.proofs.Common.{◌≡◌, ◌≤◌, ◌-◌, ◌+◌, take, drop, length, arith}
use Rattle.std.proofs.lemmas.List.{length-take-le, length-drop}
use Rattle.std.proofs.lemmas.Simd.{put_chunk_whole}
use Rattle.flac_native.proofs.Messages.{part_put}
use Rattle.flac_native.proofs.sample_bytes.put_twelve.Goals as goal

pub returns : goal.returns
returns c =
    let at = c.args.at in
    let out = c.args.out.now in
    let old = take (at + 16 - at) (drop at out) in
    let lanes = c.args.lanes in
    let room : at + 16 - at ≤ length (drop at out) = omega (arith, length-drop at out, c.requires) in
    let long : length old ≡ length lanes = omega (arith, length-take-le (at + 16 - at) (drop at out) room, c.fits-lanes.0) in
    rw (put_chunk_whole old lanes long) (part_put at 12 (at + 16 - at) out lanes (omega (arith, c.requires)) (omega (arith, c.fits-lanes.0)))
