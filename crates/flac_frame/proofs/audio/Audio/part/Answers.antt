use Rattle.std.proofs.Common.{◌<◌, ℤ, List, length, ap, arith}
use Rattle.std.proofs.lemmas.List.{length-map}
use Rattle.flac_frame.proofs.Frames.{one_long}
use Rattle.flac_frame.proofs.audio.Audio.part.Goals as goal

pub slice_bounds-result-end : goal.slice_bounds-result-end
slice_bounds-result-end c =
    let e = c.channels-channels.ensures in
    let xs = c.channels-channels.result.now in
    let many = length-map xs (λ v. v.items) in
    let within : c.args.channel < length xs = omega (arith, c.requires.channel, many, ap (λ (l : List (List ℤ)). length l) e.items) in
    let long = one_long (λ v. v.items) xs c.args.self.now e.sound e.items c.args.start c.args.size c.args.channel c.index-channels-channel.result c.requires.within within c.index-channels-channel.is in
    omega (arith, long, ap (λ (l : List ℤ). length l) c.as_slice-samples.ensures.value)
