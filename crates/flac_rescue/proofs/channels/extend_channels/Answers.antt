use Rattle.std.proofs.Common.{◌≡◌, ◌∙◌, ◌<◌, ◌++◌, ℕ, ℤ, List, [], Vec, Global, map, length, get_or, sym, ap, subst, arith}
use Rattle.std.proofs.lemmas.List.{map-set, get_or-map, length-map}
use Rattle.flac_frame.specs.Viewed.{frame_of}
use Rattle.flac_rescue.proofs.Extending.{extended_first, one_extended, all_extended}
use Rattle.flac_rescue.proofs.channels.extend_channels.Goals as goal

abbrev items : Vec ℤ Global → List ℤ
items v = v.items

pub loop-channel-preserved : goal.loop-channel-preserved
loop-channel-preserved c =
    let lists = c.loop-channel.channels in
    let channel = c.loop-channel.channel in
    let old = c.args.channels.now in
    let ms = (frame_of c.args.frame.now).channels in
    let x = c.index-channels-channel.result in
    let many : length lists ≡ length old = omega (arith, c.loop-channel.auto.channels) in
    let here = c.loop-channel-test.true in
    let is : items (get_or lists channel x) ≡ get_or (map items lists) channel [] = sym (get_or-map items lists channel x [] (omega (arith, here, many))) in
    map-set items lists channel c.add_samples.new.samples ∙ one_extended channel (map items old) ms (map items lists) (items c.add_samples.new.samples)
    (omega (arith, here, length-map old items)) c.loop-channel.invariant (c.in_ok-add_samples.ensures ∙ ap (λ l. l ++ c.channel-more.result.now) is ∙ ap (λ l. get_or (map items lists) channel [] ++ l) c.channel-more.ensures.value)

pub returns : goal.returns
returns c =
    let old = c.args.channels.now in
    c.loop-channel.invariant ∙ all_extended c.loop-channel.channel (map items old) (frame_of c.args.frame.now).channels (omega (arith, c.loop-channel-test.false, length-map old items))
