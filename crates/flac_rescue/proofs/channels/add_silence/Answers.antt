use Rattle.std.proofs.Common.{◌≡◌, ◌∙◌, ◌++◌, ℤ, List, [], Vec, Global, map, length, get_or, sym, ap, arith}
use Rattle.std.specs.Prelude.{pos, replicate}
use Rattle.std.proofs.lemmas.List.{map-set, get_or-map, length-map}
use Rattle.flac_rescue.proofs.Extending.{one_silent, all_silent}
use Rattle.flac_rescue.proofs.channels.add_silence.Goals as goal

abbrev items : Vec ℤ Global → List ℤ
items v = v.items

pub loop-channel-preserved : goal.loop-channel-preserved
loop-channel-preserved c =
    let lists = c.loop-channel.channels in
    let channel = c.loop-channel.channel in
    let old = c.args.channels.now in
    let x = c.index-channels-channel.result in
    let many : length lists ≡ length old = omega (arith, c.loop-channel.auto.channels) in
    let here = c.loop-channel-test.true in
    let is : items (get_or lists channel x) ≡ get_or (map items lists) channel [] = sym (get_or-map items lists channel x [] (omega (arith, here, many))) in
    map-set items lists channel c.add_zeros.new.samples ∙ one_silent c.args.count channel (map items old) (map items lists) (items c.add_zeros.new.samples)
    (omega (arith, here, length-map old items)) c.loop-channel.invariant (c.in_ok-add_zeros.ensures ∙ ap (λ l. l ++ replicate c.args.count (pos 0)) is)

pub returns : goal.returns
returns c =
    let old = c.args.channels.now in
    c.loop-channel.invariant ∙ all_silent c.args.count c.loop-channel.channel (map items old) (omega (arith, c.loop-channel-test.false, length-map old items))
