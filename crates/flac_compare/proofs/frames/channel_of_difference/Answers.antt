use Rattle.std.proofs.Common.{◌≡◌, ◌<◌, length, ap, sym, ◌∙◌, refl, arith, rules, w32, to_z, of_z}
use Rattle.std.proofs.lemmas.Int.{to_z-of_z}
use Rattle.flac_frame.specs.Viewed.{frame_of}
use Rattle.flac_compare.proofs.Channels.{channels_more, channel_differs, channels_differ, channels_same, min_is, ended, moved}
use Rattle.flac_compare.proofs.frames.channel_of_difference.Goals as goal

pub loop-c-init : goal.loop-c-init
loop-c-init c = refl

pub returns-then-sample : goal.returns-then-sample
returns-then-sample c =
    let a = (frame_of c.args.first.now).channels in
    let b = (frame_of c.args.second.now).channels in
    let lt : c.loop-c.c < length a = omega (arith, c.loop-c-test.true, c.min-channels.ensures, c.channels.ensures, c.channels-2.ensures) in
    let short : c.loop-c.c < length b = omega (arith, c.loop-c-test.true, c.min-channels.ensures, c.channels.ensures, c.channels-2.ensures) in
    channel_differs a b c.args.i c.args.j c.loop-c.c lt short c.loop-c.invariant (λ e. c.if-sample.true (ap (of_z w32) (c.sample.ensures ∙ e ∙ sym c.sample-in-loop-c.ensures)))

pub loop-c-preserved : goal.loop-c-preserved
loop-c-preserved c =
    let a = (frame_of c.args.first.now).channels in
    let b = (frame_of c.args.second.now).channels in
    let lt : c.loop-c.c < length a = omega (arith, c.loop-c-test.true, c.min-channels.ensures, c.channels.ensures, c.channels-2.ensures) in
    let short : c.loop-c.c < length b = omega (arith, c.loop-c-test.true, c.min-channels.ensures, c.channels.ensures, c.channels-2.ensures) in
    let x = c.sample.result in
    let y = c.sample-in-loop-c.result in
    let one : to_z w32 (of_z w32 x) ≡ x = to_z-of_z w32 x (search rules) in
    let two : to_z w32 (of_z w32 y) ≡ y = to_z-of_z w32 y (search rules) in
    channels_more a b c.args.i c.args.j c.loop-c.c lt short c.loop-c.invariant (sym c.sample.ensures ∙ (sym one ∙ ap (to_z w32) c.if-sample.false ∙ two) ∙ c.sample-in-loop-c.ensures)

pub returns-then-channels : goal.returns-then-channels
returns-then-channels c =
    let a = (frame_of c.args.first.now).channels in
    let b = (frame_of c.args.second.now).channels in
    let n = c.min-channels.result in
    let is = min_is n _ _ _ _ c.min-channels.ensures c.channels.ensures c.channels-2.ensures in
    let at = ended c.loop-c.c n c.loop-c-test.false c.loop-c.auto.c-end in
    channels_differ a b c.args.i c.args.j n is (λ e. c.if-channels.true (c.channels-3.ensures ∙ e ∙ sym c.channels-4.ensures)) (moved _ _ _ _ at c.loop-c.invariant)

pub returns : goal.returns
returns c =
    let a = (frame_of c.args.first.now).channels in
    let b = (frame_of c.args.second.now).channels in
    let n = c.min-channels.result in
    let is = min_is n _ _ _ _ c.min-channels.ensures c.channels.ensures c.channels-2.ensures in
    let at = ended c.loop-c.c n c.loop-c-test.false c.loop-c.auto.c-end in
    channels_same a b c.args.i c.args.j n is (sym c.channels-3.ensures ∙ c.if-channels.false ∙ c.channels-4.ensures) (moved _ _ _ _ at c.loop-c.invariant)
