use Rattle.std.proofs.Common.{◌≡◌, ◌<◌, ◌∙◌, ◌++◌, ap, sym, ℤ, List, [], Vec, Global, get_or, slice_set, take, drop, map, length, add-one, arith}
use Rattle.std.specs.Vec.{with_items}
use Rattle.std.proofs.lemmas.List.{map-set, get_or-map, length-map, with_items_is}
use Rattle.flac_cli.specs.inner.HeldWaves.{shifted}
use Rattle.flac_cli.proofs.Shifted.{shift_list_next}
use Rattle.flac_cli.proofs.wave_samples.lower_channels.Goals as goal

pub loop-i-preserved : goal.loop-i-preserved
loop-i-preserved c =
    let items : Vec ℤ Global → List ℤ = λ v. v.items in
    let k = c.args.shift in
    let i = c.loop-i.i in
    let lists = c.loop-i.channels in
    let old = map items c.args.channels.now in
    let x = c.index-channels-i.result in
    let v = with_items (get_or lists i x) c.lower_samples.new.samples in
    let many : length lists ≡ length c.args.channels.now = c.loop-i.auto.channels in
    let below : i < length lists = omega (arith, c.loop-i-test.true, many) in
    let is : items (get_or lists i x) ≡ get_or (map items lists) i [] = sym (get_or-map items lists i x [] below) in
    let new_is : items v ≡ shifted k (get_or (map items lists) i []) =
    with_items_is (get_or lists i x) c.lower_samples.new.samples (c.lower_samples.auto.samples ∙ (ap length c.deref_mut.ensures.value ∙ sym (get_or lists i x).ok.0))
    ∙ (c.lower_samples.ensures ∙ (ap (shifted k) c.deref_mut.ensures.value ∙ ap (shifted k) is)) in
    map-set items lists i v ∙ (ap (slice_set (map items lists) i) new_is
    ∙ (ap (λ l. slice_set l i (shifted k (get_or l i []))) c.loop-i.invariant
    ∙ (shift_list_next k old i (omega (arith, c.loop-i-test.true, length-map c.args.channels.now items)) ∙ ap (λ j. map (shifted k) (take j old) ++ drop j old) (sym (add-one i)))))
