use Rattle.std.proofs.Common.{◌≡◌, ◌*◌, ◌-◌, ◌%◌, ◌∙◌, ℤ, List, Vec, Global, nat_eq, length, map, ap, sym, arith}
use Rattle.std.specs.Prelude.{not}
use Rattle.std.specs.Vec.{with_items}
use Rattle.std.proofs.lemmas.List.{with_items_is}
use Rattle.flac_frame.specs.Audio.{samples_each}
use Rattle.flac_wave.specs.Shift.{wave_width_of}
use Rattle.flac_cli.specs.inner.HeldWaves.{shifted}
use Rattle.flac_cli.proofs.HeldWaves.{taken_whole, taken_low}
use Rattle.flac_cli.proofs.TakenWaves.{lists}
use Rattle.flac_cli.proofs.wave_samples.stream_samples.Goals as goal

pub returns-then-shift-eq0 : goal.returns-then-shift-eq0
returns-then-shift-eq0 c = λ bytes are.
    let f = c.args.format.now in
    let h = c.args.held in
    let wide : c.sample_width-width.result ≡ wave_width_of f = c.sample_width-width.ensures in
    let odd : not c.are_odd-odd.result ≡ nat_eq (samples_each (lists h.channels) * (f.channels * wave_width_of f) % 2) 0 = rw (c.as_slice.ensures.value, c.sample_width-width.ensures) at c.are_odd-odd.ensures in
    taken_whole f c.requires.range bytes h are c.are_odd-odd.result odd (omega (arith, c.requires.depth.few, c.if-shift-eq0.true, wide))

pub returns : goal.returns
returns c = λ bytes are.
    let f = c.args.format.now in
    let h = c.args.held in
    let items : Vec ℤ Global → List ℤ = λ v. v.items in
    let new = c.lower_channels.new.channels in
    let v = with_items h.channels new in
    let wide : c.sample_width-width.result ≡ wave_width_of f = c.sample_width-width.ensures in
    let odd : not c.are_odd-odd.result ≡ nat_eq (samples_each (lists h.channels) * (f.channels * wave_width_of f) % 2) 0 = rw (c.as_slice.ensures.value, c.sample_width-width.ensures) at c.are_odd-odd.ensures in
    let whole = with_items_is h.channels new (c.lower_channels.auto.channels ∙ (ap length c.deref_mut.ensures.value ∙ sym h.channels.ok.0)) in
    let low : lists v ≡ map (shifted (8 * wave_width_of f - h.depth)) (lists h.channels) = ap (map items) whole ∙ (c.lower_channels.ensures
    ∙ (ap (λ w. map (shifted (8 * w - h.depth)) (map items c.deref_mut.result.now)) wide ∙ ap (λ l. map (shifted (8 * wave_width_of f - h.depth)) (map items l)) c.deref_mut.ensures.value)) in
    taken_low f c.requires.range bytes h are c.are_odd-odd.result odd v c.requires.depth (omega (arith, c.requires.depth.few, c.if-shift-eq0.false, wide)) low
