use Rattle.std.proofs.Common.{◌≡◌, ◌∙◌, ◌++◌, ap, sym, ℤ, pos, get_or, slice_set, take, drop, SFits, to_z, of_z, w32, rules, add-one}
use Rattle.std.specs.Int.{int_shr}
use Rattle.std.proofs.lemmas.Int.{to_z-of_z}
use Rattle.flac_cli.specs.inner.HeldWaves.{shifted}
use Rattle.flac_cli.proofs.Shifted.{shift_fits, shift_next}
use Rattle.flac_cli.proofs.wave_samples.lower_samples.Goals as goal

pub loop-i-preserved : goal.loop-i-preserved
loop-i-preserved c =
    let k = c.args.shift in
    let i = c.loop-i.i in
    let old = c.args.samples.now in
    let z : ℤ = get_or c.loop-i.samples i (pos 0) in
    let fits : SFits w32 z = search rules in
    let same : to_z w32 (of_z w32 z) ≡ z = to_z-of_z w32 z fits in
    let is : to_z w32 (of_z w32 (int_shr (to_z w32 (of_z w32 z)) k)) ≡ int_shr z k = ap (λ x. to_z w32 (of_z w32 (int_shr x k))) same ∙ to_z-of_z w32 (int_shr z k) (shift_fits z k fits) in
    ap (slice_set c.loop-i.samples i) is ∙ (ap (λ l. slice_set l i (int_shr (get_or l i (pos 0)) k)) c.loop-i.invariant
    ∙ (shift_next k old i c.loop-i-test.true ∙ ap (λ j. shifted k (take j old) ++ drop j old) (sym (add-one i))))
