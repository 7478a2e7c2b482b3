use Rattle.std.proofs.Common.{w32, w64, inl, inr, ◌≡◌, ◌∙◌, ◌+◌, ◌<◌, ◌^◌, ℤ, pos, ◌-ℤ◌, length, to_z, of_z, FitsSigned, arith, rules}
use Rattle.std.specs.Int.{int_shr}
use Rattle.std.specs.Int.RustNames.{unsigned_abs}
use Rattle.std.proofs.lemmas.Bool.{cases_lt}
use Rattle.std.proofs.lemmas.Int.{to_z-of_z}
use Rattle.std.proofs.lemmas.List.{get_or-set_same, get_or-set_other}
use Rattle.flac_subframe.specs.format.Numbers.{sample_at}
use Rattle.flac_subframe.proofs.lemmas.format.Lanes.{left_is}
use Rattle.flac_subframe.proofs.format.products.leave_wide.Goals as goal

pub loop-index-preserved : goal.loop-index-preserved
loop-index-preserved c = λ j h.
    let i = c.loop-index.index in
    let s = c.args.samples.now in
    let sums = c.args.sums.now in
    let within : i < length c.loop-index.values = omega arith in
    let x : ℤ = sample_at s (c.args.order + i) in
    let y : ℤ = sample_at sums i in
    let small : unsigned_abs x + unsigned_abs y < 2 ^ 31 = c.requires.small i (omega arith) in
    let from : c.from.result ≡ x -ℤ int_shr y c.args.shift = c.from.ensures ∙ left_is w32 x y c.args.shift small in
    let fit : FitsSigned w64 c.from.result = search rules in
    let held : to_z w64 (of_z w64 c.from.result) ≡ x -ℤ int_shr y c.args.shift = to_z-of_z w64 c.from.result fit ∙ from in
    elim (cases_lt j i) [
      | inl d ↦ get_or-set_other c.loop-index.values i j (to_z w64 (of_z w64 c.from.result)) (pos 0) (λ e. omega arith) ∙ c.loop-index.invariant j d
      | inr d ↦ let e : j ≡ i = omega arith in rw e (get_or-set_same c.loop-index.values i (to_z w64 (of_z w64 c.from.result)) (pos 0) within ∙ held)
    ]
