use Rattle.std.proofs.Common.{rules, ◌≡◌, ℕ, ℤ, to_z, of_z, w64, Fits, ◌∙◌, ◌+◌, ◌≤◌, ◌<◌, pos, arith, inl, inr, refl}
use Rattle.std.proofs.lemmas.List.{get_or-set_same, get_or-set_other}
use Rattle.std.proofs.lemmas.Bool.{cases_lt}
use Rattle.std.proofs.lemmas.Int.{to_z-of_z}
use Rattle.flac_subframe.specs.format.Numbers.{sample_at}
use Rattle.flac_subframe.proofs.format.packed.add_sample.Goals as goal

none_below : (k : ℕ) → k < 0 → ⊥
none_below k h = omega arith

less : (a b c : ℕ) → a < b → b ≤ c → a < c
less a b c h g = omega arith

less_both : (a b c : ℕ) → a < b → b < c → a < c
less_both a b c h g = omega arith

fits_next : (j n : ℕ) → j < n → Fits w64 n → Fits w64 (j + 1)
fits_next j n h fits = omega arith

pub loop-j-init : goal.loop-j-init
loop-j-init c = record { done = λ k h. absurd (none_below k h); rest = λ k h. refl }

pub overflow_add-j : goal.overflow_add-j
overflow_add-j c = fits_next c.loop-j.j c.args.count c.loop-j-test.true c.ranges.count

pub bounds-factors-j : goal.bounds-factors-j
bounds-factors-j c = less _ _ _ c.loop-j-test.true c.requires.factors

pub bounds-sums-j : goal.bounds-sums-j
bounds-sums-j c = rw c.loop-j.auto.sums (less_both _ _ _ c.loop-j-test.true c.requires.places)

pub returns : goal.returns
returns c =
    let l = c.loop-j in
    let same : to_z w64 (of_z w64 c.args.sample) ≡ c.args.sample = to_z-of_z w64 c.args.sample c.ranges.sample in
    record {
      added = λ j h. rw same at (l.invariant.done j (less j c.args.count l.j h c.loop-j-test.false));
      last = l.invariant.rest c.args.count l.auto.j-end;
      long = l.auto.sums;
    }

pub loop-j-preserved : goal.loop-j-preserved
loop-j-preserved c =
    let l = c.loop-j in
    let v = c.plus.result in
    let kept : to_z w64 (of_z w64 v) ≡ v = to_z-of_z w64 v (search rules) in
    let f : ℤ = sample_at c.args.factors.now l.j in
    let w : ℤ = sample_at l.sums (l.j + 1) in
    let factor : to_z w64 (of_z w64 f) ≡ f = to_z-of_z w64 f (search rules) in
    let word : to_z w64 (of_z w64 w) ≡ w = to_z-of_z w64 w (search rules) in
    let next = l.invariant.rest (l.j + 1) (omega arith) in
    record {
      done = λ k h. elim (cases_lt k l.j) [
        | inl b ↦ get_or-set_other l.sums l.j k _ (pos 0) (λ e. omega (arith, e, b)) ∙ l.invariant.done k b
        | inr b ↦
            let e : k ≡ l.j = omega (arith, h, b) in
            rw e (get_or-set_same l.sums l.j _ (pos 0) (omega arith) ∙ kept ∙ rw (factor, word, next) at c.plus.ensures)
      ];
      rest = λ k h. get_or-set_other l.sums l.j k _ (pos 0) (λ e. omega (arith, e, h)) ∙ l.invariant.rest k (omega (arith, h));
    }
