use Rattle.std.proofs.Common.{arith, ◌≡◌, ◌∙◌, ◌+◌, ◌*◌, ◌^◌, ◌<◌, ◌≤◌, ℕ, ℤ, List, length, Fits, w64}
use Rattle.std.proofs.lemmas.Nat.{pow_pos}
use Rattle.flac_subframe.specs.format.Bodies.{differences}
use Rattle.flac_subframe.specs.format.Prediction.{fixed_coefficients}
use Rattle.flac_subframe.proofs.lemmas.search.Places.{power_le}
use Rattle.flac_subframe.proofs.lemmas.search.Pieces.{halves_of_sixteen, leaves_bound, leaves_more, length-left, no_leaves}
use Rattle.flac_subframe.proofs.search.fixed_leaves.leaves_of_order.Goals as goal

whole : (order : ℕ) (s : List ℤ) (p : ℕ) → order ≤ 4 → length s ≡ 16 * 2 ^ p → 0 < 2 ^ p → length (differences (fixed_coefficients order) 0 s) + order ≡ 16 * 2 ^ p
whole order s p few is some = omega (arith, length-left order s few)

up_to_end : (j m n k : ℕ) → j < m → n ≡ m → n ≤ k → j < k
up_to_end j m n k h is over = omega arith

inside : (j n m l : ℕ) → j < n → n ≡ m → l ≡ m → j < l
inside j n m l h is e = omega arith

fits_within : (j n m p : ℕ) → j < n → n ≡ 2 ^ p → m ≡ 16 * 2 ^ p → j * 16 + 16 ≤ m
fits_within j n m p h is e = omega arith

fits_small : (i n bits b : ℕ) → i < n → n ≤ 2 ^ 8 → bits ≤ 2 ^ 21 * i → b ≤ 2 ^ 21 → Fits w64 (bits + b)
fits_small i n bits b h most so small = omega arith

not_both : (a b : ℕ) → a < b → b ≤ a → ⊥
not_both a b h g = omega arith

pub loop-j-init : goal.loop-j-init
loop-j-init c = no_leaves c.args.order c.args.partition_order (differences (fixed_coefficients c.args.order) 0 c.args.samples.now) (length c.args.sums.now) c.args.widths.now c.args.sums.now

pub leaf_at-leaf-requires-clause-within : goal.leaf_at-leaf-requires-clause-within
leaf_at-leaf-requires-clause-within c = fits_within c.loop-j.j (length c.args.sums.now) (length c.args.samples.now) c.args.partition_order c.loop-j-test.true c.requires.sums c.requires.sixteens

pub overflow_add-bound : goal.overflow_add-bound
overflow_add-bound c = fits_small c.loop-j.j (length c.args.sums.now) _ _ c.loop-j-test.true (rw c.requires.sums (power_le c.args.partition_order 8 c.requires.few)) c.loop-j.invariant.low c.leaf_at-leaf.ensures.small

pub loop-j-preserved : goal.loop-j-preserved
loop-j-preserved c =
    let o = c.args.order in let s = c.args.samples.now in let p = c.args.partition_order in
    let rs = differences (fixed_coefficients o) 0 s in
    let j = c.loop-j.j in
    let less = c.loop-j-test.true in
    leaves_more o p rs (length c.args.sums.now) j c.loop-j.bound c.loop-j.widths c.loop-j.sums c.requires.order (whole o s p c.requires.order c.requires.sixteens (pow_pos p)) less
    (inside j (length c.args.sums.now) _ _ less c.requires.sums (c.loop-j.auto.widths ∙ c.requires.widths)) (inside j (length c.args.sums.now) _ _ less c.requires.sums (c.loop-j.auto.sums ∙ c.requires.sums))
    c.loop-j.invariant c.leaf_at-leaf.result c.leaf_at-leaf.ensures

pub returns-then-bound-below : goal.returns-then-bound-below
returns-then-bound-below c =
    let o = c.args.order in let s = c.args.samples.now in let p = c.args.partition_order in
    let rs = differences (fixed_coefficients o) 0 s in
    let halves = halves_of_sixteen o p rs c.requires.order (whole o s p c.requires.order c.requires.sixteens (pow_pos p)) in
    record {
      bound = leaves_bound o p rs (length c.args.sums.now) c.loop-j.j c.loop-j.bound c.loop-j.widths c.loop-j.sums c.requires.sums halves c.loop-j.invariant;
      widths = λ b. absurd (not_both _ _ b c.if-bound-below.true);
      small = λ b. absurd (not_both _ _ b c.if-bound-below.true);
      costs = λ b. absurd (not_both _ _ b c.if-bound-below.true);
    }

pub returns : goal.returns
returns c =
    let o = c.args.order in let s = c.args.samples.now in let p = c.args.partition_order in
    let rs = differences (fixed_coefficients o) 0 s in
    let halves = halves_of_sixteen o p rs c.requires.order (whole o s p c.requires.order c.requires.sixteens (pow_pos p)) in
    let so = c.loop-j.invariant in
    record {
      bound = leaves_bound o p rs (length c.args.sums.now) c.loop-j.j c.loop-j.bound c.loop-j.widths c.loop-j.sums c.requires.sums halves so;
      widths = λ b j h. so.done j (up_to_end j (2 ^ p) (length c.args.sums.now) c.loop-j.j h c.requires.sums c.loop-j-test.false);
      small = λ b j h. so.small j (up_to_end j (2 ^ p) (length c.args.sums.now) c.loop-j.j h c.requires.sums c.loop-j-test.false);
      costs = λ b j h. so.costs j (up_to_end j (2 ^ p) (length c.args.sums.now) c.loop-j.j h c.requires.sums c.loop-j-test.false);
    }
