use Rattle.std.proofs.Common.{arith, ◌≡◌, ◌∙◌, ◌+◌, ◌-◌, ◌*◌, ◌≤◌, ◌<◌, ℕ, Bool, true, false, IsTrue, refl, rules, sym, length, Fits, w8, inl, inr}
use Rattle.std.proofs.lemmas.Bool.{cases_lt}
use Rattle.std.proofs.lemmas.List.{get_or-take, length-take-le}
use Rattle.flac_subframe.proofs.lemmas.search.Levels.{front_long, front_filled, front_copied}
use Rattle.flac_subframe.proofs.search.least_coding.tabulate.Goals as goal

-- the parameters from 1 to 15, and the width of the residual
first_few : (m w down up : ℕ) → 1 ≤ m → m ≤ 15 → down ≤ m - 1 → up ≤ 15 - m → down + up ≤ 14
first_few m w down up a b d u = omega arith

within_width : (m w : ℕ) → (1 < m → m ≤ w) → m ≤ w + 1
within_width m w b = elim (cases_lt 1 m) [ inl h ↦ omega (arith, b h) | inr h ↦ omega (arith, h) ]

first_narrow : (m w down up : ℕ) → 1 ≤ m → m ≤ w + 1 → down ≤ m - 1 → up ≤ w + 1 - m → down + up ≤ w
first_narrow m w down up a b d u = omega arith

all_few : (first more : ℕ) → first ≤ 14 → more ≤ 31 - 15 → first + more ≤ 30
all_few first more h g = omega arith

all_narrow : (first more w : ℕ) → first ≤ 14 → 15 ≤ w + 1 → more ≤ w + 1 - 15 → first + more ≤ w
all_narrow first more w h b g = omega arith

fits_few : (n : ℕ) → n ≤ 30 → Fits w8 n
fits_few n h = omega arith

at_most_30 : (n : ℕ) → n ≤ 14 → n ≤ 30
at_most_30 n h = omega arith

at_most_31 : (n : ℕ) → n ≤ 15 → n ≤ 31
at_most_31 n h = omega arith

still_open : (b : Bool) → b ≡ false → IsTrue b → ⊥
still_open b f t = cc

true_is : IsTrue true
true_is = search rules

pub compare_down-down-requires : goal.compare_down-down-requires
compare_down-down-requires c =
    let n = c.power-count.result in let is = c.power-count.ensures in
    let high = c.args.residual.now.partition_order in
    let four = c.args.four.now in
    let room : 2 * n ≤ length four = rw is c.requires.four in
    record {
      bounded = c.requires.bounded;
      some = c.middle-middle.ensures.some;
      from = at_most_31 _ c.middle-middle.ensures.few;
      leaves = length-take-le n c.args.leaves.now (rw is c.requires.leaves) ∙ is;
      known = λ j h. get_or-take n c.args.leaves.now j 0 (rw is h) ∙ c.requires.known j h;
      sums = length-take-le n c.args.sums.now (rw is c.requires.sums) ∙ is;
      table = rw (front_long (2 * n) four c.fill.new.self room c.fill.ensures.len) c.requires.four;
      start = λ p j le b. front_filled n c.none.result p j high four c.fill.new.self le b is room c.fill.ensures.len (c.fill.ensures.after (λ y is. is)) ∙ c.none.ensures;
    }

pub compare-up-requires : goal.compare-up-requires
compare-up-requires c =
    let n = c.power-count.result in let is = c.power-count.ensures in
    let four = c.args.four.now in
    let room : 2 * n ≤ length four = rw is c.requires.four in
    let m = c.middle-middle.ensures in
    record {
      bounded = c.requires.bounded;
      small_width = c.requires.small_width;
      from = m.few;
      parameters = at_most_31 15 (omega arith);
      within = within_width _ _ m.within;
      sums = c.compare_down-down.auto.sums ∙ length-take-le n c.args.sums.now (rw is c.requires.sums) ∙ is;
      table = rw (c.compare_down-down.ensures.long ∙ front_long (2 * n) four c.fill.new.self room c.fill.ensures.len) c.requires.four;
      start = c.compare_down-down.ensures.entries;
    }

pub slice_bounds-copy_from_slice-end : goal.slice_bounds-copy_from_slice-end
slice_bounds-copy_from_slice-end c = rw c.power-count.ensures c.requires.five

pub slice_bounds-copy_from_slice-end-2 : goal.slice_bounds-copy_from_slice-end-2
slice_bounds-copy_from_slice-end-2 c = sym (length-take-le (2 * c.power-count.result) c.args.five.now (rw c.power-count.ensures c.requires.five))

pub slice_bounds-copy_from_slice-end-3 : goal.slice_bounds-copy_from_slice-end-3
slice_bounds-copy_from_slice-end-3 c =
    let room = rw (← c.power-count.ensures) at c.requires.four in
    rw (c.compare-up.ensures.long ∙ c.compare_down-down.ensures.long ∙ front_long (2 * c.power-count.result) c.args.four.now c.fill.new.self room c.fill.ensures.len) room

pub slice_bounds-copy_from_slice-end-4 : goal.slice_bounds-copy_from_slice-end-4
slice_bounds-copy_from_slice-end-4 c =
    let n = c.power-count.result in
    let room = rw (← c.power-count.ensures) at c.requires.four in
    sym (length-take-le (2 * n) c.compare-up.new.table (rw (c.compare-up.ensures.long ∙ c.compare_down-down.ensures.long ∙ front_long (2 * n) c.args.four.now c.fill.new.self room c.fill.ensures.len) room))

pub copy_from_slice-requires : goal.copy_from_slice-requires
copy_from_slice-requires c =
    let n = c.power-count.result in
    let room = rw (← c.power-count.ensures) at c.requires.four in
    length-take-le (2 * n) c.args.five.now (rw c.power-count.ensures c.requires.five)
    ∙ sym (length-take-le (2 * n) c.compare-up.new.table (rw (c.compare-up.ensures.long ∙ c.compare_down-down.ensures.long ∙ front_long (2 * n) c.args.four.now c.fill.new.self room c.fill.ensures.len) room))

pub compare-more-requires : goal.compare-more-requires
compare-more-requires c =
    let n = c.power-count.result in let is = c.power-count.ensures in
    let high = c.args.residual.now.partition_order in
    let five = c.args.five.now in
    let room : 2 * n ≤ length five = rw is c.requires.five in
    record {
      bounded = c.requires.bounded;
      small_width = c.requires.small_width;
      from = at_most_31 15 (omega arith);
      parameters = omega arith;
      within = c.compare-up.ensures.within_width (still_open _ c.if-up.false);
      sums = c.compare-up.auto.sums ∙ c.compare_down-down.auto.sums ∙ length-take-le n c.args.sums.now (rw is c.requires.sums) ∙ is;
      table = rw (front_long (2 * n) five c.copy_from_slice.new.self room c.copy_from_slice.auto.self) c.requires.five;
      start = λ p j le b.
          rw (front_copied n p j high c.compare-up.new.table five c.copy_from_slice.new.self le b is room c.copy_from_slice.auto.self c.copy_from_slice.ensures.after)
          (c.compare-up.ensures.entries p j le b);
    }

pub overflow_add-first : goal.overflow_add-first
overflow_add-first c =
    let m = c.middle-middle in
    fits_few _ (at_most_30 _ (first_few m.result c.args.width _ _ m.ensures.some m.ensures.few c.compare_down-down.ensures.few c.compare-up.ensures.few))

pub overflow_add-result : goal.overflow_add-result
overflow_add-result c =
    let m = c.middle-middle in
    fits_few _ (all_few _ _ (first_few m.result c.args.width _ _ m.ensures.some m.ensures.few c.compare_down-down.ensures.few c.compare-up.ensures.few) c.compare-more.ensures.few)

pub returns-then-up : goal.returns-then-up
returns-then-up c =
    let m = c.middle-middle in let down = c.compare_down-down.ensures in let up = c.compare-up.ensures in
    record {
      entries = up.entries;
      same = λ t. up.settled (rw c.if-up.true true_is);
      more = λ f. absurd (f true_is);
      few = at_most_30 _ (first_few m.result c.args.width _ _ m.ensures.some m.ensures.few down.few up.few);
      narrow = first_narrow m.result c.args.width _ _ m.ensures.some (within_width _ _ m.ensures.within) down.few up.narrow;
    }

pub returns : goal.returns
returns c =
    let m = c.middle-middle in let down = c.compare_down-down.ensures in let up = c.compare-up.ensures in
    let first = first_few m.result c.args.width _ _ m.ensures.some m.ensures.few down.few up.few in
    record {
      entries = up.entries;
      same = λ t. absurd (still_open _ refl t);
      more = λ f. c.compare-more.ensures.entries;
      few = all_few _ _ first c.compare-more.ensures.few;
      narrow = all_narrow _ _ c.args.width first (up.within_width (still_open _ c.if-up.false)) c.compare-more.ensures.narrow;
    }
