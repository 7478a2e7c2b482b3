use Rattle.std.proofs.Common.{arith, ◌≡◌, ◌+◌, ◌-◌, ◌*◌, ◌≤◌, subst, ℕ, ℤ, List, length, take, drop}
use Rattle.std.proofs.lemmas.List.{length-drop, length-take-le}
use Rattle.std.proofs.lemmas.List.Elements.{All-take, All-drop}
use Rattle.flac_bits.specs.Signed.{FitsBits}
use Rattle.flac_subframe.specs.search.inner.Leaves.{IsLeaf}
use Rattle.flac_subframe.proofs.lemmas.search.Pieces.{first_sixteen, next_sixteen}
use Rattle.flac_subframe.proofs.search.fixed_leaves.leaf_at.Goals as goal

first_within : (i n : ℕ) → i * 16 + 16 ≤ n → 16 ≤ n
first_within i n h = omega arith

later : (i : ℕ) → (i ≡ 0 → ⊥) → 1 ≤ i
later i h = omega arith

taken : (i order : ℕ) → 1 ≤ i → order ≤ 4 → i * 16 + 16 - (i * 16 - order) ≡ order + 16
taken i order some few = omega arith

long : (order i : ℕ) (s : List ℤ) → 1 ≤ i → order ≤ 4 → i * 16 + 16 ≤ length s → length (take (order + 16) (drop (i * 16 - order) s)) ≡ order + 16
long order i s some few within = length-take-le (order + 16) (drop (i * 16 - order) s) (omega (arith, length-drop (i * 16 - order) s))

pub returns-then-index-eq0 : goal.returns-then-index-eq0
returns-then-index-eq0 c =
    let s = c.args.samples.now in let i = c.args.index in
    subst (λ (xs : List ℤ). IsLeaf xs c.first_leaf.result) (first_sixteen c.args.order s i c.requires.order (first_within i _ c.requires.within) c.if-index-eq0.true) c.first_leaf.ensures

pub returns : goal.returns
returns c =
    let s = c.args.samples.now in let i = c.args.index in
    let some = later i c.if-index-eq0.false in
    subst (λ (xs : List ℤ). IsLeaf xs c.next_leaf.result) (next_sixteen c.args.order s i c.requires.order some c.requires.within) (rw (taken i c.args.order some c.requires.order) at c.next_leaf.ensures)

pub next_leaf-requires : goal.next_leaf-requires
next_leaf-requires c =
    let s = c.args.samples.now in let i = c.args.index in let order = c.args.order in
    let some = later i c.if-index-eq0.false in
    record {
      order = c.requires.order;
      fits = All-take (FitsBits 27) (i * 16 + 16 - (i * 16 - order)) (drop (i * 16 - order) s) (All-drop (FitsBits 27) (i * 16 - order) s c.requires.fits);
      long = rw (taken i order some c.requires.order) (long order i s some c.requires.order c.requires.within);
    }
