-- The width of a partition is the greater of its halves'.
use Rattle.std.proofs.Common.{◌≡◌, ◌∙◌, ap, inl, inr, ℕ, ◌+◌, ◌*◌, ◌^◌, ◌≤◌, ◌<◌, arith, ℤ, List, ◌++◌, length, All, take, get_or, slice_set, max, length-append}
use Rattle.std.proofs.Math.Nat.{pow-le-pow_right}
use Rattle.std.proofs.lemmas.Bool.{cases_lt}
use Rattle.std.proofs.lemmas.List.{get_or-set_same, get_or-set_other, get_or_append_left, get_or-append-add, length-take-le}
use Rattle.std.proofs.lemmas.List.Elements.{All-append}
use Rattle.flac_subframe.specs.search.inner.Halves.{part, Halves, IsWidth}
use Rattle.flac_subframe.proofs.lemmas.search.Splits.{part_splits, halves_at, power_more}
use Rattle.flac_subframe.specs.format.Spelling.{FitsWidth}

pub width_joined : (a b : List ℤ) (x y : ℕ) → IsWidth a x → IsWidth b y → IsWidth (a ++ b) (max x y)
width_joined a b x y p q n = (
  λ all.
      let left : All (FitsWidth n) a = λ k d h. rw (get_or_append_left a b d k h) at (all k d (omega (arith, length-append a b))) in
      let right : All (FitsWidth n) b = λ k d h. rw (get_or-append-add a b k d) at (all (length a + k) d (omega (arith, length-append a b))) in
      omega (arith, (p n).0 left, (q n).0 right),
  λ le. All-append (FitsWidth n) a b ((p n).1 (omega arith)) ((q n).1 (omega arith)),
)

-- the widths from a place on
pub record WidthsFrom (order : ℕ) (rs : List ℤ) (high at : ℕ) (widths : List ℕ) : Type 0 where
  pub done : (p j : ℕ) → p ≤ high → j < 2 ^ p → at ≤ 2 ^ p + j → IsWidth (part order rs p j) (get_or widths (2 ^ p + j) 0)
  pub small : (p j : ℕ) → p ≤ high → j < 2 ^ p → at ≤ 2 ^ p + j → get_or widths (2 ^ p + j) 0 ≤ 32

finest : (p j high : ℕ) → p ≤ high → j < 2 ^ p → 2 ^ high ≤ 2 ^ p + j → p ≡ high
finest p j high le b h = elim (cases_lt p high) [
  | inl less ↦ let e : 2 ^ (p + 1) ≤ 2 ^ high = pow-le-pow_right {n = 2} (omega arith) {i = p + 1} {j = high} (omega arith) in
      let t : 2 ^ (p + 1) ≡ 2 * 2 ^ p = power_more (p + 1) (omega arith) ∙ ap (λ (n : ℕ). 2 * 2 ^ n) (omega arith) in
      absurd (omega arith)
  | inr not ↦ omega arith
]

module _ (order : ℕ) (rs : List ℤ) (high : ℕ) (widths : List ℕ) where
  pub widths_lowest : ((p j : ℕ) → high ≤ p → p ≤ high → j < 2 ^ p → IsWidth (part order rs p j) (get_or widths (2 ^ p + j) 0) × (get_or widths (2 ^ p + j) 0 ≤ 32)) → WidthsFrom order rs high (2 ^ high) widths
  widths_lowest so = record {
    done = λ p j le b h. (so p j (omega (arith, finest p j high le b h)) le b).0;
    small = λ p j le b h. (so p j (omega (arith, finest p j high le b h)) le b).1;
  }

  pub widths_more : (i : ℕ) → 1 ≤ i → i < 2 ^ high → i < length widths → Halves order rs high → WidthsFrom order rs high (i + 1) widths →
      WidthsFrom order rs high i (slice_set widths i (max (get_or widths (2 * i) 0) (get_or widths (2 * i + 1) 0)))
  widths_more i some less within halves so =
      let v : ℕ = max (get_or widths (2 * i) 0) (get_or widths (2 * i + 1) 0) in
      let coarse : (p j : ℕ) → p ≤ high → 2 ^ p + j ≡ i → p < high = λ p j le e. elim (cases_lt p high) [
        | inl b ↦ b
        | inr b ↦ let same : p ≡ high = omega arith in let e' : 2 ^ high + j ≡ i = rw same at e in absurd (omega arith)
      ] in
      let twice : (p : ℕ) → 2 ^ (p + 1) ≡ 2 * 2 ^ p = λ p. power_more (p + 1) (omega arith) ∙ ap (λ (n : ℕ). 2 * 2 ^ n) (omega arith) in
      let left : (p j : ℕ) → 2 ^ p + j ≡ i → 2 ^ (p + 1) + 2 * j ≡ 2 * i = λ p j e. omega (arith, twice p) in
      let right : (p j : ℕ) → 2 ^ p + j ≡ i → 2 ^ (p + 1) + (2 * j + 1) ≡ 2 * i + 1 = λ p j e. omega (arith, twice p) in
      record {
        done = λ p j le b h. elim (cases_lt i (2 ^ p + j)) [
          | inl more ↦ rw (get_or-set_other widths i (2 ^ p + j) v 0 (λ e. omega arith)) (so.done p j le b (omega arith))
          | inr not ↦
              let e : 2 ^ p + j ≡ i = omega arith in
              let less' = coarse p j le e in
              let a : IsWidth (part order rs (p + 1) (2 * j)) (get_or widths (2 * i) 0) = rw (← left p j e) (so.done (p + 1) (2 * j) (omega arith) (omega (arith, twice p)) (omega (arith, twice p))) in
              let c : IsWidth (part order rs (p + 1) (2 * j + 1)) (get_or widths (2 * i + 1) 0) = rw (← right p j e) (so.done (p + 1) (2 * j + 1) (omega arith) (omega (arith, twice p)) (omega (arith, twice p))) in
              rw (e, get_or-set_same widths i v 0 within, part_splits order rs p j (halves_at order rs high (p + 1) (omega arith) halves))
              (width_joined (part order rs (p + 1) (2 * j)) (part order rs (p + 1) (2 * j + 1)) (get_or widths (2 * i) 0) (get_or widths (2 * i + 1) 0) a c)
        ];
        small = λ p j le b h. elim (cases_lt i (2 ^ p + j)) [
          | inl more ↦ rw (get_or-set_other widths i (2 ^ p + j) v 0 (λ e. omega arith)) (so.small p j le b (omega arith))
          | inr not ↦
              let e : 2 ^ p + j ≡ i = omega arith in
              let less' = coarse p j le e in
              let a : get_or widths (2 * i) 0 ≤ 32 = rw (← left p j e) (so.small (p + 1) (2 * j) (omega arith) (omega (arith, twice p)) (omega (arith, twice p))) in
              let c : get_or widths (2 * i + 1) 0 ≤ 32 = rw (← right p j e) (so.small (p + 1) (2 * j + 1) (omega arith) (omega (arith, twice p)) (omega (arith, twice p))) in
              rw (e, get_or-set_same widths i v 0 within) (omega arith)
        ];
      }

-- what was written between a front and a back
pub at_place : (f i j : ℕ) (old new post : List ℕ) → f ≤ length old → i ≡ f + j → j < length new → get_or (take f old ++ (new ++ post)) i 0 ≡ get_or new j 0
at_place f i j old new post within is h =
    let l : length (take f old) ≡ f = length-take-le f old within in
    let e : i ≡ length (take f old) + j = omega arith in
    rw (e, get_or-append-add (take f old) (new ++ post) j 0) (get_or_append_left new post 0 j h)
