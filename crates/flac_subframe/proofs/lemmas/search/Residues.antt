-- A residual and its folded numbers at the front of arrays.
use Rattle.std.proofs.Common.{◌≡◌, ◌∙◌, ap, ℕ, ◌<◌, ◌^◌, ℤ, List, ◌++◌, length, map, take, get_or, All, Fits, w32, arith}
use Rattle.std.proofs.lemmas.List.{take_at, get_or_default, length-map}
use Rattle.std.proofs.lemmas.List.Elements.{All-take}
use Rattle.flac_bits.specs.Rice.{IsResidual, folded}
use Rattle.flac_subframe.specs.search.inner.Halves.{HasResidual}

pub residual_put : (rs v vs : List ℤ) (f fs : List ℕ) → v ≡ rs → f ≡ map folded v → All IsResidual v → HasResidual rs (v ++ vs) (f ++ fs)
residual_put rs v vs f fs is folds range = record {
  begins = take_at v vs (length rs) (ap (λ (l : List ℤ). length l) is) ∙ is;
  unsigned = take_at f fs (length rs) (ap (λ (l : List ℕ). length l) folds ∙ length-map v folded ∙ ap (λ (l : List ℤ). length l) is) ∙ folds ∙ ap (map folded) is;
  range = rw is at range;
}

small : (n : ℕ) → Fits w32 n → n < 2 ^ 32
small n fits = omega arith

pub folds_small : (n : ℕ) (folds : List ℕ) → ((i : ℕ) → Fits w32 (get_or folds i 0)) → All (λ n. n < 2 ^ 32) (take n folds)
folds_small n folds fits = All-take (λ n. n < 2 ^ 32) n folds (λ k d h. rw (get_or_default folds k d 0 h) (small (get_or folds k 0) (fits k)))
