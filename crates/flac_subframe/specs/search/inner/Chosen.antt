-- For proofs of the search: what the best choice so far is.
use Rattle.std.specs.Prelude.{ℕ, ℤ, List, length, ◌≡◌, ◌<◌, ◌≤◌, ◌^◌, ◌⊎◌, All}
use Rattle.flac_subframe.specs.format.Least.{IsLeast}
use Rattle.flac_bits.specs.Rice.{IsResidual}
use Rattle.flac_subframe.specs.format.Cost.{MayWrite}
use Rattle.flac_subframe.specs.format.inner.Cost.{residual_cost}
use Rattle.flac_subframe.specs.format.Cost.{Codings, codings_in}
use Rattle.flac_subframe.specs.declared.format.content.ContentKind.{ContentKind}
use Rattle.flac_subframe.specs.declared.search.choice.Best.{Best}
use Rattle.flac_subframe.specs.declared.format.linear.LinearPredictor.{LinearPredictor}
use Rattle.flac_subframe.specs.format.Bodies.{Chooses, coefficients_of, shift_of, differences, StandsFor, spelled}
use Rattle.flac_subframe.specs.format.Chosen.{body_as, fixed_below, HasPredictor}

-- the residual of a predictor
abbrev pub residual_by : Chooses → List ℤ → List ℤ
residual_by p s = differences (coefficients_of p) (shift_of p) s

-- a way to write samples, and its number of bits; only a content with a residual uses the codings
pub record Way : Type 0 where
  pub content : ContentKind
  pub codings : Codings
  pub bits : ℕ

-- the best so far, and the bytes of its codings
abbrev pub way_of : Best → List ℕ → Way
way_of b bytes = record { content = b.content; codings = codings_in b.residual bytes; bits = b.bits }

-- the way is the shortest by the predictors that were tried; its linear predictor is from the list
pub record IsBest (handed : List LinearPredictor) (most bits : ℕ) (s : List ℤ) (tried : List Chooses) (w : Way) : Type 0 where
  pub within : HasPredictor handed w.content
  pub least : IsLeast (λ b. StandsFor most tried b s) (λ b. length (spelled bits b)) (body_as handed w.content w.codings s)
  pub priced : w.bits ≡ length (spelled bits (body_as handed w.content w.codings s))
  pub small : w.bits ≤ 2 ^ 60

-- the best before a predictor was tried, whatever the list and the bytes of codings
abbrev pub IsBestOfNone : ℕ → List ℤ → Best → Type 0
IsBestOfNone bits s best = (handed : List LinearPredictor) (most : ℕ) (codings : List ℕ) → IsBest handed most bits s (fixed_below 0) (way_of best codings)

-- codings are the shortest for the residual of a predictor, and take n bits
pub record IsLeastOf (most : ℕ) (cs : List ℤ) (shift : ℕ) (s : List ℤ) (f : Codings) (n : ℕ) : Type 0 where
  pub room : length cs < length s
  pub range : All IsResidual (differences cs shift s)
  pub least : IsLeast (MayWrite most (length cs) (differences cs shift s)) (residual_cost (length cs) (differences cs shift s)) f
  pub bits : n ≡ residual_cost (length cs) (differences cs shift s) f
  pub small : n ≤ 2 ^ 49

-- the predictor cannot be used: its order is too large, or a residual value is out of range
abbrev pub HasNone : List ℤ → ℕ → List ℤ → Type 0
HasNone cs shift s = (length s ≤ length cs) ⊎ (All IsResidual (differences cs shift s) → ⊥)
