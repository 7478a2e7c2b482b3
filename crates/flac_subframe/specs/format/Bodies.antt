-- The contents of a subframe after its header, what they spell, and which samples they encode.
use Rattle.std.specs.Prelude.{ℕ, ℤ, ◌≡◌, ◌+◌, ◌-◌, ◌*◌, ◌/◌, ◌^◌, ◌<◌, ◌⊎◌, ◌-ℤ◌, List, [], ◌∷◌, ◌++◌, Bool, length, take, drop, map, replicate, All}
use Rattle.std.specs.List.{range_with_len}
use Rattle.flac_subframe.specs.declared.format.coding.Coding.{Coding}
use Rattle.flac_subframe.specs.format.Residual.{Partition, Residual}
use Rattle.flac_subframe.specs.format.Subframe.{Content, Constant, Verbatim, Fixed, Linear}
use Rattle.flac_subframe.specs.format.Spelling.{content_spelling}
use Rattle.flac_subframe.specs.format.Numbers.{sample_at}
use Rattle.flac_subframe.specs.format.Prediction.{prediction, fixed_coefficients, Restored}
use Rattle.flac_subframe.specs.format.Cost.{Codings, MayWrite}
use Rattle.flac_bits.specs.Rice.{IsResidual}

-- A fixed predictor of an order, or a linear one of a precision and a shift, the coefficient for the nearest sample
-- first.
pub data Chooses : Type 0 where
  fixed : ℕ → Chooses
  linear : ℕ → ℕ → List ℤ → Chooses

abbrev pub coefficients_of : Chooses → List ℤ
coefficients_of (fixed order) = fixed_coefficients order
coefficients_of (linear precision shift cs) = cs

abbrev pub shift_of : Chooses → ℕ
shift_of (fixed order) = 0
shift_of (linear precision shift cs) = shift

abbrev pub order_of : Chooses → ℕ
order_of p = length (coefficients_of p)

-- how many bits its own fields take
abbrev pub fields_cost : Chooses → ℕ
fields_cost (fixed order) = 0
fields_cost (linear precision shift cs) = 9 + precision * length cs

-- One sample for all, all samples, or warm-up samples and a residual for a predictor.
pub data Body : Type 0 where
  constant : ℤ → Body
  verbatim : List ℤ → Body
  predicted : Chooses → List ℤ → Codings → List ℤ → Body

-- the values in partitions: the first of one length, and the others of another
unfoldable pub cut : ℕ → ℕ → List ℤ → List Coding → List Partition
cut first size rs [] = []
cut first size rs (c ∷ cs) = record { coding = c; values = take first rs } ∷ cut size size (drop first rs) cs

abbrev pub residual_of : ℕ → List ℤ → Codings → Residual
residual_of order rs f = record {
  method = f.parameter_bits - 4;
  order = f.partition_order;
  partitions = cut ((length rs + order) / 2 ^ f.partition_order - order) ((length rs + order) / 2 ^ f.partition_order) rs f.codings;
}

-- the content of a subframe for a body
abbrev pub content_of : Body → Content
content_of (constant v) = Constant v
content_of (verbatim vs) = Verbatim vs
content_of (predicted (fixed order) ws f rs) = Fixed ws (residual_of (order_of (fixed order)) rs f)
content_of (predicted (linear precision shift cs) ws f rs) = Linear ws (record { precision = precision; shift = shift; coefficients = cs }) (residual_of (length cs) rs f)

abbrev pub spelled : ℕ → Body → List Bool
spelled bits b = content_spelling bits (content_of b)

-- one of a list
abbrev pub Among : Chooses → List Chooses → Type 0
Among p [] = ⊥
Among p (q ∷ qs) = (p ≡ q) ⊎ Among p qs

-- warm-up samples and a residual from which a predictor restores the samples, written with a partition order of at most
-- `most`
pub record Predicts (most : ℕ) (p : Chooses) (ws : List ℤ) (f : Codings) (rs s : List ℤ) : Type 0 where
  pub room : order_of p < length s
  pub long : length ws ≡ order_of p
  pub restored : Restored (coefficients_of p) (shift_of p) (ws ++ rs) s
  pub range : All IsResidual rs
  pub written : MayWrite most (order_of p) rs f

-- the body encodes the samples, with a predictor of the list if it has one
abbrev pub StandsFor : ℕ → List Chooses → Body → List ℤ → Type 0
StandsFor most predictors (constant v) s = s ≡ replicate (length s) v
StandsFor most predictors (verbatim vs) s = vs ≡ s
StandsFor most predictors (predicted p ws f rs) s = Among p predictors × Predicts most p ws f rs s

-- the residual of a predictor: at index j, after the warm-up samples
unfoldable pub difference : List ℤ → ℕ → List ℤ → ℕ → ℤ
difference cs shift s j = sample_at s (length cs + j) -ℤ prediction cs shift s (length cs + j)

abbrev pub differences : List ℤ → ℕ → List ℤ → List ℤ
differences cs shift s = map (difference cs shift s) (range_with_len 0 (length s - length cs))
