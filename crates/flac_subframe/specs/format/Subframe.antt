-- A subframe: its form, its layout, and its samples (RFC 9639, section 9.2).
use Rattle.std.specs.Prelude.{ℕ, ◌+◌, ◌-◌, ◌^◌, Bool, cond, nat_eq, nat_lt, ◌&&◌, ◌||◌, not, ℤ, pos, ◌*ℤ◌, List, [], ◌∷◌, ◌++◌, length, map, replicate, Option, Some, None, Result}
use Rattle.flac_bits.specs.Layout.{Layout, bind, done, bits, unary, judge, refuse, choose, ◌>>=◌}
use Rattle.flac_bits.specs.Lists.{list_of}
use Rattle.flac_bits.specs.Reading.{CallInPlace, Means}
use Rattle.flac_bits.specs.State.{State}
use Rattle.flac_bits.specs.declared.why.Why.{Why}
use Rattle.flac_bits.specs.declared.why.Why.TheVariants.{NotSubset, BadSubframe, BadPredictor, BadPartition}
use Rattle.flac_subframe.specs.declared.format.limits.Limits.{Limits}
use Rattle.flac_subframe.specs.format.Numbers.{all_fit}
use Rattle.flac_subframe.specs.format.Prediction.{fixed_coefficients, restored}
use Rattle.flac_subframe.specs.format.Residual.{Residual, residual, residual_values}
use Rattle.flac_bits.specs.Signed.{signed_field}

-- A linear predictor: the precision of its coefficients in bits, the shift, and the coefficients, the one for the
-- nearest sample first (section 9.2.6).
pub record Predictor : Type 0 where
  pub precision : ℕ
  pub shift : ℕ
  pub coefficients : List ℤ

-- The content of a subframe, by its type.
pub data Content : Type 0 where
  -- one sample, the value of all samples of the block
  Constant : ℤ → Content
  -- the samples themselves
  Verbatim : List ℤ → Content
  -- the warm-up samples of a fixed predictor, as many as its order, and the residual
  Fixed : List ℤ → Residual → Content
  -- the warm-up samples of a linear predictor, what it is, and the residual
  Linear : List ℤ → Predictor → Residual → Content

-- how many lowest bits of each sample are zeros and not stored, and the rest
pub record Form : Type 0 where
  pub wasted : ℕ
  pub content : Content

-- Types 2 to 7 and 13 to 31 are reserved (section 9.2.1).
abbrev pub is_reserved : ℕ → Bool
is_reserved kind = (nat_lt 1 kind && nat_lt kind 8) || (nat_lt 12 kind && nat_lt kind 32)

-- the order of a type's predictor: 8 to 12 are the fixed ones of order 0 to 4, 32 to 63 the linear ones of order 1 to
-- 32 (section 9.2.1)
abbrev pub predictor_order : ℕ → ℕ
predictor_order kind = cond (nat_lt kind 32) (kind - 8) (kind - 31)

abbrev pub linear_order : ℕ → ℕ
linear_order kind = kind - 31

-- Warm-up samples and the residual (section 9.2.5).
unfoldable pub fixed : ℕ → ℕ → ℕ → ℕ → Layout Content
fixed depth block limit order = do
  warm_up ← list_of order (signed_field depth)
  rest ← residual limit order block
  done (Fixed warm_up rest)

-- The precision less one, of which 15 is forbidden; the shift, which is signed and must not be negative; and the
-- coefficients (section 9.2.6).
unfoldable pub predictor : ℕ → Layout Predictor
predictor order = do
  low ← bits 4
  _ ← judge (record { broken = nat_eq low 15; why = BadPredictor } ∷ [])
  shift ← bits 5
  _ ← judge (record { broken = nat_lt 15 shift; why = BadPredictor } ∷ [])
  coefficients ← list_of order (signed_field (low + 1))
  done (record { precision = low + 1; shift = shift; coefficients = coefficients })

-- Warm-up samples, the predictor and the residual (section 9.2.6).
unfoldable pub linear : ℕ → ℕ → ℕ → ℕ → Layout Content
linear depth block limit order = do
  warm_up ← list_of order (signed_field depth)
  chosen ← predictor order
  rest ← residual limit order block
  done (Linear warm_up chosen rest)

unfoldable pub constant : ℕ → Layout Content
constant depth = signed_field depth >>= λ sample. done (Constant sample)

unfoldable pub verbatim : ℕ → ℕ → Layout Content
verbatim depth block = list_of block (signed_field depth) >>= λ samples. done (Verbatim samples)

-- The content of a type, of samples of `depth` bits (sections 9.2.3 to 9.2.6).
unfoldable pub content : ℕ → ℕ → ℕ → ℕ → Layout Content
content kind depth block limit =
    choose (nat_eq kind 0) (constant depth)
    (choose (nat_eq kind 1) (verbatim depth block)
    (choose (nat_lt kind 32) (fixed depth block limit (predictor_order kind)) (linear depth block limit (predictor_order kind))))

-- one more, or the reason if there is none
abbrev pub one_more : Option ℕ → Layout ℕ
one_more (Some zeros) = done (zeros + 1)
one_more None = refuse BadSubframe

-- How many bits are wasted: none, or one more than the zeros before a one; one bit of the depth at least is left
-- (section 9.2.2).
unfoldable pub wasted_bits : ℕ → ℕ → Layout ℕ
wasted_bits flag depth =
    choose (nat_eq flag 0) (done 0) (unary (depth - 2) >>= λ zeros. one_more zeros)

-- What the header of a subframe says: the type, and how many bits are wasted.
pub record Header : Type 0 where
  pub kind : ℕ
  pub wasted : ℕ

-- The header of a subframe: a zero, six bits of the type, and the flag of the wasted bits (sections 9.2.1 and 9.2.2).
unfoldable pub header : ℕ → ℕ → Limits → Layout Header
header depth block limits = do
  zero ← bits 1
  kind ← bits 6
  flag ← bits 1
  _ ← judge (record { broken = nat_eq zero 1 || (is_reserved kind || (nat_eq flag 1 && nat_lt depth 2)); why = BadSubframe } ∷
      record { broken = nat_lt limits.linear (linear_order kind); why = NotSubset } ∷
      record { broken = not (nat_lt (predictor_order kind) block); why = BadPartition } ∷ [])
  wasted ← wasted_bits flag depth
  done (record { kind = kind; wasted = wasted })

-- A subframe of a depth and a block size (section 9.2).
unfoldable pub subframe : ℕ → ℕ → Limits → Layout Form
subframe depth block limits = do
  h ← header depth block limits
  rest ← content h.kind (depth - h.wasted) block limits.partition
  done (record { wasted = h.wasted; content = rest })

-- ---- the samples

-- the samples before the wasted bits are put back, for a block of this size
abbrev pub restored_samples : ℕ → Content → List ℤ
restored_samples block (Constant sample) = replicate block sample
restored_samples block (Verbatim samples) = samples
restored_samples block (Fixed warm_up rest) = restored (fixed_coefficients (length warm_up)) 0 (warm_up ++ residual_values rest)
restored_samples block (Linear warm_up chosen rest) = restored chosen.coefficients chosen.shift (warm_up ++ residual_values rest)

-- these samples, if each fits `depth` bits
unfoldable pub fitting : ℕ → ℕ → Content → Option (List ℤ)
fitting depth block c = cond (all_fit depth (restored_samples block c)) (Some (restored_samples block c)) None

-- the wasted bits put back: each sample times a power of two (section 9.2.2)
abbrev pub scaled : ℕ → Option (List ℤ) → Option (List ℤ)
scaled wasted (Some samples) = Some (map (λ z. z *ℤ pos (2 ^ wasted)) samples)
scaled wasted None = None

-- The samples of a form, if each that was restored fits its bits.
abbrev pub samples_of : ℕ → ℕ → Form → Option (List ℤ)
samples_of depth block form = scaled form.wasted (fitting (depth - form.wasted) block form.content)

-- the layout of a content gives its samples, or nothing if one of them does not fit
abbrev pub fitted : ℕ → ℕ → Layout Content → Layout (Option (List ℤ))
fitted depth block layout = bind layout (λ c. done (fitting depth block c))

-- what a call returns of samples that it has restored: them all if they fit, else nothing
abbrev pub if_fit : List ℤ → Bool → Option (List ℤ)
if_fit s = λ fits. cond fits (Some s) None

unfoldable pub content_samples : ℕ → ℕ → ℕ → ℕ → Layout (Option (List ℤ))
content_samples kind depth block limit = content kind depth block limit >>= λ c. done (fitting depth block c)

unfoldable pub subframe_samples : ℕ → ℕ → Limits → Layout (Option (List ℤ))
subframe_samples depth block limits = subframe depth block limits >>= λ form. done (samples_of depth block form)

-- What a call reads of a subframe: its samples, in their places, or that one of them does not fit.
abbrev pub ReadsSubframe : ℕ → ℕ → Limits → List ℤ → State → State → Result Bool Why → Type 0
ReadsSubframe depth block limits after old new result = CallInPlace 8 (Means (if_fit after) (subframe_samples depth block limits)) old new result

-- the same from a header on
abbrev pub samples_by_layout : ℕ → ℕ → Limits → Layout (Option (List ℤ))
samples_by_layout depth block limits = bind (header depth block limits) (λ h. bind (content_samples h.kind (depth - h.wasted) block limits.partition) (λ o. done (scaled h.wasted o)))
