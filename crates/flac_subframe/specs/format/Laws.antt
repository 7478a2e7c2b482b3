-- What the samples of a form are, as equations, and the laws.
use Rattle.std.specs.Prelude.{◌≡◌, ℕ, ◌<◌, ◌≤◌, ◌↔◌, Bool, ℤ, List, ◌++◌, length, Ok}
use Rattle.flac_bits.specs.State.{Mark, past}
use Rattle.flac_bits.specs.Layout.{run}
use Rattle.flac_bits.specs.Meaning.{Spells}
use Rattle.flac_subframe.specs.declared.format.limits.Limits.{Limits}
use Rattle.flac_subframe.specs.format.Spelling.{subframe_spelling, IsSubframe}
use Rattle.flac_subframe.specs.format.Numbers.{sample_at}
use Rattle.flac_subframe.specs.format.Prediction.{fixed_coefficients, Restored}
use Rattle.flac_subframe.specs.format.Residual.{residual_values}
use Rattle.flac_subframe.specs.format.Subframe.{Content, Constant, Verbatim, Fixed, Linear, Form, subframe, restored_samples}

-- s are the samples of a content in a block of a size, before the wasted bits are put back (RFC 9639, sections 9.2.3 to
-- 9.2.6).
abbrev pub RestoredBy : ℕ → Content → List ℤ → Type 0
RestoredBy block (Constant sample) s = (length s ≡ block) × ((k : ℕ) → k < block → sample_at s k ≡ sample)
RestoredBy block (Verbatim samples) s = s ≡ samples
RestoredBy block (Fixed warm_up rest) s = Restored (fixed_coefficients (length warm_up)) 0 (warm_up ++ residual_values rest) s
RestoredBy block (Linear warm_up chosen rest) s = Restored chosen.coefficients chosen.shift (warm_up ++ residual_values rest) s

-- a linear predictor has as many warm-up samples as coefficients (section 9.2.6)
abbrev pub HasWarmUp : Content → Type 0
HasWarmUp (Constant sample) = Unit {0}
HasWarmUp (Verbatim samples) = Unit {0}
HasWarmUp (Fixed warm_up rest) = Unit {0}
HasWarmUp (Linear warm_up chosen rest) = length warm_up ≡ length chosen.coefficients

-- the samples that reading computes are exactly those that satisfy the equations
abbrev pub SamplesAreRestored : Type 0
SamplesAreRestored = (block : ℕ) (c : Content) (s : List ℤ) → HasWarmUp c → RestoredBy block c s ↔ (s ≡ restored_samples block c)

-- the layout spells exactly the valid forms, each of them in one way
abbrev pub SubframesAreSpelled : Type 0
SubframesAreSpelled = (depth block : ℕ) (limits : Limits) (m : Mark) (text : List Bool) (f : Form) → 1 ≤ depth → 1 ≤ block → limits.linear ≤ 32
    → Spells (subframe depth block limits) m text f ↔ (IsSubframe depth block limits f × (text ≡ subframe_spelling depth f))

-- what is spelled is read again, whatever follows
abbrev pub SubframesAreReadAgain : Type 0
SubframesAreReadAgain = (depth block : ℕ) (limits : Limits) (m : Mark) (rest : List Bool) (f : Form) → 1 ≤ depth → 1 ≤ block → limits.linear ≤ 32 → IsSubframe depth block limits f
    → run (subframe depth block limits) (record { left = subframe_spelling depth f ++ rest; mark = m }) ≡ Ok (f, record { left = rest; mark = past (subframe_spelling depth f) m })
