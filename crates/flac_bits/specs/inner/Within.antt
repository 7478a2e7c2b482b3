-- For proofs of reading items with a limit of bytes: no allocation failed, and no limit is set.
use Rattle.std.specs.Prelude.{◌≡◌, ℕ, [], Option, Result, Err}
use Rattle.flac_bits.specs.State.{State, short_of}
use Rattle.flac_bits.specs.Layout.{Layout}
use Rattle.flac_bits.specs.declared.why.Why.{Why}
use Rattle.flac_bits.specs.declared.why.Why.TheVariants.{Memory}
use Rattle.flac_bits.specs.Within.{ReadsWithin}

-- the same unless memory ran out
abbrev pub ReadsWithinGivenMemory : {X Y : Type 0} → Option ℕ → (X → Y) → Layout Y → State → State → Result X Why → Type 0
ReadsWithinGivenMemory room view layout old new result = (result ≡ Err Memory → ⊥) → ReadsWithin room view layout old new result

-- no fence is set
pub record IsOpen (s : State) : Type 0 where
  pub none : s.after.fenced ≡ []
  pub short : s.cursor.mark.short ≡ short_of s.after.fails
