-- Blocks whose content is held in memory.
use Rattle.std.specs.Prelude.{◌≡◌, ℕ, ◌<◌, true, Result, Err}
use Rattle.flac_bits.specs.State.{State}
use Rattle.flac_bits.specs.declared.why.Why.{Why}
use Rattle.flac_bits.specs.declared.why.Why.TheVariants.{Memory}

-- If memory ran out, and the source did not fail so, the block is neither STREAMINFO (type 0) nor padding (type 1), for
-- which nothing is allocated.
abbrev pub IsAllocated : {X : Type 0} → (kind : ℕ) → (old new : State) → Result X Why → Type 0
IsAllocated kind old new result = result ≡ Err Memory → old.known ≡ true → new.errors ≡ old.errors → (old.cursor.mark.short ≡ Memory → ⊥) → 1 < kind
