-- That a list of blocks has no fault.
use Rattle.std.proofs.Common.{◌≡◌, Bool, true, false, cond, Option, Some, None, refl}
use Rattle.flac_bits.specs.declared.why.Why.{Why}
use Rattle.flac_meta.specs.Listed.{came, block_fault, fault_after, or_else}
use Rattle.flac_meta.specs.Valid.{FitsFields, IsBlock}
use Rattle.flac_meta.specs.declared.block.Block.{Block}
use Rattle.flac_meta.specs.declared.block.Seen.{Seen}

-- neither of two has one
pub or_else_none : (x y : Option Why) → or_else x y ≡ None → (x ≡ None) × (y ≡ None)
or_else_none None y e = (refl, e)
or_else_none (Some w) y e = absurd cc

first_none : {A : Type 0} (b : Bool) (x : A) (rest : Option A) → cond b (Some x) rest ≡ None → (b ≡ false) × (rest ≡ None)
first_none true x rest e = absurd cc
first_none false x rest e = (refl, e)

-- a block without a fault did not come before where it may come once, and may be written
pub fault_none : (seen : Seen) (b : Block) → fault_after seen b ≡ None → (came seen b ≡ false) × (block_fault b ≡ None)
fault_none seen b e = first_none (came seen b) _ (block_fault b) e

two : (b : Bool) → b ≡ true → b ≡ false → ⊥
two true e f = absurd cc
two false e f = absurd cc

-- a block of the list, after STREAMINFO, may come where it comes
pub listed : (seen : Seen) (b : Block) → seen.stream_info ≡ true → fault_after seen b ≡ None → FitsFields b → IsBlock seen b
listed seen b first e fits =
    let k = fault_none seen b e in
    record { first = λ h. absurd (two seen.stream_info first h); once = k.0; written = k.1; fits = fits }
