-- For proofs of the bit writer: a spelling that is written part by part.
use Rattle.std.specs.Prelude.{◌≡◌, Bool, true, List, [], ◌∷◌, ◌++◌, Result, Ok, Err}
use Rattle.flac_bits.specs.State.{Mark, past}
use Rattle.flac_bits.specs.declared.why.Why.{Why}
use Rattle.flac_bits.specs.Written.{Written, Fails}

-- the bits, and these parts after them
abbrev pub after_parts : List Bool → List (List Bool) → List Bool
after_parts bits [] = bits
after_parts bits (part ∷ parts) = after_parts (bits ++ part) parts

-- the mark after these parts
abbrev pub past_parts : List (List Bool) → Mark → Mark
past_parts [] m = m
past_parts (part ∷ parts) m = past_parts parts (past part m)

-- these parts were written, one after another
pub record Wrote (parts : List (List Bool)) (old new : Written) : Type 0 where
  pub known : old.known ≡ true → new.known ≡ true
  pub errors : new.errors ≡ old.errors
  pub names : new.names ≡ old.names
  pub mark : new.mark ≡ past_parts parts old.mark
  pub bits : old.known ≡ true → new.bits ≡ after_parts old.bits parts

-- the same as Writes of the joined parts, in the form that a chain of calls gives
abbrev pub WritesParts : {X : Type 0} → List (List Bool) → Written → Written → Result X Why → Type 0
WritesParts parts old new (Ok x) = Wrote parts old new
WritesParts parts old new (Err e) = Fails (after_parts old.bits parts) old new e
