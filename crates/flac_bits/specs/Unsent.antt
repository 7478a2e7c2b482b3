-- What a writer holds of the bits that were written.
use Rattle.std.specs.Prelude.{◌≡◌, ℕ, Bool, List, [], ◌++◌}
use Rattle.flac_bits.specs.Bits.{bits_of}
use Rattle.flac_bits.specs.State.{Mark, past, first_mark}

-- whole bytes, the bits after them, and the mark after all of these
pub record Unsent : Type 0 where
  pub bytes : List ℕ
  pub rest : List Bool
  pub mark : Mark

-- these bits were put after those that were held
abbrev pub Puts : List Bool → Unsent → Unsent → Type 0
Puts text old new = (bits_of new.bytes ++ new.rest ≡ (bits_of old.bytes ++ old.rest) ++ text) × (new.mark ≡ past text old.mark)

-- the same bits are held
abbrev pub KeepsBits : Unsent → Unsent → Type 0
KeepsBits old new = (bits_of new.bytes ++ new.rest ≡ bits_of old.bytes ++ old.rest) × (new.mark ≡ old.mark)

-- nothing is held
abbrev pub none_unsent : Unsent
none_unsent = record { bytes = []; rest = []; mark = first_mark }
