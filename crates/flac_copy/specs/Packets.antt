-- The packets of an Ogg stream, one after another in memory (RFC 3533, section 6).
use Rattle.std.specs.Prelude.{◌≡◌, ℕ, Bool, true, false, List, [], ◌∷◌, ◌++◌, None}
use Rattle.flac_bits.specs.Bits.{bits_of}
use Rattle.flac_bits.specs.State.{State, Consumes}
use Rattle.flac_pages.specs.Packets.{Place, ahead, rest_of, after_of}
use Rattle.flac_pages.specs.Items.{whole, end_of, HasAfter}
use Rattle.flac_pages.specs.Given.{Takes}

-- if the bits are known, those of these bytes were taken, and the bytes were added to a list
abbrev pub TakesBytes : State → State → (from to : List ℕ) → Type 0
TakesBytes old new from to = old.known ≡ true → (bytes : List ℕ) × (to ≡ from ++ bytes) × Consumes (bits_of bytes) old.cursor new.cursor

-- The packet that was begun is whole, and has the bits of these bytes; the next one is to be begun.
pub record IsHeld (old new : Place) (bytes : List ℕ) : Type 0 where
  pub bits : bits_of (rest_of old) ≡ bits_of bytes
  pub ended : end_of (after_of old) ≡ whole
  pub after : HasAfter old new

abbrev pub HoldsPacket : (old new : Place) → List ℕ → Type 0
HoldsPacket old new bytes = old.known ≡ true → IsHeld old new bytes

-- the next packet is whole, and has the bits of these bytes
pub record IsNext (old new : Place) (bytes : List ℕ) : Type 0 where
  pub packet : List ℕ
  pub taken : Takes old (packet ∷ []) new
  pub bits : bits_of packet ≡ bits_of bytes
  pub known : new.known ≡ true

-- no packet is left, and the input ends after the last page
pub record IsLast (p : Place) : Type 0 where
  pub none : (ahead p).lacing ≡ []
  pub no_fault : (ahead p).stop ≡ None

-- if the bytes are known: there was a next packet, or none
abbrev pub HoldsNext : (old new : Place) → List ℕ → Bool → Type 0
HoldsNext old new bytes true = old.known ≡ true → IsNext old new bytes
HoldsNext old new bytes false = old.known ≡ true → IsLast old
