-- The serial number of an Ogg stream (RFC 3533, section 6).
use Rattle.std.specs.Prelude.{◌≡◌, ℕ, Bool, true, false, cond, nat_lt, List, length, take, drop, Option, Some, None}
use Rattle.std.specs.Int.{from_le_bytes, w32}
use Rattle.flac_bits.specs.declared.source.Source as source
use Rattle.flac_copy.specs.Again.{all_of, Holds}
use Rattle.flac_copy.specs.declared.again.Again.{Again}
use Rattle.flac_copy.specs.declared.opened.Copying.{Copying}

-- The serial number of the page that begins with these bytes, if they are enough: bytes 14 to 17, the lowest first
-- (field 5).
abbrev pub serial_in : List ℕ → Option ℕ
serial_in bytes = cond (nat_lt (length bytes) 18) None (Some (from_le_bytes w32 (take 4 (drop 14 bytes))))

-- that of a stream with these bytes; a native one has none
abbrev pub serial_as : (is_ogg : Bool) → List ℕ → Option ℕ
serial_as true bytes = serial_in bytes
serial_as false bytes = None

-- that of the stream that was opened; a native one has none
abbrev pub serial_of : {S : Type 0} → Copying S → Option ℕ
serial_of c = c.serial

-- The bytes that come first are held; they show this serial number, if they are known.
abbrev pub ShowsSerial : {S : Type 0} → source.Ghosts S → (old new : Again S) → Option ℕ → Type 0
ShowsSerial g old new serial = Holds g old new × (g.known old.source ≡ true → serial ≡ serial_in (all_of g.coming old))
