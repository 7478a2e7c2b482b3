-- The bytes with which a frame begins (RFC 9639, section 9.1).
use Rattle.std.specs.Prelude.{◌≡◌, ℕ, ◌+◌, ◌<◌, ◌≤◌, List, length, get_or}

-- fourteen bits of the sync code and a zero, whatever the next bit is
pub record IsSync (bytes : List ℕ) (at : ℕ) : Type 0 where
  pub some : at + 1 < length bytes
  pub first : get_or bytes at 0 ≡ 255
  pub least : 248 ≤ get_or bytes (at + 1) 0
  pub most : get_or bytes (at + 1) 0 ≤ 249
