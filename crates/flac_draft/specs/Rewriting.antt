-- What writing over bytes does.
use Rattle.std.specs.Prelude.{◌≡◌, ◌≤◌, ℕ, ◌+◌, List, ◌++◌, length, take, drop, Bool, true}

-- these bytes took the place of as many at an offset
pub record IsWrittenOver (at : ℕ) (bytes old new : List ℕ) : Type 0 where
  pub fits : at + length bytes ≤ length old
  pub is : new ≡ take at old ++ (bytes ++ drop (at + length bytes) old)

-- nothing changed but n bytes at an offset
pub record KeepsOutside (at n : ℕ) (old new : List ℕ) : Type 0 where
  pub before : take at new ≡ take at old
  pub after : drop (at + n) new ≡ drop (at + n) old
  pub long : length new ≡ length old

-- ---- the same of a target's bytes, if they are known

abbrev pub WritesAt : (known : Bool) → (at : ℕ) → (bytes old new : List ℕ) → Type 0
WritesAt known at bytes old new = known ≡ true → IsWrittenOver at bytes old new

abbrev pub Spares : (known : Bool) → (at : ℕ) → (bytes old new : List ℕ) → Type 0
Spares known at bytes old new = known ≡ true → KeepsOutside at (length bytes) old new
