-- Parts of a spelling, and lists of bytes.
use Rattle.std.specs.Prelude.{◌≡◌, ℕ, ◌<◌, ◌^◌, Bool, List, [], ◌∷◌, ◌++◌, length}

-- parts, one after another
abbrev pub joined : List (List Bool) → List Bool
joined [] = []
joined (part ∷ parts) = part ++ joined parts

-- each is below 256
abbrev pub AreBytes : List ℕ → Type 0
AreBytes [] = Unit {0}
AreBytes (x ∷ xs) = (x < 2 ^ 8) × AreBytes xs

-- n bytes
pub record IsBytes (n : ℕ) (xs : List ℕ) : Type 0 where
  pub many : length xs ≡ n
  pub small : AreBytes xs
