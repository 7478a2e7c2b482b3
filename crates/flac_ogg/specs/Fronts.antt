-- A byte in front of those that a source gives.
use Rattle.std.specs.Prelude.{ℕ, List, [], ◌∷◌, Option, Some, None}

abbrev pub front_bytes : Option ℕ → List ℕ
front_bytes None = []
front_bytes (Some b) = b ∷ []

abbrev pub front_count : Option ℕ → ℕ
front_count None = 0
front_count (Some b) = 1
