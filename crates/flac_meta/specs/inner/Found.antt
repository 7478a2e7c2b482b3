-- What is found in comments, and where.
use Rattle.std.specs.Prelude.{◌≡◌, ℕ, ◌<◌, ◌+◌, List, ◌∷◌, length, take, drop, slice_index}
use Rattle.flac_meta.specs.Named.{values_of}
use Rattle.flac_meta.specs.Parts.{HasNoEquals}

-- the first `=` of a text, whose code is 61, is there
abbrev pub IsFirstEquals : List ℕ → ℕ → Type 0
IsFirstEquals text k = (k < length text) × (slice_index text k ≡ 61) × HasNoEquals (take k text)

-- the first comment of this name is there, and this is its value
abbrev pub IsFirstAt : List ℕ → List (List ℕ) → ℕ → List ℕ → Type 0
IsFirstAt name texts i value = (i < length texts) × (values_of name texts ≡ value ∷ values_of name (drop (i + 1) texts))
