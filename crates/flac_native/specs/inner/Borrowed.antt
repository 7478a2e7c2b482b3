-- For proofs of encoding: what a target was sent since it was borrowed.
use Rattle.std.specs.Prelude.{ℕ, Bool, true, false, cond, nat_eq, List, [], ◌∷◌, ◌++◌, length}

-- the bytes that were sent before are still there
abbrev pub has_still : (before now : List ℕ) → Bool
has_still [] now = true
has_still (b ∷ before) [] = false
has_still (b ∷ before) (c ∷ now) = cond (nat_eq b c) (has_still before now) false

-- A one and the bytes after those, or a zero if they are no longer there.
abbrev pub sent_since : (before now : List ℕ) → List ℕ
sent_since [] now = 1 ∷ now
sent_since (b ∷ before) [] = 0 ∷ []
sent_since (b ∷ before) (c ∷ now) = cond (nat_eq b c) (sent_since before now) (0 ∷ [])

-- the bytes that were sent before, among names: how many they are, the bytes, and the names
abbrev pub named : (before names : List ℕ) → List ℕ
named before names = length before ∷ (before ++ names)
