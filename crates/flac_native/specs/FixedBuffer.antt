-- What a buffer in memory was sent.
use Rattle.std.specs.Prelude.{ℕ, zero, suc, List, ◌∷◌}

-- As many ones as there are places, a zero, and the bytes: so what a buffer was sent includes its size.
abbrev pub placed : (places : ℕ) → (bytes : List ℕ) → List ℕ
placed zero bytes = 0 ∷ bytes
placed (suc n) bytes = 1 ∷ placed n bytes
