-- Bytes as bits, and numbers as runs of bits.
use Rattle.std.specs.Prelude.{ℕ, zero, suc, Bool, true, false, cond, nat_eq, List, [], ◌∷◌, ◌++◌}
use Rattle.std.specs.Int.{bit_at}

-- the lowest n bits of v, the highest of them first
abbrev pub unsigned : ℕ → ℕ → List Bool
unsigned zero v = []
unsigned (suc n) v = nat_eq (bit_at v n) 1 ∷ unsigned n v

-- the bits of bytes, each byte's highest bit first
abbrev pub bits_of : List ℕ → List Bool
bits_of [] = []
bits_of (b ∷ bs) = unsigned 8 b ++ bits_of bs

abbrev pub bit_value : Bool → ℕ
bit_value b = cond b 1 0

abbrev pub is_nil : {A : Type 0} → List A → Bool
is_nil [] = true
is_nil (x ∷ xs) = false
