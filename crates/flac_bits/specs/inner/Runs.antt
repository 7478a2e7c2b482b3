-- For proofs of writing many values at once: bits that are put into a word and into the bytes before it.
use Rattle.std.specs.Prelude.{◌≡◌, ◌≤◌, ◌<◌, ◌^◌, ℕ, ℤ, Bool, List, ◌++◌, length, take, drop, flat_map}
use Rattle.flac_bits.specs.Bits.{bits_of, unsigned}
use Rattle.flac_bits.specs.Rice.{value_bits}

-- a text was put after the bits of a word, and some bytes were taken off them
abbrev pub Extends : List Bool → List Bool → List Bool → List ℕ → List ℕ → Type 0
Extends text rest rest' old new = (more : List ℕ) × (new ≡ old ++ more) × (bits_of more ++ rest' ≡ rest ++ text)

-- the same of the first bytes of arrays, whose ends are in order
abbrev pub ExtendsTo : List Bool → List Bool → List Bool → ℕ → List ℕ → List ℕ → ℕ → Type 0
ExtendsTo text rest rest' end old new to = (end ≤ to) × (to ≤ length old) × Extends text rest rest' (take end old) (take to new)

abbrev pub Extended : List Bool → List Bool → ℕ → List ℕ → ℕ → List ℕ → List Bool → Type 0
Extended rest rest' end old to new text = Extends text rest rest' (take end old) (take to new)

-- a code of at most 64 bits: how many it has, and the number that they are
abbrev pub IsCode : List Bool → ℕ × ℕ → Type 0
IsCode text code = (code.0 ≤ 64) × (code.1 < 2 ^ code.0) × (unsigned code.0 code.1 ≡ text)

-- the codes of the values from one index up to another, as one number: how many bits it has, the number, and the other index
abbrev pub AreNextCodes : ℕ → List ℤ → ℕ → ℕ × ℕ × ℕ → Type 0
AreNextCodes k values from code = (code.0 ≤ 64) × (code.1 < 2 ^ code.0) × (from < code.2) × (code.2 ≤ length values)
    × (flat_map (value_bits k) (drop from values) ≡ unsigned code.0 code.1 ++ flat_map (value_bits k) (drop code.2 values))

-- the values from one index up to another were put, as bits of which P holds
abbrev pub PutsValues : ℕ → List ℤ → ℕ → ℕ → (List Bool → Type 0) → Type 0
PutsValues k values from to P = (text : List Bool) × (flat_map (value_bits k) (drop from values) ≡ text ++ flat_map (value_bits k) (drop to values)) × P text
