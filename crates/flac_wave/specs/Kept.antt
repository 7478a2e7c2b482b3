-- What the pieces of a WAV file say of its samples.
use Rattle.std.specs.Prelude.{ℕ, ◌&&◌, Bool, true, false, cond, nat_lt, List, [], ◌∷◌, length, is_none}
use Rattle.flac_wave.specs.Chunks.{is_format, header_fault}
use Rattle.flac_wave.specs.Format.{short_at}
use Rattle.flac_wave.specs.Wave.{is_head}

-- the header of the samples is one of them
abbrev pub has_head : List (List ℕ) → Bool
has_head [] = false
has_head (p ∷ ps) = cond (is_head p) true (has_head ps)

-- the bits of a sample that are known after a piece: a chunk `fmt ` states them
abbrev pub bits_after : ℕ → List ℕ → ℕ
bits_after bits piece = cond (nat_lt 23 (length piece) && is_format piece) (short_at 22 piece) bits

-- those that are known at the header of the samples, if `bits` are known before the pieces
abbrev pub bits_in : (bits : ℕ) → List (List ℕ) → ℕ
bits_in bits [] = bits
bits_in bits (p ∷ ps) = cond (is_head p) bits (bits_in (bits_after bits p) ps)

-- the first of them begins as a WAV file does
abbrev pub begins_file : List (List ℕ) → Bool
begins_file [] = false
begins_file (p ∷ ps) = is_none (header_fault p)

-- They make a WAV file again: the header of the file comes first, and a chunk `fmt ` before the header of the samples.
abbrev pub are_file : List (List ℕ) → Bool
are_file pieces = has_head pieces && (begins_file pieces && nat_lt 0 (bits_in 0 pieces))
