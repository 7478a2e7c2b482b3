-- How the header of a frame is spelled (RFC 9639, section 9.1).
use Rattle.std.specs.Prelude.{◌≡◌, ℕ, ◌-◌, ◌/◌, Bool, cond, nat_eq, List, [], ◌∷◌, ◌++◌, Ok, ◌↔◌}
use Rattle.flac_bits.specs.Bits.{unsigned, bit_value}
use Rattle.flac_bits.specs.State.{Mark, past, fresh}
use Rattle.flac_bits.specs.Written.{Written}
use Rattle.flac_bits.specs.Layout.{run}
use Rattle.flac_bits.specs.Meaning.{Spells}
use Rattle.flac_bits.specs.Check.{remainder}
use Rattle.flac_bits.specs.Coded.{number_spelling}
use Rattle.flac_bits.specs.Forms.{joined}
use Rattle.flac_header.specs.Header.{Header, header, IsHeader}

-- the block size, if the code asks for it: one less, in 8 or 16 bits (section 9.1.6)
unfoldable pub size_spelling : ℕ → ℕ → List Bool
size_spelling code size = cond (nat_eq code 6) (unsigned 8 (size - 1)) (cond (nat_eq code 7) (unsigned 16 (size - 1)) [])

-- the rate, if the code asks for it: thousands in 8 bits, or units or tens in 16 (section 9.1.7)
unfoldable pub rate_spelling : ℕ → ℕ → List Bool
rate_spelling code rate =
    cond (nat_eq code 12) (unsigned 8 (rate / 1000)) (cond (nat_eq code 13) (unsigned 16 rate) (cond (nat_eq code 14) (unsigned 16 (rate / 10)) []))

-- the sync code, the blocking strategy, the codes and a zero bit
unfoldable pub code_parts : Header → List (List Bool)
code_parts h = unsigned 15 0x7FFC ∷ unsigned 1 (bit_value h.variable) ∷ unsigned 4 h.size_code ∷ unsigned 4 h.rate_code ∷ unsigned 4 h.channel_code ∷ unsigned 3 h.depth_code ∷ unsigned 1 0 ∷ []

-- the sync code, the blocking strategy, the codes, a zero bit, the coded number, and what the codes ask for
unfoldable pub header_parts : Header → List (List Bool)
header_parts h =
    unsigned 15 0x7FFC ∷ unsigned 1 (bit_value h.variable) ∷ unsigned 4 h.size_code ∷ unsigned 4 h.rate_code ∷ unsigned 4 h.channel_code ∷ unsigned 3 h.depth_code ∷ unsigned 1 0 ∷
    number_spelling h.number ∷ size_spelling h.size_code h.size ∷ rate_spelling h.rate_code h.rate ∷ []

-- the part that the check is computed of
abbrev pub header_front : Header → List Bool
header_front h = joined (header_parts h)

-- these, and CRC-8, the remainder by x^8 + x^2 + x + 1 (section 9.1.8)
abbrev pub header_spelling : Header → List Bool
header_spelling h = header_front h ++ unsigned 8 (remainder 8 7 (header_front h))

-- a writer whose checks begin anew, as they do at a whole byte
abbrev pub restarted : Written → Written
restarted w = record w { mark = fresh w.mark }

-- if the checks begin here, bits spell exactly the headers, each of them in one way
abbrev pub HeadersAreSpelled : Type 0
HeadersAreSpelled = (h : Header) (m : Mark) (text : List Bool) → m.check8 ≡ 0 → Spells header m text h ↔ (IsHeader h × (text ≡ header_spelling h))

-- what is spelled is read again, whatever follows
abbrev pub HeadersAreReadAgain : Type 0
HeadersAreReadAgain = (h : Header) (m : Mark) (rest : List Bool) → m.check8 ≡ 0 → IsHeader h
    → run header (record { left = header_spelling h ++ rest; mark = m }) ≡ Ok (h, record { left = rest; mark = past (header_spelling h) m })
