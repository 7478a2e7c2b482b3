-- The speakers of a WAV file's channels in a comment, WAVEFORMATEXTENSIBLE_CHANNEL_MASK (RFC 9639, section 8.6.2).
use Rattle.std.specs.Prelude.{ℕ, ◌+◌, ◌*◌, ◌-◌, ◌%◌, ◌^◌, ◌&&◌, Bool, cond, nat_lt, nat_eq, List, [], ◌∷◌, ◌++◌, length, drop, codes, slice_index_or, Option, Some, None}
use Rattle.std.specs.Option.{option_and_then}
use Rattle.std.specs.Int.{to_be_bytes, w32}
use Rattle.hex.specs.Hex.{encode_lower}
use Rattle.flac_meta.specs.Named.{values_of}

-- ---- written

abbrev pub mask_name : List ℕ
mask_name = codes "WAVEFORMATEXTENSIBLE_CHANNEL_MASK"

-- The comment of speakers that are others than those of n channels (RFC 9639, section 8.6.2): their number in eight
-- hexadecimal digits.
abbrev pub mask_comment : (mask : ℕ) → List ℕ
mask_comment mask = mask_name ++ (codes "=0x" ++ encode_lower (to_be_bytes w32 mask))

-- comments, and after them that one, if there is one
abbrev pub words_with : List (List ℕ) → (mask : Option ℕ) → List (List ℕ)
words_with words None = words
words_with words (Some mask) = words ++ mask_comment mask ∷ []

-- ---- read

-- the value of a hexadecimal digit
abbrev pub hex_value : ℕ → Option ℕ
hex_value digit =
    cond (nat_lt 47 digit && nat_lt digit 58) (Some (digit - 48))
    (cond (nat_lt 64 digit && nat_lt digit 71) (Some (digit - 55))
    (cond (nat_lt 96 digit && nat_lt digit 103) (Some (digit - 87)) None))

-- the number that such digits write after n, of which the last eight count
unfoldable pub hex_after : (n : ℕ) → (digits : List ℕ) → Option ℕ
hex_after n [] = Some n
hex_after n (d ∷ ds) = option_and_then (λ v. hex_after ((n * 16 + v) % 2 ^ 32) ds) (hex_value d)

-- 0x, and something after it
abbrev pub is_hex : List ℕ → Bool
is_hex value = nat_lt 2 (length value) && (nat_eq (slice_index_or value 0 0) 48 && nat_eq (slice_index_or value 1 0) 120)

-- the number of such a value
abbrev pub mask_value : List ℕ → Option ℕ
mask_value value = cond (is_hex value) (hex_after 0 (drop 2 value)) None

abbrev pub first_mask : (values : List (List ℕ)) → Option ℕ
first_mask [] = None
first_mask (value ∷ values) = mask_value value

-- the number of the first such comment, if there is one
abbrev pub mask_in : (comments : List (List ℕ)) → Option ℕ
mask_in comments = first_mask (values_of mask_name comments)
