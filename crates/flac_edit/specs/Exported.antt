-- What is exported of the metadata blocks of a stream.
use Rattle.std.specs.Prelude.{ℕ, ◌+◌, ◌/◌, ◌%◌, Bool, ◌&&◌, not, cond, nat_eq, nat_lt, nat_le, List, [], ◌∷◌, ◌++◌, flat_map, Option, Some, None}
use Rattle.flac_meta.specs.declared.cue_sheet.CueSheet.{CueSheet}
use Rattle.flac_meta.specs.declared.picture.Picture.{Picture}
use Rattle.flac_meta.specs.declared.block.Block.{Block}
use Rattle.flac_meta.specs.declared.block.Block.TheVariants as block_of

-- ---- comments as lines

-- 0 to 9, and a to f
abbrev pub hex_digit : ℕ → ℕ
hex_digit n = cond (nat_lt n 10) (48 + n) (87 + n)

-- a byte from 20 to 7E (hexadecimal) but the backslash, 92
abbrev pub is_plain : ℕ → Bool
is_plain b = nat_le 32 b && (nat_lt b 127 && not (nat_eq b 92))

-- such a byte is itself, any other a backslash, an x and two digits
abbrev pub escaped_byte : ℕ → List ℕ
escaped_byte b = cond (is_plain b) (b ∷ []) (92 ∷ 120 ∷ hex_digit (b / 16) ∷ hex_digit (b % 16) ∷ [])

abbrev pub escaped : List ℕ → List ℕ
escaped bytes = flat_map escaped_byte bytes

-- a comment, and the end of its line
abbrev pub comment_line : List ℕ → List ℕ
comment_line comment = escaped comment ++ 10 ∷ []

abbrev pub comment_lines : List (List ℕ) → List ℕ
comment_lines comments = flat_map comment_line comments

-- ---- pictures

abbrev pub first_picture : List Block → Option Picture
first_picture [] = None
first_picture (block_of.Picture p ∷ bs) = Some p
first_picture (b ∷ bs) = first_picture bs

-- ---- cue sheets

abbrev pub first_sheet : List Block → Option CueSheet
first_sheet [] = None
first_sheet (block_of.CueSheet s ∷ bs) = Some s
first_sheet (b ∷ bs) = first_sheet bs
