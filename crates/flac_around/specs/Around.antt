-- What other programs put around a stream, and where the stream is between.
use Rattle.std.specs.Prelude.{◌≡◌, ◌≤◌, ℕ, ◌+◌, ◌*◌, ◌-◌, ◌/◌, ◌%◌, ◌&&◌, ◌||◌, nat_eq, nat_lt, Bool, true, false, eqb, cond, List, [], ◌∷◌, ◌++◌, length, take, drop, codes}
use Rattle.std.specs.List.{starts_with}

-- ---- an ID3v2 tag, before the stream (ID3v2.4.0, sections 3.1 and 6.2)

-- a number of 28 bits: seven in each byte
abbrev pub seven_bits : (a b c d : ℕ) → ℕ
seven_bits a b c d = ((a * 128 + b) * 128 + c) * 128 + d

-- the three bytes `ID3`
abbrev pub is_id3 : (i d three : ℕ) → Bool
is_id3 i d three = nat_eq i 73 && (nat_eq d 68 && nat_eq three 51)

-- a version and its revision, which are not FF
abbrev pub is_version : (version revision : ℕ) → Bool
is_version version revision = nat_lt version 255 && nat_lt revision 255

-- four bytes of seven bits each
abbrev pub are_seven_bits : (a b c d : ℕ) → Bool
are_seven_bits a b c d = nat_lt a 128 && (nat_lt b 128 && (nat_lt c 128 && nat_lt d 128))

-- version 4 has a footer after the tag if this flag is set
abbrev pub has_footer : (version flags : ℕ) → Bool
has_footer version flags = nat_eq version 4 && nat_eq (flags / 16 % 2) 1

-- how many bytes come after a header of ten bytes
abbrev pub body_length : (version flags a b c d : ℕ) → ℕ
body_length version flags a b c d = seven_bits a b c d + cond (has_footer version flags) 10 0

-- The length in bytes of the tag at the start: its header of ten bytes, as many as the header says, and the footer. It
-- is 0 if there is no such header. A tag may go past the end of the input.
abbrev pub front_length : List ℕ → ℕ
front_length (i ∷ d ∷ three ∷ version ∷ revision ∷ flags ∷ a ∷ b ∷ c ∷ e ∷ more) =
    cond (is_id3 i d three && (is_version version revision && are_seven_bits a b c e)) (10 + body_length version flags a b c e) 0
front_length bytes = 0

-- these bytes are one tag, and no more
pub record IsFront (bytes : List ℕ) : Type 0 where
  pub tag : 10 ≤ front_length bytes
  pub whole : front_length bytes ≡ length bytes

-- the bytes after it: all, if there is none, and none, if it goes past the end
abbrev pub past_front : List ℕ → List ℕ
past_front bytes = drop (front_length bytes) bytes

-- ---- an ID3v1 tag, after the stream

-- the bytes before the last 128
abbrev pub all_but_128 : List ℕ → List ℕ
all_but_128 bytes = take (length bytes - 128) bytes

-- the last 128 bytes, or all if there are fewer
abbrev pub last_128 : List ℕ → List ℕ
last_128 bytes = drop (length bytes - 128) bytes

-- these are 128 bytes that begin with `TAG`
abbrev pub is_back : List ℕ → Bool
is_back bytes = nat_eq (length bytes) 128 && starts_with eqb bytes (codes "TAG")

-- the bytes before such a tag at the end: all, if there is none
abbrev pub without_back : List ℕ → List ℕ
without_back rest = cond (is_back (last_128 rest)) (all_but_128 rest) rest

-- how many bytes the tag at the end has
abbrev pub back_length : List ℕ → ℕ
back_length rest = cond (is_back (last_128 rest)) 128 0

-- ---- both

-- a tag begins an input, or ends what comes after such a tag
abbrev pub has_tags : List ℕ → Bool
has_tags bytes = nat_lt 0 (front_length bytes) || is_back (last_128 (past_front bytes))

-- the parts of an input
pub record Parts : Type 0 where
  pub before : List ℕ
  pub middle : List ℕ
  pub after : List ℕ

-- one ID3v2 tag at the start, one ID3v1 tag as the end of what comes after it, and the bytes between
abbrev pub around : List ℕ → Parts
around bytes =
    let rest = past_front bytes in
    record { before = take (front_length bytes) bytes; middle = without_back rest; after = drop (length rest - back_length rest) rest }

-- ---- an input that may fail

-- If an error comes in place of the end, no one knows where the last 128 bytes begin. Then the bytes between are those
-- that are not among the last 128 before the error.
abbrev pub middle_of : (fails : Bool) → List ℕ → List ℕ
middle_of fails bytes = cond fails (all_but_128 (past_front bytes)) (without_back (past_front bytes))

-- these are the parts of an input
abbrev pub HasParts : (bytes before middle after : List ℕ) → Type 0
HasParts bytes before middle after = around bytes ≡ record { before = before; middle = middle; after = after }

-- no tag is at the end
abbrev pub HasNoBack : List ℕ → Type 0
HasNoBack bytes = is_back (last_128 bytes) ≡ false

-- ---- laws

-- The parts of an input, one after another, are the input.
abbrev pub PartsAreAll : Type 0
PartsAreAll = (bytes : List ℕ) → (around bytes).before ++ ((around bytes).middle ++ (around bytes).after) ≡ bytes

-- Without a tag at the start and at the end the part between is all of it.
abbrev pub UntaggedIsAll : Type 0
UntaggedIsAll = (bytes : List ℕ) → front_length bytes ≡ 0 → HasNoBack bytes → HasParts bytes [] bytes []

-- Tags that are put around any bytes come off again: both of them; or one, if the bytes themselves have no tag at the
-- other end.
abbrev pub BothComeOff : Type 0
BothComeOff = (front middle back : List ℕ) → IsFront front → is_back back ≡ true → HasParts (front ++ (middle ++ back)) front middle back

abbrev pub FrontComesOff : Type 0
FrontComesOff = (front middle : List ℕ) → IsFront front → HasNoBack middle → HasParts (front ++ middle) front middle []

abbrev pub BackComesOff : Type 0
BackComesOff = (middle back : List ℕ) → front_length (middle ++ back) ≡ 0 → is_back back ≡ true → HasParts (middle ++ back) [] middle back
