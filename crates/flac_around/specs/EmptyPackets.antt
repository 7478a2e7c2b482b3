-- Empty packets after the last frame of an Ogg stream, which other programs write, and the stream without them.
use Rattle.std.specs.Prelude.{ℕ, zero, suc, ◌+◌, ◌%◌, ◌&&◌, ◌||◌, not, nat_eq, nat_lt, Bool, false, eqb, cond, List, [], ◌∷◌, ◌++◌, length, take, drop, get_or}
use Rattle.std.specs.Int.{to_le_bytes, w32}
use Rattle.std.specs.List.{starts_with, sum}
use Rattle.flac_bits.specs.Bits.{bits_of}
use Rattle.flac_bits.specs.Check.{remainder}

-- ---- a page at the start of an input (RFC 3533, section 6)

-- The bytes before the checksum, the four of the checksum, the lacing values (how long each segment is), and the bytes
-- of the segments. Between checksum and lacing values one byte says how many these are.
pub record Page : Type 0 where
  pub fields : List ℕ
  pub check : List ℕ
  pub lacing : List ℕ
  pub body : List ℕ

-- how many lacing values it has
abbrev pub count_at : List ℕ → ℕ
count_at bytes = get_or bytes 26 0

abbrev pub lacing_at : List ℕ → List ℕ
lacing_at bytes = take (count_at bytes) (drop 27 bytes)

abbrev pub page_at : List ℕ → Page
page_at bytes = record { fields = take 22 bytes; check = take 4 (drop 22 bytes); lacing = lacing_at bytes; body = take (sum (lacing_at bytes)) (drop (27 + count_at bytes) bytes) }

-- how long it is
abbrev pub page_length : List ℕ → ℕ
page_length bytes = 27 + count_at bytes + sum (lacing_at bytes)

-- its bytes
abbrev pub page_bytes : Page → List ℕ
page_bytes p = p.fields ++ (p.check ++ (length p.lacing ∷ (p.lacing ++ p.body)))

-- the checksum that it has to have: that of all its bytes, in which its own four are zeros
unfoldable pub check_of : Page → List ℕ
check_of p = to_le_bytes w32 (remainder 32 79764919 (bits_of (page_bytes (record p { check = 0 ∷ 0 ∷ 0 ∷ 0 ∷ [] }))))

-- the page with the checksum that it has to have
abbrev pub checked : Page → Page
checked p = record p { check = check_of p }

-- the pattern `OggS`, and version 0
abbrev pub begins_page : List ℕ → Bool
begins_page bytes = starts_with eqb bytes (79 ∷ 103 ∷ 103 ∷ 83 ∷ 0 ∷ [])

-- the input ends before it is known whether a page is at its start, or inside this page
abbrev pub is_cut : List ℕ → Bool
is_cut bytes = nat_lt (length bytes) 27 || (begins_page bytes && nat_lt (length bytes) (page_length bytes))

-- a page is at the start, whose checksum is right
abbrev pub is_page : List ℕ → Bool
is_page bytes = begins_page bytes && starts_with eqb (page_at bytes).check (check_of (page_at bytes))

-- ---- empty packets at its end

-- a lacing value before so many others, of which the last is no empty packet
abbrev pub kept_with : (empty : Bool) → ℕ → ℕ
kept_with empty zero = cond empty 0 1
kept_with empty (suc n) = suc (suc n)

-- How many lacing values there are up to the last that is no empty packet. A value of 0 is an empty packet, unless a
-- packet goes on there: after a value of 255 (RFC 3533, section 5), or at the start of a page that continues one.
abbrev pub kept : (goes_on : Bool) → List ℕ → ℕ
kept goes_on [] = 0
kept goes_on (v ∷ vs) = kept_with (nat_eq v 0 && not goes_on) (kept (nat_eq v 255) vs)

-- whether the page continues a packet (section 6, field 3)
abbrev pub continues : Page → Bool
continues p = nat_eq (get_or p.fields 5 0 % 2) 1

-- how many lacing values the page keeps
abbrev pub kept_of : Page → ℕ
kept_of p = kept (continues p) p.lacing

-- the page without them
abbrev pub without_empty : Page → Page
without_empty p = cond (nat_eq (kept_of p) (length p.lacing)) p (checked (record p { lacing = take (kept_of p) p.lacing }))

-- a page of one empty packet in its place
abbrev pub one_empty : Page → Page
one_empty p = checked (record p { lacing = 0 ∷ []; body = [] })

-- What is given in the place of a page. Once empty packets were left out, a page with any other packet shows that they
-- are not at the end: then it is one empty packet, at which a reader refuses the stream.
abbrev pub given_for : (left_out : Bool) → Page → Page
given_for left_out p = cond (left_out && not (nat_eq (kept_of p) 0)) (one_empty p) (without_empty p)

-- whether empty packets were left out, up to the end of this page
abbrev pub leaves_out : (left_out : Bool) → Page → Bool
leaves_out left_out p = left_out || nat_lt (kept_of p) (length p.lacing)

-- ---- all pages

-- An input without the empty packets at its end, in at most n pages. If an error comes in place of its end (`fails`), the
-- bytes of a page that is cut are not given. What begins with no page is given as it is.
unfoldable pub trimmed_in : (n : ℕ) → (fails left_out : Bool) → List ℕ → List ℕ
trimmed_in zero fails left_out bytes = bytes
trimmed_in (suc n) fails left_out bytes =
    cond (is_cut bytes) (cond fails [] bytes)
    (cond (is_page bytes) (page_bytes (given_for left_out (page_at bytes)) ++ trimmed_in n fails (leaves_out left_out (page_at bytes)) (drop (page_length bytes) bytes)) bytes)

-- each page has a byte at least, so that these are pages enough
abbrev pub trimmed_from : (fails left_out : Bool) → List ℕ → List ℕ
trimmed_from fails left_out bytes = trimmed_in (length bytes) fails left_out bytes

-- the whole input
abbrev pub trimmed : (fails : Bool) → List ℕ → List ℕ
trimmed fails bytes = trimmed_from fails false bytes
