-- The bytes of a native stream that are left in an input (RFC 3533, section 6; RFC 9639, section 10.1).
use Rattle.std.specs.Prelude.{◌≡◌, ℕ, ◌+◌, ◌-◌, ◌%◌, min, Bool, true, false, eqb, cond, nat_eq, nat_le, get_or, ◌&&◌, ◌||◌, List, [], ◌∷◌, ◌++◌, length, Option, None}
use Rattle.std.specs.List.{starts_with}
use Rattle.flac_around.specs.Around.{front_length, past_front, back_length}
use Rattle.flac_whole_pages.specs.Standing.{between}
use Rattle.flac_whole_pages.specs.Found.{FoundIn}
use Rattle.flac_whole_pages.specs.Parts.{joined, place_of, place_after}
use Rattle.flac_whole_pages.specs.declared.left.Left.{Left}
use Rattle.flac_whole_pages.specs.declared.part.Part.{Part}
use Rattle.flac_whole_pages.specs.declared.page_at.WholePage.{WholePage}

-- ---- the bytes of one stream

-- whether the segments of a page begin with FLAC's mapping header: 7F and `FLAC`
abbrev pub begins_flac : List ℕ → WholePage → Bool
begins_flac bytes p = starts_with eqb (between p.body p.end bytes) (0x7F ∷ 0x46 ∷ 0x4C ∷ 0x41 ∷ 0x43 ∷ [])

-- whether a page begins with the last metadata block or a frame: with a packet whose first bit is 1 (RFC 3533, section 6,
-- field 3; RFC 9639, sections 8.1 and 9.1.1)
abbrev pub ends_header : List ℕ → WholePage → Bool
ends_header bytes p = nat_eq (get_or bytes (p.at + 5) 0 % 2) 0 && nat_le 128 (get_or bytes p.body 0)

-- the segments of a page, if it has this serial number
abbrev pub body_of : (serial : ℕ) → WholePage → List Part
body_of serial p = cond (nat_eq p.serial serial) (record { start = p.body; end = p.end } ∷ []) []

-- the bytes between whole pages, among frames
abbrev pub gap_of : (frames : Bool) → (from to : ℕ) → List Part
gap_of frames from to = cond frames (record { start = from; end = to } ∷ []) []

-- after such a page there are frames
abbrev pub has_frames : List ℕ → (serial : ℕ) → (frames : Bool) → WholePage → Bool
has_frames bytes serial frames p = frames || (nat_eq p.serial serial && ends_header bytes p)

-- What follows an offset of the input, at which a page ends: the segments of the pages of a serial number, and, as soon
-- as there are frames, all bytes that are in no whole page. Frames that are whole in a damaged page are among these.
unfoldable pub parts_after : List ℕ → (serial : ℕ) → (frames : Bool) → (from : ℕ) → List WholePage → List Part
parts_after bytes serial frames from [] = gap_of frames from (length bytes)
parts_after bytes serial frames from (p ∷ more) =
    gap_of frames from p.at ++ (body_of serial p ++ parts_after bytes serial (has_frames bytes serial frames p) p.end more)

-- the segments of the first page, without the 9 bytes before the marker `fLaC`
abbrev pub first_part : WholePage → Part
first_part p = record { start = min (p.body + 9) p.end; end = p.end }

-- Of an input with these whole pages, what a native stream would have: from the first page on that begins with FLAC's
-- mapping header.
unfoldable pub native_parts : List ℕ → List WholePage → List Part
native_parts bytes [] = []
native_parts bytes (p ∷ more) = cond (begins_flac bytes p) (first_part p ∷ parts_after bytes p.serial false p.end more) (native_parts bytes more)

-- ---- an input

-- the part of an input between the tags of other programs: one ID3v2 tag at its start, one ID3v1 tag at its end
abbrev pub between_tags : List ℕ → Part
between_tags input = record { start = min (front_length input) (length input); end = length input - back_length (past_front input) }

-- that part begins with the marker of a native stream
abbrev pub is_native : List ℕ → Bool
is_native input = starts_with eqb (between (between_tags input).start (between_tags input).end input) (0x66 ∷ 0x4C ∷ 0x61 ∷ 0x43 ∷ [])

-- these parts, or all of the input if there is none
abbrev pub or_all : List ℕ → List Part → List Part
or_all bytes [] = record { start = 0; end = length bytes } ∷ []
or_all bytes (q ∷ more) = q ∷ more

-- The parts of an input without that marker: those of the pages of its first stream of FLAC, of all whole
-- pages or of those up to the offset at which their search ended; all of it, if there is no such page.
pub record AreLeft (bytes : List ℕ) (cut : Option ℕ) (parts : List Part) : Type 0 where
  pub pages : List WholePage
  pub found : FoundIn bytes 0 cut pages
  pub are : parts ≡ or_all bytes (native_parts bytes pages)

-- These are the parts of an input that a native stream would have, the last of which ends where the stream does: the
-- part between tags, if that begins with the marker.
abbrev pub AreNative : (is_native : Bool) → (input : List ℕ) → (cut : Option ℕ) → List Part → (end : ℕ) → Type 0
AreNative true input cut parts end = (cut ≡ None) × (parts ≡ between_tags input ∷ []) × (end ≡ (between_tags input).end)
AreNative false input cut parts end = AreLeft input cut parts × (end ≡ length input)

-- what is left of a native stream in an input
pub record IsNativeLeft (input : List ℕ) (l : Left) : Type 0 where
  pub parts : AreNative (is_native input) input l.cut l.parts.items l.end
  pub bytes : l.bytes.items ≡ joined input l.parts.items

-- ---- places

-- where the byte at an offset of what is left is in the input, and where the byte before it ends
abbrev pub place_in : Left → (at : ℕ) → ℕ
place_in l at = place_of l.end l.parts.items at

abbrev pub place_past : Left → (at : ℕ) → ℕ
place_past l at = place_after l.end l.parts.items at
