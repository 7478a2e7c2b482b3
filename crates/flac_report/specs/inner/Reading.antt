-- How a line is read: its path, and what comes after it.
use Rattle.std.specs.Prelude.{ℕ, zero, suc, ◌+◌, ◌-◌, ◌*◌, Bool, ◌&&◌, ◌||◌, not, cond, eqb, nat_eq, nat_lt, nat_le, ◌==◌, List, [], ◌∷◌, ◌++◌, length, take, drop, get_or, codes, Option, Some, None, option_map, Result, Ok, Err}
use Rattle.std.specs.List.{starts_with, ends_with, position_or_len}
use Rattle.std.specs.Str.{is_utf8}
use Rattle.hex.specs.Hex.{decode_sized}
use Rattle.flac_shelf.specs.declared.past.Audio.{Audio}
use Rattle.flac_shelf.specs.declared.past.Past.{Past}
use Rattle.flac_shelf.specs.declared.stamp.Stamp.{Stamp}
use Rattle.flac_report.specs.Lines.{beginning}

abbrev pub begins : (front text : List ℕ) → Bool
begins front text = starts_with eqb text front

-- ---- numbers

abbrev pub is_digit : ℕ → Bool
is_digit b = nat_le 48 b && nat_le b 57

-- how many decimal digits a text begins with
abbrev pub digits_in : List ℕ → ℕ
digits_in text = position_or_len (λ b. not (is_digit b)) text

-- a number with one more digit, below 2 ^ 64
unfoldable pub with_digit : ℕ → ℕ → Option ℕ
with_digit n b = cond (is_digit b && nat_le (n * 10 + (b - 48)) 18446744073709551615) (Some (n * 10 + (b - 48))) None

unfoldable pub number_after : ℕ → List ℕ → Option ℕ
number_after n [] = Some n
number_after n (b ∷ digits) = elim (with_digit n b) [ None ↦ None | Some m ↦ number_after m digits ]

-- the number that digits write, one at least, below 2 ^ 64
unfoldable pub number_of : List ℕ → Option ℕ
number_of digits = cond (nat_eq (length digits) 0) None (number_after 0 digits)

abbrev pub number_in : List ℕ → Option ℕ
number_in text = number_of (take (digits_in text) text)

-- the number of a member that a text begins with, and what comes after it; all of the text if it does not begin so
unfoldable pub value_in : (name text : List ℕ) → Option ℕ
value_in name text = cond (begins name text) (number_in (drop (length name) text)) None

abbrev pub past_value : Option ℕ → (name text : List ℕ) → List ℕ
past_value None name text = text
past_value (Some n) name text = drop (length name + digits_in (drop (length name) text)) text

unfoldable pub after_in : (name text : List ℕ) → List ℕ
after_in name text = past_value (value_in name text) name text

-- ---- the size and the time

abbrev pub at_modified : List ℕ → List ℕ
at_modified text = after_in (codes ",\"bytes\":") text

abbrev pub at_nanoseconds : List ℕ → List ℕ
at_nanoseconds text = after_in (codes ",\"modified\":") (at_modified text)

unfoldable pub stamp_in : List ℕ → Stamp
stamp_in text = record {
  bytes = value_in (codes ",\"bytes\":") text;
  modified = value_in (codes ",\"modified\":") (at_modified text);
  nanoseconds = value_in (codes ",\"nanoseconds\":") (at_nanoseconds text);
}

unfoldable pub after_stamp : List ℕ → List ℕ
after_stamp text = after_in (codes ",\"nanoseconds\":") (at_nanoseconds text)

-- ---- the container

-- what comes after the container of a good file: all of the text if it does not begin with one
unfoldable pub after_container : List ℕ → List ℕ
after_container text =
    cond (begins (codes ",\"container\":\"native\"") text) (drop 21 text) (cond (begins (codes ",\"container\":\"ogg\"") text) (drop 18 text) text)

-- ---- the audio

abbrev pub ok_of : {A E : Type 0} → Result A E → Option A
ok_of (Ok a) = Some a
ok_of (Err e) = None

-- the 16 bytes whose hexadecimal digits a text begins with
unfoldable pub digest_in : List ℕ → Option (List ℕ)
digest_in text = cond (nat_lt (length text) 32) None (ok_of (decode_sized (take 32 text) 16))

abbrev pub digested : Audio → Option (List ℕ) → Option Audio
digested a None = None
digested a (Some digest) = Some (record { digest = Some digest; samples = a.samples; rate = a.rate; channels = a.channels; depth = a.depth })

-- the audio with the digest that a text begins with, if it begins with one
unfoldable pub with_digest : Audio → List ℕ → Option Audio
with_digest a text = cond (begins (codes ",\"md5\":\"") text) (digested a (digest_in (drop 8 text))) (Some a)

abbrev pub at_channels : List ℕ → List ℕ
at_channels text = after_in (codes ",\"rate\":") text

abbrev pub at_depth : List ℕ → List ℕ
at_depth text = after_in (codes ",\"channels\":") (at_channels text)

abbrev pub at_frames : List ℕ → List ℕ
at_frames text = after_in (codes ",\"depth\":") (at_depth text)

abbrev pub at_samples : List ℕ → List ℕ
at_samples text = after_in (codes ",\"frames\":") (at_frames text)

abbrev pub after_samples : List ℕ → List ℕ
after_samples text = after_in (codes ",\"samples\":") (at_samples text)

abbrev pub audio_by : (samples rate channels depth : Option ℕ) → List ℕ → Option Audio
audio_by None rate channels depth text = None
audio_by (Some samples) rate channels depth text = with_digest (record { digest = None; samples = samples; rate = rate; channels = channels; depth = depth }) text

unfoldable pub audio_in : List ℕ → Option Audio
audio_in text =
    audio_by (value_in (codes ",\"samples\":") (at_samples text)) (value_in (codes ",\"rate\":") text) (value_in (codes ",\"channels\":") (at_channels text))
    (value_in (codes ",\"depth\":") (at_depth text)) (after_samples text)

-- ---- what comes after a path

abbrev pub good_past : Stamp → Option Audio → Option Past
good_past stamp None = None
good_past stamp (Some audio) = Some (record { stamp = stamp; audio = Some audio })

abbrev pub other_past : List ℕ → Option Past
other_past text = Some (record { stamp = stamp_in text; audio = None })

unfoldable pub past_in : List ℕ → Option Past
past_in text =
    cond (begins (codes "\",\"status\":\"ok\"") text) (good_past (stamp_in (after_container (drop 15 text))) (audio_in (after_stamp (after_container (drop 15 text)))))
    (cond (begins (codes "\",\"status\":\"bad\"") text) (other_past (drop 16 text))
    (cond (begins (codes "\",\"status\":\"unopened\"") text) (other_past (drop 21 text)) None))

-- ---- texts

-- the value of a hexadecimal digit, in either case
unfoldable pub digit_of : ℕ → Option ℕ
digit_of b =
    cond (nat_le 48 b && nat_le b 57) (Some (b - 48))
    (cond (nat_le 97 b && nat_le b 102) (Some (b - 87)) (cond (nat_le 65 b && nat_le b 70) (Some (b - 55)) None))

abbrev pub joined : (high low : Option ℕ) → Option ℕ
joined None low = None
joined (Some h) None = None
joined (Some h) (Some l) = Some (h * 16 + l)

-- the byte whose escape goes on so after its backslash
unfoldable pub escaped_in : List ℕ → Option ℕ
escaped_in text =
    cond (nat_lt (length text) 5 || not (begins (codes "u00") text)) None (joined (digit_of (get_or text 3 0)) (digit_of (get_or text 4 0)))

-- the byte that a text begins with, and how many bytes it is written in
unfoldable pub letter_in : List ℕ → Option (ℕ × ℕ)
letter_in [] = None
letter_in (b ∷ text) = cond (nat_eq b 92) (option_map (λ e. (e, 6)) (escaped_in text)) (Some (b, 1))

-- the bytes of a text after these, where the next ones of the text are passed over
unfoldable pub unescaped : (passed : ℕ) → (done text : List ℕ) → Option (List ℕ)
unescaped passed done [] = Some done
unescaped (suc k) done (b ∷ text) = unescaped k done text
unescaped zero done (b ∷ text) = elim (letter_in (b ∷ text)) [ None ↦ None | Some l ↦ unescaped (l.1 - 1) (done ++ l.0 ∷ []) text ]

abbrev pub if_utf8 : Option (List ℕ) → Option (List ℕ)
if_utf8 None = None
if_utf8 (Some bytes) = cond (is_utf8 bytes) (Some bytes) None

unfoldable pub text_in : List ℕ → Option (List ℕ)
text_in text = if_utf8 (unescaped 0 [] text)

-- ---- lines

-- where the quotation mark is that ends a path
abbrev pub path_end : List ℕ → ℕ
path_end text = position_or_len (λ b. b == 34) text

abbrev pub both_of : Option Past → Option (List ℕ) → Option (List ℕ × Past)
both_of None path = None
both_of (Some past) None = None
both_of (Some past) (Some path) = Some (path, past)

abbrev pub recorded_after : List ℕ → Option (List ℕ × Past)
recorded_after text = both_of (past_in (drop (path_end text) text)) (text_in (take (path_end text) text))

-- the path of a line, and what it says of the file
unfoldable pub recorded_in : List ℕ → Option (List ℕ × Past)
recorded_in line = cond (begins beginning line) (recorded_after (drop 9 line)) None

abbrev pub path_after : List ℕ → Option (List ℕ)
path_after text = cond (nat_lt (path_end text) (length text)) (text_in (take (path_end text) text)) None

unfoldable pub path_in : List ℕ → Option (List ℕ)
path_in line = cond (begins beginning line) (path_after (drop 9 line)) None

abbrev pub has_status : List ℕ → Bool
has_status text = begins (codes "\",\"status\":\"") (drop (path_end text) text)

unfoldable pub is_line : List ℕ → Bool
is_line line = cond (begins beginning line) (not (ends_with eqb line (10 ∷ [])) || has_status (drop 9 line)) (begins line beginning)
