-- The cue sheet that a text says (RFC 9639, section 8.7), line by line.
use Rattle.std.specs.Prelude.{ℕ, zero, suc, ◌+◌, ◌-◌, ◌*◌, ◌/◌, ◌%◌, Bool, true, false, ◌&&◌, ◌||◌, not, cond, min, nat_eq, nat_lt, nat_le, ◌==◌, List, [], ◌∷◌, ◌++◌, length, drop, get_or, codes, Option, Some, None, Result, Ok, Err}
use Rattle.std.specs.List.{slice_split}
use Rattle.std.specs.Str.{str_eq_ignore_ascii_case}
use Rattle.flac_meta.specs.declared.cue_sheet.CueIndex.{CueIndex}
use Rattle.flac_meta.specs.declared.cue_sheet.CueTrack.{CueTrack}
use Rattle.flac_meta.specs.declared.cue_sheet.CueSheet.{CueSheet}
use Rattle.flac_cue.specs.declared.fault.CueWhy.{CueWhy}
use Rattle.flac_cue.specs.declared.fault.CueWhy.TheVariants as why
use Rattle.flac_cue.specs.declared.fault.CueFault.{CueFault}
use Rattle.flac_cue.specs.declared.fault.CueFault.TheVariants as fault
use Rattle.flac_cue.specs.declared.audio.CueAudio.{CueAudio}
use Rattle.flac_cue.specs.declared.open.Open.{Open}
use Rattle.flac_cue.specs.Text.{text_of}
use Rattle.flac_cue.specs.Words.{is_digit, word_of, after_word, number_of, time_of}

-- n zeros, and a field of n bytes that begins with a word
abbrev pub zeros : ℕ → List ℕ
zeros zero = []
zeros (suc n) = 0 ∷ zeros n

abbrev pub field_of : ℕ → List ℕ → List ℕ
field_of n word = word ++ drop (length word) (zeros n)

-- a word, whose letters may be small or large
abbrev pub is : List ℕ → List ℕ → Bool
is name word = str_eq_ignore_ascii_case word name

-- a field that is not empty
abbrev pub is_set : List ℕ → Bool
is_set field = not (nat_eq (length (text_of field)) 0)

-- ---- CATALOG: 13 digits on a CD, else 1 to 128 printable characters (section 8.7)

abbrev pub are_digits : List ℕ → Bool
are_digits [] = true
are_digits (b ∷ bs) = is_digit b && are_digits bs

abbrev pub are_printable : List ℕ → Bool
are_printable [] = true
are_printable (b ∷ bs) = (nat_le 32 b && nat_le b 126) && are_printable bs

unfoldable pub is_catalogue : (cd : Bool) → List ℕ → Bool
is_catalogue cd word = cond cd (nat_eq (length word) 13 && are_digits word) ((nat_lt 0 (length word) && nat_le (length word) 128) && are_printable word)

unfoldable pub after_catalogue : CueAudio → Open → (rest : List ℕ) → Result Open CueWhy
after_catalogue a o rest =
    cond (not (is_set o.catalogue) && is_catalogue a.cd (word_of rest)) (Ok (record o { catalogue = field_of 128 (word_of rest) })) (Err why.Catalogue)

-- ---- TRACK: its number, one more than that of the track before; and its kind (section 8.7.1)

-- the numbers of tracks and of index points go up to 99 on a CD, else to 254
abbrev pub greatest : (cd : Bool) → ℕ
greatest cd = cond cd 99 254

-- the track that was read so far may begin another one, of this number; 0 is that of no track
abbrev pub may_follow : (cd : Bool) → (last next : ℕ) → Bool
may_follow cd last next = (nat_lt 0 next && nat_le next (greatest cd)) && (nat_eq last 0 || nat_eq next (last + 1))

-- the tracks with the one that was read, which has an index point
unfoldable pub closed : Open → Result (List CueTrack) CueWhy
closed o = cond (nat_eq o.track.number 0) (Ok o.tracks) (cond (nat_eq (length o.track.indices) 0) (Err why.NoIndex) (Ok (o.tracks ++ o.track ∷ [])))

abbrev pub new_track : (number : ℕ) → (audio : Bool) → CueTrack
new_track number audio = record { offset = 0; number = number; isrc = zeros 12; audio = audio; pre_emphasis = false; indices = [] }

unfoldable pub after_track_number : CueAudio → Open → (number : ℕ) → (kind : List ℕ) → Result Open CueWhy
after_track_number a o number kind =
    cond (may_follow a.cd o.track.number number && not (nat_eq (length kind) 0))
    (elim (closed o) [ Err e ↦ Err e | Ok tracks ↦ Ok (record o { tracks = tracks; track = new_track number (is (codes "AUDIO") kind) }) ])
    (Err why.Track)

unfoldable pub after_track : CueAudio → Open → (rest : List ℕ) → Result Open CueWhy
after_track a o rest = elim (number_of (word_of rest)) [ None ↦ Err why.Track | Some n ↦ after_track_number a o n (word_of (after_word rest)) ]

-- ---- FLAGS and ISRC come after TRACK and before INDEX

abbrev pub is_begun : Open → Bool
is_begun o = not (nat_eq o.track.number 0) && nat_eq (length o.track.indices) 0

abbrev pub is_pre : (flags : List ℕ) → Bool
is_pre flags = is (codes "PRE") (word_of flags)

-- PRE is among the flags, of which there are four
abbrev pub has_pre : (flags : List ℕ) → Bool
has_pre flags = is_pre flags || (is_pre (after_word flags) || (is_pre (after_word (after_word flags)) || is_pre (after_word (after_word (after_word flags)))))

-- pre-emphasis, if PRE is among the flags
unfoldable pub after_flags : Open → (rest : List ℕ) → Result Open CueWhy
after_flags o rest =
    cond (is_begun o) (Ok (record o { track = record (o.track) { pre_emphasis = has_pre rest } })) (Err why.Flags)

-- twelve digits and capital letters
abbrev pub are_alphanumeric : List ℕ → Bool
are_alphanumeric [] = true
are_alphanumeric (b ∷ bs) = (is_digit b || (nat_le 65 b && nat_le b 90)) && are_alphanumeric bs

unfoldable pub after_isrc : Open → (rest : List ℕ) → Result Open CueWhy
after_isrc o rest =
    cond ((is_begun o && not (is_set o.track.isrc)) && (nat_eq (length (word_of rest)) 12 && are_alphanumeric (word_of rest)))
    (Ok (record o { track = record (o.track) { isrc = word_of rest } })) (Err why.Isrc)

-- ---- INDEX: its number, one more than that of the index point before, of which the first has 0 or 1 (section 8.7.1.1)

unfoldable pub next_index : (cd : Bool) → List CueIndex → (number : ℕ) → Bool
next_index cd [] number = nat_le number 1
next_index cd (i ∷ more) number = nat_le number (greatest cd) && nat_eq number (i.number + length (i ∷ more))

-- The sample of a place: that of a time, if a frame has a whole number of samples; not on a CD the number of a sample
-- itself.
unfoldable pub sample_of_time : CueAudio → List ℕ → Option ℕ
sample_of_time a word = elim (time_of word) [ None ↦ None | Some frames ↦ cond (nat_eq (a.rate % 75) 0) (Some (min (frames * (a.rate / 75)) 18446744073709551615)) None ]

unfoldable pub sample_of : CueAudio → List ℕ → Option ℕ
sample_of a word = cond a.cd (sample_of_time a word) (elim (number_of word) [ None ↦ sample_of_time a word | Some n ↦ Some n ])

-- The first index point is where its track begins; the others are offsets from there.
abbrev pub start_of : CueTrack → (sample : ℕ) → ℕ
start_of t sample = cond (nat_eq (length t.indices) 0) sample t.offset

abbrev pub with_index : CueTrack → (number sample : ℕ) → CueTrack
with_index t number sample =
    record t { offset = start_of t sample; indices = t.indices ++ record { offset = sample - start_of t sample; number = number } ∷ [] }

-- Each index point of the sheet is after the one before, and in the audio.
unfoldable pub after_index_at : CueAudio → Open → (number sample : ℕ) → Result Open CueWhy
after_index_at a o number sample =
    cond (nat_eq o.track.number 0 || not (next_index a.cd o.track.indices number)) (Err why.Index)
    (cond (nat_lt sample o.next || nat_le a.total sample) (Err why.Offset)
    (Ok (record o { track = with_index o.track number sample; next = sample + 1 })))

unfoldable pub after_index : CueAudio → Open → (rest : List ℕ) → Result Open CueWhy
after_index a o rest = elim (number_of (word_of rest)) [
  | None ↦ Err why.Index
  | Some n ↦ elim (sample_of a (word_of (after_word rest))) [ None ↦ Err why.Offset | Some sample ↦ after_index_at a o n sample ]
]

-- ---- REM: of remarks those on the lead-in, and on the lead-out, which is at the end of the audio

unfoldable pub after_lead_in : Open → (rest : List ℕ) → Result Open CueWhy
after_lead_in o rest = elim (number_of (word_of rest)) [ None ↦ Err why.LeadIn | Some n ↦ Ok (record o { lead_in = n }) ]

unfoldable pub after_lead_out : CueAudio → Open → (rest : List ℕ) → Result Open CueWhy
after_lead_out a o rest = elim (number_of (word_of (after_word rest))) [ None ↦ Err why.LeadOut | Some n ↦ cond (nat_eq n a.total) (Ok o) (Err why.LeadOut) ]

unfoldable pub after_remark : CueAudio → Open → (rest : List ℕ) → Result Open CueWhy
after_remark a o rest =
    cond (is (codes "FLAC__lead-in") (word_of rest)) (after_lead_in o (after_word rest))
    (cond (is (codes "FLAC__lead-out") (word_of rest)) (after_lead_out a o (after_word rest)) (Ok o))

-- ---- lines: a command and what comes after it; other commands say nothing of the sheet

unfoldable pub after_command : CueAudio → Open → (command rest : List ℕ) → Result Open CueWhy
after_command a o command rest =
    cond (is (codes "CATALOG") command) (after_catalogue a o rest)
    (cond (is (codes "TRACK") command) (after_track a o rest)
    (cond (is (codes "FLAGS") command) (after_flags o rest)
    (cond (is (codes "ISRC") command) (after_isrc o rest)
    (cond (is (codes "INDEX") command) (after_index a o rest)
    (cond (is (codes "REM") command) (after_remark a o rest) (Ok o))))))

abbrev pub after_line : CueAudio → Open → (line : List ℕ) → Result Open CueWhy
after_line a o line = after_command a o (word_of line) (after_word line)

-- lines of which the first has this number, or the number of the first line that is wrong, and why
-- the lines of a text, without the line feeds (10) that end them
abbrev pub lines_in : List ℕ → List (List ℕ)
lines_in text = slice_split (λ byte. byte == 10) text

unfoldable pub after_lines : CueAudio → (number : ℕ) → Open → (lines : List (List ℕ)) → Result Open (ℕ × CueWhy)
after_lines a number o [] = Ok o
after_lines a number o (line ∷ more) = elim (after_line a o line) [ Err e ↦ Err (number, e) | Ok p ↦ after_lines a (number + 1) p more ]

-- the same of the lines of a text
abbrev pub after_text : CueAudio → Open → (text : List ℕ) → Result Open (ℕ × CueWhy)
after_text a o text = after_lines a 1 o (lines_in text)

-- ---- the sheet

-- before the first line: on a CD the lead-in has two seconds
abbrev pub begun : CueAudio → Open
begun a = record { catalogue = zeros 128; lead_in = cond a.cd 88200 0; tracks = []; track = new_track 0 true; next = 0 }

-- the lead-out is at the end of the audio, and has number 170 on a CD, else 255 (section 8.7.1)
abbrev pub lead_out : CueAudio → CueTrack
lead_out a = record { offset = a.total; number = cond a.cd 170 255; isrc = zeros 12; audio = true; pre_emphasis = false; indices = [] }

-- after the last line
unfoldable pub finished : CueAudio → Open → Result CueSheet CueWhy
finished a o = cond (nat_eq o.track.number 0) (Err why.NoTrack) (elim (closed o) [
  | Err e ↦ Err e
  | Ok tracks ↦ Ok (record { catalogue = o.catalogue; lead_in = o.lead_in; cd = a.cd; tracks = tracks ++ lead_out a ∷ [] })
])

-- a text without the byte order mark of UTF-8 before it
abbrev pub without_mark : List ℕ → List ℕ
without_mark text = cond (nat_le 3 (length text) && (nat_eq (get_or text 0 0) 239 && (nat_eq (get_or text 1 0) 187 && nat_eq (get_or text 2 0) 191))) (drop 3 text) text

abbrev pub lines_of : List ℕ → List (List ℕ)
lines_of text = slice_split (λ byte. byte == 10) (without_mark text)

-- The sheet that a text says; or the number of the first line that is wrong, counted from 1, and why. What is missing at
-- the end is a fault of the last line.
unfoldable pub sheet_in : CueAudio → (text : List ℕ) → Result CueSheet (ℕ × CueWhy)
sheet_in a text = elim (after_lines a 1 (begun a) (lines_of text)) [
  | Err e ↦ Err e
  | Ok o ↦ elim (finished a o) [ Err e ↦ Err (length (lines_of text), e) | Ok sheet ↦ Ok sheet ]
]

-- what is claimed of the line of a fault, and why it is wrong
abbrev pub IfLine : (ℕ → CueWhy → Type 0) → CueFault → Type 0
IfLine P fault.Memory = Unit {0}
IfLine P (fault.Line number e) = P number e
