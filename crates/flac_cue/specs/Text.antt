-- The text of a cue sheet, line by line, as metaflac exports it (RFC 9639, section 8.7, has its fields).
use Rattle.std.specs.Prelude.{ℕ, ◌+◌, ◌/◌, ◌%◌, ◌||◌, ◌-◌, Bool, cond, min, nat_eq, nat_lt, ◌==◌, List, [], ◌∷◌, ◌++◌, length, take, drop, map, flat_map, codes, decimal}
use Rattle.std.specs.List.{position_or_len}
use Rattle.flac_meta.specs.declared.cue_sheet.CueIndex.{CueIndex}
use Rattle.flac_meta.specs.declared.cue_sheet.CueTrack.{CueTrack}
use Rattle.flac_meta.specs.declared.cue_sheet.CueSheet.{CueSheet}

-- ---- numbers and places

-- a number in two digits at least
abbrev pub padded : ℕ → List ℕ
padded n = cond (nat_lt n 10) (48 ∷ decimal n) (decimal n)

-- minutes, seconds and frames: a frame has 588 samples of a CD, a second has 75 frames
abbrev pub time_text : (sample : ℕ) → List ℕ
time_text sample =
    padded (sample / 588 / 4500) ++ (codes ":" ++ (padded (sample / 588 / 75 % 60) ++ (codes ":" ++ padded (sample / 588 % 75))))

-- a time in the cue sheet of a CD, else the number of the sample
abbrev pub offset_text : (cd : Bool) → (sample : ℕ) → List ℕ
offset_text cd sample = cond cd (time_text sample) (decimal sample)

-- ---- tracks (sections 8.7.1, 8.7.1.1)

-- the sample of an index point, whose offset is from that of its track; at most the greatest number of 64 bits
abbrev pub place : (start : ℕ) → CueIndex → ℕ
place start i = min (start + i.offset) 18446744073709551615

abbrev pub index_line : (cd : Bool) → (start : ℕ) → CueIndex → List ℕ
index_line cd start i = codes "    INDEX " ++ (padded i.number ++ (codes " " ++ (offset_text cd (place start i) ++ codes "\n")))

-- the bytes of a field before the zeros that fill it up
abbrev pub text_of : List ℕ → List ℕ
text_of field = take (position_or_len (λ byte. byte == 0) field) field

-- the recording code, if there is one
abbrev pub isrc_line : List ℕ → List ℕ
isrc_line isrc = cond (nat_eq (length (text_of isrc)) 0) [] (codes "    ISRC " ++ (text_of isrc ++ codes "\n"))

abbrev pub flags_line : (pre_emphasis : Bool) → List ℕ
flags_line pre_emphasis = cond pre_emphasis (codes "    FLAGS PRE\n") []

abbrev pub kind_text : (audio : Bool) → List ℕ
kind_text audio = cond audio (codes " AUDIO\n") (codes " DATA\n")

abbrev pub track_text : (cd : Bool) → CueTrack → List ℕ
track_text cd t =
    codes "  TRACK " ++ (padded t.number ++ (kind_text t.audio ++ (flags_line t.pre_emphasis ++ (isrc_line t.isrc ++ flat_map (index_line cd t.offset) t.indices))))

-- ---- the sheet (section 8.7)

-- the media catalogue number, if there is one
abbrev pub catalogue_line : List ℕ → List ℕ
catalogue_line catalogue = cond (nat_eq (length (text_of catalogue)) 0) [] (codes "CATALOG " ++ (text_of catalogue ++ codes "\n"))

-- a name in quotation marks, in which `'` stands for one, and for a byte below 32
abbrev pub name_byte : ℕ → ℕ
name_byte b = cond (nat_lt b 32 || nat_eq b 34) 39 b

abbrev pub name_text : List ℕ → List ℕ
name_text name = map name_byte name

abbrev pub file_line : (name : List ℕ) → List ℕ
file_line name = codes "FILE \"" ++ (name_text name ++ codes "\" FLAC\n")

abbrev pub lead_in_line : ℕ → List ℕ
lead_in_line samples = codes "REM FLAC__lead-in " ++ (decimal samples ++ codes "\n")

abbrev pub lead_out_line : CueTrack → List ℕ
lead_out_line t = codes "REM FLAC__lead-out " ++ (decimal t.number ++ (codes " " ++ (decimal t.offset ++ codes "\n")))

-- The tracks but the last one, which is the lead-out; the lead-in, and the lead-out.
abbrev pub ending_text : (cd : Bool) → (lead_in : ℕ) → List CueTrack → List ℕ
ending_text cd lead_in ts =
    flat_map (track_text cd) (take (length ts - 1) ts) ++ (lead_in_line lead_in ++ flat_map lead_out_line (drop (length ts - 1) ts))

abbrev pub cue_text : (name : List ℕ) → CueSheet → List ℕ
cue_text name s = catalogue_line s.catalogue ++ (file_line name ++ ending_text s.cd s.lead_in s.tracks)
