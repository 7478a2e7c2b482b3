-- Which cue sheets come back from their text (RFC 9639, section 8.7).
use Rattle.std.specs.Prelude.{◌≡◌, ℕ, ◌+◌, ◌%◌, ◌<◌, ◌≤◌, ◌^◌, Bool, true, ◌&&◌, not, nat_eq, List, [], ◌∷◌, ◌++◌, length, Ok, ◌⊎◌}
use Rattle.flac_meta.specs.declared.cue_sheet.CueIndex.{CueIndex}
use Rattle.flac_meta.specs.declared.cue_sheet.CueTrack.{CueTrack}
use Rattle.flac_meta.specs.declared.cue_sheet.CueSheet.{CueSheet}
use Rattle.flac_cue.specs.declared.audio.CueAudio.{CueAudio}
use Rattle.flac_cue.specs.Text.{text_of, cue_text}
use Rattle.flac_cue.specs.Words.{is_blank}
use Rattle.flac_cue.specs.Reading.{zeros, field_of, is_catalogue, are_alphanumeric, may_follow, next_index, lead_out, sheet_in}

-- a byte of a word: no blank, no quotation mark, and not the end of a line
abbrev pub is_plain : ℕ → Bool
is_plain b = not (is_blank b) && (not (nat_eq b 34) && not (nat_eq b 10))

abbrev pub are_plain : List ℕ → Bool
are_plain [] = true
are_plain (b ∷ bs) = is_plain b && are_plain bs

-- ---- index points (section 8.7.1.1)

-- The index point of a track after these, whose place may not be below `next`: the first one is where the track begins. It
-- is in the audio, and on a CD at the beginning of a frame.
pub record IsCueIndex (a : CueAudio) (t : CueTrack) (next : ℕ) (earlier : List CueIndex) (i : CueIndex) : Type 0 where
  pub number : next_index a.cd earlier i.number ≡ true
  pub first : earlier ≡ [] → i.offset ≡ 0
  pub rises : next ≤ t.offset + i.offset
  pub inside : t.offset + i.offset < a.total
  pub frame : a.cd ≡ true → (t.offset + i.offset) % 588 ≡ 0

abbrev pub AreCueIndices : CueAudio → CueTrack → (next : ℕ) → (earlier : List CueIndex) → List CueIndex → Type 0
AreCueIndices a t next earlier [] = Unit {0}
AreCueIndices a t next earlier (i ∷ more) = IsCueIndex a t next earlier i × AreCueIndices a t (t.offset + i.offset + 1) (earlier ++ i ∷ []) more

-- the sample after the last one
abbrev pub next_after : CueTrack → (next : ℕ) → List CueIndex → ℕ
next_after t next [] = next
next_after t next (i ∷ more) = next_after t (t.offset + i.offset + 1) more

-- ---- tracks (section 8.7.1)

-- a recording code of twelve digits and capital letters, or none
pub record IsCueTrack (a : CueAudio) (last next : ℕ) (t : CueTrack) : Type 0 where
  pub number : may_follow a.cd last t.number ≡ true
  pub isrc : (t.isrc ≡ zeros 12) ⊎ ((length t.isrc ≡ 12) × (are_alphanumeric t.isrc ≡ true))
  pub some : 0 < length t.indices
  pub indices : AreCueIndices a t next [] t.indices

abbrev pub AreCueTracks : CueAudio → (last next : ℕ) → List CueTrack → Type 0
AreCueTracks a last next [] = Unit {0}
AreCueTracks a last next (t ∷ more) = IsCueTrack a last next t × AreCueTracks a t.number (next_after t next t.indices) more

-- ---- sheets (section 8.7)

-- A cue sheet of this audio: a catalogue number that is a word, or none; tracks, one at least, whose numbers rise by one
-- from track to track, as do those of index points in a track; places that rise; and the lead-out at the end of the audio.
pub record KeepsCue (a : CueAudio) (s : CueSheet) (tracks : List CueTrack) : Type 0 where
  pub kind : s.cd ≡ a.cd
  pub rate : a.cd ≡ true → a.rate ≡ 44100
  pub total : a.total < 2 ^ 36
  pub catalogue :
      (s.catalogue ≡ zeros 128)
      ⊎ ((s.catalogue ≡ field_of 128 (text_of s.catalogue)) × (is_catalogue a.cd (text_of s.catalogue) ≡ true) × (are_plain (text_of s.catalogue) ≡ true))
  pub lead_in : s.lead_in < 2 ^ 64
  pub some : 0 < length tracks
  pub each : AreCueTracks a 0 0 tracks
  pub ends : s.tracks ≡ tracks ++ lead_out a ∷ []

-- What is written of it is read as the same sheet.
abbrev pub CueComesBack : Type 0
CueComesBack = (a : CueAudio) (name : List ℕ) (s : CueSheet) (tracks : List CueTrack) → KeepsCue a s tracks → sheet_in a (cue_text name s) ≡ Ok s
