-- The cue sheet (RFC 9639, section 8.7).
use Rattle.std.specs.Prelude.{ℕ, ◌+◌, ◌-◌, ◌*◌, Bool, List, [], ◌∷◌, length, nat_eq, nat_lt}
use Rattle.flac_bits.specs.Layout.{Layout, done, judge, ◌>>=◌, bits}
use Rattle.flac_bits.specs.Lists.{list_of}
use Rattle.flac_bits.specs.declared.why.Why.TheVariants as why
use Rattle.flac_meta.specs.Fields.{part, needs, nothing_left, reserved, in_turn}
use Rattle.flac_meta.specs.declared.cue_sheet.CueIndex.{CueIndex}
use Rattle.flac_meta.specs.declared.cue_sheet.CueTrack.{CueTrack}
use Rattle.flac_meta.specs.declared.cue_sheet.CueSheet.{CueSheet}

-- an index point of a track, of 12 bytes (section 8.7.1.1)
unfoldable pub cue_index : Layout CueIndex
cue_index = do
  offset ← bits 64
  number ← bits 8
  _ ← reserved (8 * 3)
  done (record { offset = offset; number = number })

-- the number of tracks, or of the index points of a track, in one byte
unfoldable pub cue_count : ℕ → Layout ℕ
cue_count left = part 1 left (bits 8)

-- offset, number, recording code, whether it is audio (0) and whether it has pre-emphasis (1), reserved bits: 35 bytes
unfoldable pub track_front : Layout (ℕ × ℕ × List ℕ × Bool × Bool)
track_front = do
  offset ← bits 64
  number ← bits 8
  isrc ← list_of 12 (bits 8)
  kind ← bits 1
  pre_emphasis ← bits 1
  _ ← reserved (6 + 8 * 13)
  done (offset, number, isrc, nat_eq kind 0, nat_eq pre_emphasis 1)

-- a track: its front, the number of its index points and these (section 8.7.1)
unfoldable pub cue_track : ℕ → Layout CueTrack
cue_track left = part 35 left (do
  front ← track_front
  count ← cue_count (left - 35)
  _ ← needs (12 * count) (left - 36)
  indices ← list_of count cue_index
  done (record { offset = front.0; number = front.1; isrc = front.2; audio = front.3; pre_emphasis = front.4; indices = indices }))

-- n tracks, after which the content ends
unfoldable pub cue_tracks : ℕ → ℕ → Layout (List CueTrack)
cue_tracks = in_turn cue_track (λ left track. left - (36 + 12 * length track.indices)) nothing_left

-- catalogue number, samples of the lead-in, whether it is a CD's, reserved bits: 395 bytes
unfoldable pub sheet_front : Layout (List ℕ × ℕ × Bool)
sheet_front = do
  catalogue ← list_of 128 (bits 8)
  lead_in ← bits 64
  cd ← bits 1
  _ ← reserved (7 + 8 * 258)
  done (catalogue, lead_in, nat_eq cd 1)

-- a cue sheet: its front, the number of its tracks, at least one, and these
unfoldable pub cue_sheet : ℕ → Layout CueSheet
cue_sheet left = part 395 left (do
  front ← sheet_front
  count ← cue_count (left - 395)
  _ ← judge (
      record { broken = nat_eq count 0; why = why.CueSheet } ∷
      record { broken = nat_lt (left - 396) (36 * count); why = why.BlockLength } ∷ [])
  tracks ← cue_tracks count (left - 396)
  done (record { catalogue = front.0; lead_in = front.1; cd = front.2; tracks = tracks }))
