-- For proofs of writing: the fields of a cue sheet before its tracks, and of a track before its index points.
use Rattle.std.specs.Prelude.{ℕ, ◌+◌, ◌*◌, Bool, List, [], ◌∷◌, length, not}
use Rattle.flac_bits.specs.Bits.{unsigned, bits_of, bit_value}
use Rattle.flac_bits.specs.Forms.{joined}
use Rattle.flac_meta.specs.Spelling.{zero_bits}
use Rattle.flac_meta.specs.declared.cue_sheet.CueTrack.{CueTrack}
use Rattle.flac_meta.specs.declared.cue_sheet.TrackFront.{TrackFront}
use Rattle.flac_meta.specs.declared.cue_sheet.CueSheet.{CueSheet}

-- catalogue number, samples of the lead-in, whether it is a CD's, reserved bits (RFC 9639, section 8.7)
abbrev pub sheet_front_spelling : CueSheet → List Bool
sheet_front_spelling s = joined (bits_of s.catalogue ∷ unsigned 64 s.lead_in ∷ unsigned 1 (bit_value s.cd) ∷ zero_bits (7 + 8 * 258) ∷ [])

-- the fields of a track before its index points (section 8.7.1), as they are read
abbrev pub fields_of : TrackFront → ℕ × ℕ × List ℕ × Bool × Bool
fields_of f = (f.offset, f.number, f.isrc, f.audio, f.pre_emphasis)

-- offset, number and recording code (section 8.7.1)
abbrev pub track_front_spelling : CueTrack → List Bool
track_front_spelling t = joined (unsigned 64 t.offset ∷ unsigned 8 t.number ∷ bits_of t.isrc ∷ [])

-- whether it is audio (0) and whether it has pre-emphasis (1), reserved bits, the number of index points
abbrev pub track_flags_spelling : CueTrack → List Bool
track_flags_spelling t = joined (
    unsigned 1 (bit_value (not t.audio)) ∷ unsigned 1 (bit_value t.pre_emphasis) ∷ zero_bits (6 + 8 * 13) ∷ unsigned 8 (length t.indices) ∷ [])
