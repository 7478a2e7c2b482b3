-- The offsets of the frames of a native stream, the first one and one by the seek table (RFC 9639, sections 6, 8 and
-- 8.5).
use Rattle.std.specs.Prelude.{◌≡◌, ◌≢◌, ◌⊎◌, ℕ, ◌+◌, ◌≤◌, min, Bool, true, false, List, [], ◌∷◌, length, take, Option, Some, None}
use Rattle.std.specs.Option.{option_or}
use Rattle.flac_bits.specs.Bits.{bits_of}
use Rattle.flac_bits.specs.Items.{Joined, Refused, state_after}
use Rattle.flac_bits.specs.declared.why.Why.{Why}
use Rattle.flac_bits.specs.declared.why.Why.TheVariants.{Memory, Truncated, NotStreamInfoFirst}
use Rattle.flac_info.specs.Info.{Info}
use Rattle.flac_meta.specs.SeekTable.{last_before}
use Rattle.flac_meta.specs.declared.block.Block.{Block}
use Rattle.flac_meta.specs.declared.block.Block.TheVariants.{SeekTable}
use Rattle.flac_meta.specs.declared.comments.Comments.{Comments}
use Rattle.flac_meta.specs.declared.seek_table.SeekPoint.{SeekPoint}
use Rattle.flac_header.specs.declared.subset.Profile.{Profile}
use Rattle.flac_native.specs.Decoding.{beginning}
use Rattle.flac_native.specs.Stream.{Piece, marked, block, framed, grammar, opening}
use Rattle.flac_native.specs.declared.fault.Place.{Place}
use Rattle.flac_native.specs.declared.fault.Place.TheVariants as place
use Rattle.flac_native.specs.declared.track.Phase.TheVariants.{Frames}
use Rattle.flac_c.specs.Heads.{comments_from, info_in_c}
use Rattle.flac_c.specs.declared.cursor.FlacProvedCursor.{FlacProvedCursor}

-- ---- the metadata

-- no part is a frame
abbrev pub are_metadata : List Piece → Bool
are_metadata [] = true
are_metadata (marked ∷ xs) = are_metadata xs
are_metadata (block last b ∷ xs) = are_metadata xs
are_metadata (framed f ∷ xs) = false

-- The first n bytes are these parts: the marker and all metadata blocks. Frames come after them.
pub record IsHead (profile : Profile) (bytes : List ℕ) (n : ℕ) (parts : List Piece) : Type 0 where
  pub within : n ≤ length bytes
  pub spelled : Joined grammar (opening profile) (beginning Truncated) parts (bits_of (take n bytes))
  pub metadata : are_metadata parts ≡ true
  pub after : (state_after grammar (opening profile) parts).stand.phase ≡ Frames

-- ---- the seek table

-- the last point at or before a sample, or else the one that was there
abbrev pub point_after : ℕ → Option SeekPoint → Block → Option SeekPoint
point_after sample best (SeekTable points) = option_or (last_before sample points) best
point_after sample best other = best

abbrev pub point_from : ℕ → Option SeekPoint → List Piece → Option SeekPoint
point_from sample best [] = best
point_from sample best (marked ∷ xs) = point_from sample best xs
point_from sample best (block last b ∷ xs) = point_from sample (point_after sample best b) xs
point_from sample best (framed f ∷ xs) = point_from sample best xs

-- ---- a cursor

-- at the first frame
abbrev pub first_frame : Info → Option Comments → (offset : ℕ) → FlacProvedCursor
first_frame i comments offset = record { offset = offset; frames = 0; sample = 0; info = info_in_c i comments }

-- at the frame that a point names, whose offset is counted from the first frame (section 8.5.1)
abbrev pub at_point : Option SeekPoint → FlacProvedCursor → FlacProvedCursor
at_point None c = c
at_point (Some p) c = record c { offset = min (c.offset + p.offset) 18446744073709551615; sample = p.sample }

-- The bytes begin with a marker and all metadata blocks. This holds of these parts, of how many bytes they have, and of
-- STREAMINFO.
abbrev pub BeginsByHead : Profile → List ℕ → (List Piece → ℕ → Info → Type 0) → Type 0
BeginsByHead profile bytes holds = (parts : List Piece) × (n : ℕ) × (i : Info) × IsHead profile bytes n parts × ((state_after grammar (opening profile) parts).stand.info ≡ Some i) × holds parts n i

-- the cursor is at the first frame
abbrev pub StandsFirst : Profile → List ℕ → FlacProvedCursor → Type 0
StandsFirst profile bytes c = BeginsByHead profile bytes (λ parts n i. c ≡ first_frame i (comments_from None parts) n)

-- the cursor is at the offset that the seek table has for the frame of the last point at or before a sample; at the
-- first frame if there is no such point
abbrev pub StandsBefore : Profile → List ℕ → ℕ → FlacProvedCursor → Type 0
StandsBefore profile bytes sample c = BeginsByHead profile bytes (λ parts n i. c ≡ at_point (point_from sample None parts) (first_frame i (comments_from None parts) n))

-- The marker or a block is refused there, as the stream is; or, at the marker, there are blocks without STREAMINFO,
-- which no stream has; unless memory ran out.
abbrev pub RefusesHead : Profile → List ℕ → Option (Place × Why) → Type 0
RefusesHead profile bytes outcome =
    (at : Place) × (why : Why) × (outcome ≡ Some (at, why))
    × (why ≢ Memory → ((parts : List Piece) × Refused grammar (opening profile) (beginning Truncated) parts (bits_of bytes) at why)
    ⊎ ((why ≡ NotStreamInfoFirst) × (at ≡ place.Marker) × ((parts : List Piece) × (n : ℕ) × IsHead profile bytes n parts × ((state_after grammar (opening profile) parts).stand.info ≡ None))))
