-- Reading a native stream frame by frame (RFC 9639, sections 8.2, 8.5 and 9).
use Rattle.std.specs.Prelude.{◌≡◌, ◌⊎◌, ℕ, ◌+◌, ◌<◌, ◌≤◌, min, true, ℤ, List, [], ◌∷◌, ◌++◌, length, take, drop, replicate, Option, Some, Result, Err, IsOkAnd}
use Rattle.flac_bits.specs.Bits.{bits_of}
use Rattle.flac_bits.specs.Items.{Joined, Stream, state_after}
use Rattle.flac_bits.specs.declared.why.Why.{Why}
use Rattle.flac_bits.specs.declared.why.Why.TheVariants.{Memory, Truncated, BadStreamInfo}
use Rattle.flac_info.specs.Info.{Info, KeepsRules, without_totals}
use Rattle.flac_header.specs.declared.subset.Profile.{Profile}
use Rattle.flac_frame.specs.Frame.{Frame, frame, first_sample}
use Rattle.flac_frame.specs.Interleaved.{interleaved}
use Rattle.flac_native.specs.Decoding.{beginning}
use Rattle.flac_native.specs.FrameAt.{IsFrameAt, NoFrameAt}
use Rattle.flac_native.specs.Stream.{Piece, framed, grammar, opening}
use Rattle.flac_native.specs.declared.fault.Place.{Place}
use Rattle.flac_native.specs.declared.fault.Place.TheVariants as place
use Rattle.flac_c.specs.Answers.{copied, IsDone}
use Rattle.flac_c.specs.Starts.{are_metadata}
use Rattle.flac_c.specs.declared.info.FlacProvedInfo.{FlacProvedInfo}
use Rattle.flac_c.specs.declared.cursor.FlacProvedCursor.{FlacProvedCursor}

-- ---- a cursor

-- STREAMINFO by which frames are read from a cursor on: the number of samples and their digest are unknown
abbrev pub info_from_c : FlacProvedInfo → Info
info_from_c i = record {
  least_block = i.least_block;
  greatest_block = i.greatest_block;
  least_frame = i.least_frame;
  greatest_frame = i.greatest_frame;
  rate = i.rate;
  channels = i.channels;
  depth = i.bits;
  total = 0;
  digest = replicate 16 0;
}

-- the cursor after a frame that ends at an offset; counts stop at 2^64 - 1
abbrev pub passed : FlacProvedCursor → Frame → (end : ℕ) → FlacProvedCursor
passed c f end = record {
  offset = end;
  frames = min (c.frames + 1) 18446744073709551615;
  sample = min (first_sample c.info.greatest_block f + f.size) 18446744073709551615;
  info = c.info;
}

-- ---- a frame

-- `len` is the number of its samples. If there is room for all of them, they are at the front of the buffer, and the
-- cursor is after the frame, which ends at this offset; otherwise both are unchanged.
pub record HandsOver (f : Frame) (end : ℕ) (old new : FlacProvedCursor) (out written : List ℤ) (len : ℕ) : Type 0 where
  pub many : len ≡ length (interleaved f)
  pub given : len ≤ length out → (written ≡ copied (interleaved f) out) × (new ≡ passed old f end)
  pub kept : length out < len → (written ≡ out) × (new ≡ old)

-- ---- a call

-- a frame is at a cursor by this STREAMINFO, and its samples are written
abbrev pub HandsNext : Profile → Info → List ℕ → (old new : FlacProvedCursor) → (out written : List ℤ) → (len : ℕ) → Type 0
HandsNext profile i bytes old new out written len = (f : Frame) × (n : ℕ) × IsFrameAt profile i (drop old.offset bytes) f n × HandsOver f (old.offset + n) old new out written len

-- by the STREAMINFO that the cursor has
abbrev pub HandsFrame : Profile → List ℕ → (old new : FlacProvedCursor) → (out written : List ℤ) → (len : ℕ) → Type 0
HandsFrame profile bytes old new out written len = HandsNext profile (info_from_c old.info) bytes old new out written len

-- The stream is over at the cursor, or a frame is there and its samples are written.
abbrev pub GivesNext : Profile → List ℕ → (old new : FlacProvedCursor) → (out written : List ℤ) → ℕ → Type 0
GivesNext profile bytes old new out written len =
    ((old.offset ≡ length bytes) × (new ≡ old) × (written ≡ out) × (len ≡ 0))
    ⊎ HandsFrame profile bytes old new out written len

-- There is no frame at the cursor: memory ran out, or the cursor has no STREAMINFO, or this is why.
abbrev pub NoFrame : Profile → List ℕ → FlacProvedCursor → Why → Type 0
NoFrame profile bytes c why =
    (why ≡ Memory) ⊎ (((why ≡ BadStreamInfo) × (KeepsRules (info_from_c c.info) → ⊥)) ⊎ NoFrameAt profile (info_from_c c.info) (drop c.offset bytes) why)

abbrev pub RefusesNext : Profile → List ℕ → FlacProvedCursor → Option (Place × Why) → Type 0
RefusesNext profile bytes c outcome = (why : Why) × (outcome ≡ Some (place.Frame c.frames, why)) × NoFrame profile bytes c why

-- this holds of each frame with which these bytes begin, and its number of bytes
abbrev pub OfFrameAt : Profile → Info → List ℕ → (Frame → ℕ → Type 0) → Type 0
OfFrameAt profile info bytes holds = (f : Frame) → (n : ℕ) → IsFrameAt profile info bytes f n → holds f n

-- if there is a frame at the cursor, it was handed over with this result
abbrev pub HandsIfThere : Profile → Info → List ℕ → Result ℕ Why → (old new : FlacProvedCursor) → (out written : List ℤ) → Type 0
HandsIfThere profile info bytes result old new out written =
    OfFrameAt profile info (drop old.offset bytes) (λ f n. IsOkAnd result (HandsOver f (old.offset + n) old new out written))

-- this holds of each frame that is at the cursor, and its number of bytes, if the cursor has a STREAMINFO
abbrev pub OfFrame : Profile → List ℕ → FlacProvedCursor → (Frame → ℕ → Type 0) → Type 0
OfFrame profile bytes c holds = KeepsRules (info_from_c c.info) → OfFrameAt profile (info_from_c c.info) (drop c.offset bytes) holds

-- if there is a frame at the cursor, it was handed over with this result, unless memory ran out
abbrev pub HandsOrLacks : Profile → List ℕ → Result ℕ Why → (old new : FlacProvedCursor) → (out written : List ℤ) → Type 0
HandsOrLacks profile bytes result old new out written =
    OfFrame profile bytes old (λ f n. (result ≡ Err Memory) ⊎ IsOkAnd result (HandsOver f (old.offset + n) old new out written))

-- if there is a frame at the cursor, the call of this status handed it over, unless memory ran out
abbrev pub HandsAny : Profile → List ℕ → (status : ℕ) → (old new : FlacProvedCursor) → (out written : List ℤ) → (len : ℕ) → Type 0
HandsAny profile bytes status old new out written len = OfFrame profile bytes old (λ f n. IsDone status (HandsOver f (old.offset + n) old new out written len))

-- ---- in a stream

-- this holds of the parts that the bytes are, if they are a native stream
abbrev pub OfStream : Profile → List ℕ → (List Piece → Type 0) → Type 0
OfStream profile bytes holds = (items : List Piece) → Stream grammar (opening profile) (beginning Truncated) items (bits_of bytes) → holds items

-- The bytes are a native stream of these parts. Those in front end at the cursor, which has their STREAMINFO; the
-- others are still to come.
pub record StandsIn (profile : Profile) (bytes : List ℕ) (c : FlacProvedCursor) (front more : List Piece) : Type 0 where
  pub stream : Stream grammar (opening profile) (beginning Truncated) (front ++ more) (bits_of bytes)
  pub before : c.offset ≤ length bytes
  pub spelled : Joined grammar (opening profile) (beginning Truncated) front (bits_of (take c.offset bytes))
  pub info : Info
  pub told : (state_after grammar (opening profile) front).stand.info ≡ Some info
  pub same : info_from_c c.info ≡ without_totals info

-- The bytes are a native stream of these items, and the cursor is at its first frame, right after the metadata.
abbrev pub StartsIn : Profile → List ℕ → FlacProvedCursor → List Piece → Type 0
StartsIn profile bytes c items = (front : List Piece) × (more : List Piece) × (items ≡ front ++ more) × (are_metadata front ≡ true) × StandsIn profile bytes c front more

-- if the bytes are a native stream in some profile, the call of this status has started in it, unless memory ran out
abbrev pub StartsIfStream : (bytes : List ℕ) → FlacProvedCursor → (status : ℕ) → Type 0
StartsIfStream bytes c status = (profile : Profile) → OfStream profile bytes (λ all. IsDone status (StartsIn profile bytes c all))

-- this holds of the parts of a stream in front of a cursor, the frame there, and the parts after it
abbrev pub OfNextFrame : Profile → List ℕ → FlacProvedCursor → ((front more : List Piece) → Frame → Type 0) → Type 0
OfNextFrame profile bytes c holds = (front : List Piece) → (more : List Piece) → (f : Frame) → StandsIn profile bytes c front (framed f ∷ more) → holds front more f

-- Of a stream the samples of the next frame are written, and the cursor after it is in the same stream.
abbrev pub GoesOn : Profile → List ℕ → (old new : FlacProvedCursor) → (out written : List ℤ) → ℕ → (front more : List Piece) → Frame → Type 0
GoesOn profile bytes old new out written len front more f = (end : ℕ) × HandsOver f end old new out written len × StandsIn profile bytes (passed old f end) (front ++ framed f ∷ []) more

-- if a frame of a stream is next, the call of this status went on, unless memory ran out
abbrev pub GoesOnAny : Profile → List ℕ → (status : ℕ) → (old new : FlacProvedCursor) → (out written : List ℤ) → ℕ → Type 0
GoesOnAny profile bytes status old new out written len = OfNextFrame profile bytes old (λ front more f. IsDone status (GoesOn profile bytes old new out written len front more f))
