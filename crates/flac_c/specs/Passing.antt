-- Frames of a native stream that are passed: to the one of a number, and to the one that holds a sample (RFC 9639,
-- section 9).
use Rattle.std.specs.Prelude.{◌≡◌, ◌⊎◌, ℕ, zero, suc, ◌+◌, ◌<◌, ◌≤◌, List, ◌++◌, length, take, drop, map, Option, Result, Ok, Err}
use Rattle.flac_bits.specs.declared.why.Why.{Why}
use Rattle.flac_bits.specs.declared.why.Why.TheVariants.{Memory}
use Rattle.flac_header.specs.declared.subset.Profile.{Profile}
use Rattle.flac_frame.specs.Frame.{Frame}
use Rattle.flac_native.specs.Stream.{Piece, framed}
use Rattle.flac_native.specs.declared.fault.Place.{Place}
use Rattle.flac_c.specs.Answers.{IsDone}
use Rattle.flac_c.specs.Cursors.{info_from_c, passed, OfFrame, RefusesNext, StandsIn}
use Rattle.flac_native.specs.FrameAt.{IsFrameAt}
use Rattle.flac_c.specs.declared.cursor.FlacProvedCursor.{FlacProvedCursor}

-- a frame is at a cursor, and this is the cursor after it
abbrev pub PassesFrame : Profile → List ℕ → (old new : FlacProvedCursor) → Type 0
PassesFrame profile bytes old new = (f : Frame) × (n : ℕ) × IsFrameAt profile (info_from_c old.info) (drop old.offset bytes) f n × (new ≡ passed old f (old.offset + n))

-- n frames are one after another from a cursor on, none of which ends after a sample, and this is the cursor after them
abbrev pub PassesFrames : Profile → List ℕ → (sample n : ℕ) → (old new : FlacProvedCursor) → Type 0
PassesFrames profile bytes sample zero old new = new ≡ old
PassesFrames profile bytes sample (suc n) old new = (next : FlacProvedCursor) × PassesFrame profile bytes old next × (next.sample ≤ sample) × PassesFrames profile bytes sample n next new

-- Frames are passed, as many as this at most. Fewer are, only if the bytes end after them, or the next frame ends after
-- the sample.
pub record Passes (profile : Profile) (bytes : List ℕ) (count sample : ℕ) (old new : FlacProvedCursor) : Type 0 where
  pub n : ℕ
  pub frames : PassesFrames profile bytes sample n old new
  pub few : n ≤ count
  pub stops : (n ≡ count) ⊎ ((new.offset ≡ length bytes) ⊎ ((next : FlacProvedCursor) × PassesFrame profile bytes new next × (sample < next.sample)))

-- after some frames there is no frame, for this reason
abbrev pub RefusesOn : Profile → List ℕ → (sample : ℕ) → FlacProvedCursor → Option (Place × Why) → Type 0
RefusesOn profile bytes sample old outcome = (n : ℕ) × (at : FlacProvedCursor) × PassesFrames profile bytes sample n old at × RefusesNext profile bytes at outcome

-- this holds of the parts of a stream in front of a cursor, and of the frames that are still to come
abbrev pub OfFrames : Profile → List ℕ → FlacProvedCursor → (List Piece → List Frame → Type 0) → Type 0
OfFrames profile bytes c holds = (front : List Piece) → (frames : List Frame) → StandsIn profile bytes c front (map framed frames) → holds front frames

-- Of a stream these are its next frames, and the cursor after them is in the same stream.
abbrev pub GoesFurther : Profile → List ℕ → (count sample : ℕ) → (old new : FlacProvedCursor) → Type 0
GoesFurther profile bytes count sample old new = OfFrames profile bytes old (λ front frames.
    (p : Passes profile bytes count sample old new) × StandsIn profile bytes new (front ++ map framed (take p.n frames)) (map framed (drop p.n frames)))

-- in a stream the call of this status went further, unless memory ran out
abbrev pub GoesFurtherAny : Profile → List ℕ → (count sample : ℕ) → (status : ℕ) → (old new : FlacProvedCursor) → Type 0
GoesFurtherAny profile bytes count sample status old new = OfFrames profile bytes old (λ front frames. IsDone status (GoesFurther profile bytes count sample old new))

-- if there is a frame at the cursor, the result is the cursor after it, unless memory ran out
abbrev pub PassesAny : Profile → List ℕ → FlacProvedCursor → Result FlacProvedCursor Why → Type 0
PassesAny profile bytes c result = OfFrame profile bytes c (λ f n. (result ≡ Err Memory) ⊎ (result ≡ Ok (passed c f (c.offset + n))))
