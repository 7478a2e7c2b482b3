-- Streams whose metadata blocks were read, and the frames that they have left: in a native stream one after another, in
-- an Ogg stream each in a packet of its own (RFC 9639, sections 6 and 10.1).
use Rattle.std.specs.Prelude.{◌≡◌, ℕ, Bool, true, false, is_some, List, [], ◌++◌, map, None}
use Rattle.std.specs.List.{flat_map}
use Rattle.flac_bits.specs.Bits.{bits_of}
use Rattle.flac_bits.specs.Items.{state_after}
use Rattle.flac_bits.specs.Meaning.{AllKept}
use Rattle.flac_bits.specs.declared.source.Source as source
use Rattle.flac_bits.specs.declared.why.Why.TheVariants.{Truncated}
use Rattle.flac_frame.specs.Frame.{Frame}
use Rattle.flac_native.specs.Stream.{Stand, Progress, grammar, framed}
use Rattle.flac_native.specs.Track.{ReadsPart, stand_of, shown}
use Rattle.flac_native.specs.declared.track.Track.{Track}
use Rattle.flac_pages.specs.Packets.{Place}
use Rattle.flac_pages.specs.Given.{Takes}
use Rattle.flac_copy.specs.Again.{all_of}
use Rattle.flac_copy.specs.Frames.{Copied, IsFrameOf, AreFramesOf}
use Rattle.flac_copy.specs.Packets.{IsNext, IsLast, HoldsNext}
use Rattle.flac_copy.specs.declared.again.Again.{Again}
use Rattle.flac_copy.specs.declared.input.Input.{Input}
use Rattle.flac_copy.specs.declared.input.Input.TheVariants.{Native, Ogg}

-- the bytes of frames, one after another
abbrev pub bytes_in : List Copied → List ℕ
bytes_in frames = flat_map (λ x. x.bytes) frames

-- ---- a stream

-- its bytes are known, and no error was met
abbrev pub IsKnown : {S : Type 0} → source.Ghosts S → Input S → Type 0
IsKnown g (Native a) = (a.fault ≡ None) × (g.known a.source ≡ true)
IsKnown g (Ogg p) = p.known ≡ true

-- it gave these bytes, in Ogg those of a whole packet, and has left what comes after them
abbrev pub Gives : {S : Type 0} → source.Ghosts S → (old : Input S) → List ℕ → (new : Input S) → Type 0
Gives g (Native a) bytes (Native b) = all_of g.coming a ≡ bytes ++ all_of g.coming b
Gives g (Ogg p) bytes (Ogg q) = IsNext p q bytes
Gives g (Native a) bytes (Ogg q) = ⊥
Gives g (Ogg p) bytes (Native b) = ⊥

-- it has nothing left
abbrev pub IsOver : {S : Type 0} → source.Ghosts S → Input S → Type 0
IsOver g (Native a) = all_of g.coming a ≡ []
IsOver g (Ogg p) = IsLast p

-- the packets that pages still have are these frames, each whole, and the input ends after the last page
pub record PacketsEnd (p : Place) (frames : List Copied) : Type 0 where
  pub packets : List (List ℕ)
  pub bits : map bits_of packets ≡ map (λ x. bits_of x.bytes) frames
  pub last : Place
  pub taken : Takes p packets last
  pub ends : IsLast last

-- what it has left are these frames
abbrev pub HasFrames : {S : Type 0} → source.Ghosts S → Input S → List Copied → Type 0
HasFrames g (Native a) frames = all_of g.coming a ≡ bytes_in frames
HasFrames g (Ogg p) frames = PacketsEnd p frames

-- What it has left after this state are these frames, each spelled by its bytes in the state after those before it, and
-- the stream may end after them: STREAMINFO states nothing else of their samples.
pub record FramesCome {S : Type 0} (g : source.Ghosts S) (p : Progress) (from : Input S) (frames : List Copied) : Type 0 where
  pub has : HasFrames g from frames
  pub are : AreFramesOf Truncated p frames
  pub kept : AllKept (grammar.at_end (state_after grammar p (map (λ x. framed x.frame) frames)))

-- ---- a call that reads the next frame, before which the stream is `old`, and after which it is `new`

-- a native stream whose bytes are known gave the bytes of this frame
pub record IsGiven {S : Type 0} (g : source.Ghosts S) (s : Stand) (f : Frame) (old new : Again S) (bytes : List ℕ) : Type 0 where
  pub split : all_of g.coming old ≡ bytes ++ all_of g.coming new
  pub fault : new.fault ≡ None
  pub known : g.known new.source ≡ true
  pub is : IsFrameOf Truncated s bytes f

abbrev pub GivesNative : {S : Type 0} → source.Ghosts S → (t0 t1 : Track) → (old new : Again S) → List ℕ → Type 0
GivesNative g t0 t1 old new bytes = old.fault ≡ None → g.known old.source ≡ true → IsGiven g (stand_of t0) (shown t1) old new bytes

-- the frame was read into the track
pub record ReadsFrame (t0 t1 : Track) : Type 0 where
  pub next : ReadsPart t0 (framed (shown t1)) t1
  pub made : is_some (stand_of t1).info ≡ true

-- there was a frame, or the stream is over
abbrev pub NextNative : {S : Type 0} → source.Ghosts S → (t0 t1 : Track) → (old new : Again S) → List ℕ → Bool → Type 0
NextNative g t0 t1 old new bytes true = ReadsFrame t0 t1 × GivesNative g t0 t1 old new bytes
NextNative g t0 t1 old new bytes false = (t1 ≡ t0) × (old.fault ≡ None → g.known old.source ≡ true → all_of g.coming old ≡ [])

abbrev pub NextInOgg : (t0 t1 : Track) → (old new : Place) → List ℕ → Bool → Type 0
NextInOgg t0 t1 old new bytes true = ReadsFrame t0 t1 × HoldsNext old new bytes true × IsFrameOf Truncated (stand_of t0) bytes (shown t1)
NextInOgg t0 t1 old new bytes false = (t1 ≡ t0) × HoldsNext old new bytes false

-- the stream gave the bytes of this frame
pub record FrameComes {S : Type 0} (g : source.Ghosts S) (s : Stand) (f : Frame) (old new : Input S) (bytes : List ℕ) : Type 0 where
  pub gives : Gives g old bytes new
  pub known : IsKnown g new
  pub is : IsFrameOf Truncated s bytes f

-- the same if its bytes are known; or it is over
abbrev pub NextFrame : {S : Type 0} → source.Ghosts S → (t0 t1 : Track) → (old new : Input S) → List ℕ → Bool → Type 0
NextFrame g t0 t1 old new bytes true = ReadsFrame t0 t1 × (IsKnown g old → FrameComes g (stand_of t0) (shown t1) old new bytes)
NextFrame g t0 t1 old new bytes false = (t1 ≡ t0) × (IsKnown g old → IsOver g old)
