-- Frames whose bytes are kept.
use Rattle.std.specs.Prelude.{◌≡◌, ℕ, ◌≤◌, Bool, true, List, [], ◌∷◌, ◌++◌, length, take, Some, None, ⊤}
use Rattle.flac_bits.specs.Bits.{bits_of}
use Rattle.flac_bits.specs.State.{State, past, started, short_of}
use Rattle.flac_bits.specs.Fence.{InRoom}
use Rattle.flac_bits.specs.Fencing.{lifted}
use Rattle.flac_bits.specs.Meaning.{Spells}
use Rattle.flac_bits.specs.declared.source.Source as source
use Rattle.flac_bits.specs.declared.why.Why.{Why}
use Rattle.flac_frame.specs.Frame.{Frame}
use Rattle.flac_native.specs.Decoding.{beginning}
use Rattle.flac_native.specs.Stream.{Stand, Progress, frame_after, framed, next}
use Rattle.flac_copy.specs.Again.{all_of, Holds}
use Rattle.flac_copy.specs.declared.again.Again.{Again}

-- These bytes are the spelling of the frame, which follows a state, and no more than a frame may have (RFC 9639,
-- sections 8.2 and 9). `short` is why bits run short after them.
pub record IsFrameOf (short : Why) (s : Stand) (bytes : List ℕ) (f : Frame) : Type 0 where
  pub spelled : Spells (frame_after s.profile s.info s.before) (beginning short) (bits_of bytes) f
  pub room : length bytes ≤ 16777215

-- a frame, and the bytes that spell it
pub record Copied : Type 0 where
  pub bytes : List ℕ
  pub frame : Frame

-- frames one after another, each spelled by its bytes, in the state after those before it
abbrev pub AreFramesOf : Why → Progress → List Copied → Type 0
AreFramesOf short p [] = ⊤
AreFramesOf short p (x ∷ xs) = IsFrameOf short p.stand x.bytes x.frame × AreFramesOf short (next p (framed x.frame)) xs

-- A reader took the bits of a frame, which end at a whole byte; it counts n bytes.
pub record TakesText (s : Stand) (f : Frame) (old new : State) (n : ℕ) : Type 0 where
  pub text : List Bool
  pub split : (started (lifted old)).cursor.left ≡ text ++ new.cursor.left
  pub spelled : Spells (frame_after s.profile s.info s.before) (started (lifted old)).cursor.mark text f
  pub room : InRoom (Some 16777215) (started (lifted old)).cursor.mark text
  pub count : n ≡ (past text (started (lifted old)).cursor.mark).bytes
  pub whole : (past text (started (lifted old)).cursor.mark).unread ≡ 0

-- the same if the bytes are known; no error was met
pub record TakesFrame (s : Stand) (f : Frame) (old new : State) (n : ℕ) : Type 0 where
  pub errors : new.errors ≡ old.errors
  pub raised : new.raised ≡ old.raised
  pub names : new.names ≡ old.names
  pub known : old.known ≡ true → new.known ≡ true
  pub after : old.known ≡ true → new.after ≡ (lifted old).after
  pub taken : old.known ≡ true → TakesText s f old new n

-- ---- a source whose bytes are known and that had no fault, `old` before a call and `new` after it

-- No error was met. The first n bytes that come are the frame; they are those that came before.
pub record FirstIsFrame {S : Type 0} (g : source.Ghosts S) (s : Stand) (f : Frame) (old new : Again S) (n : ℕ) : Type 0 where
  pub holds : Holds g old new
  pub few : n ≤ length (all_of g.coming old)
  pub is : IsFrameOf (short_of (g.after old.source).fails) s (take n (all_of g.coming old)) f

-- the same of a call that may have left the source inside the frame
abbrev pub PassesFrame : {S : Type 0} → source.Ghosts S → Stand → Frame → (old new : Again S) → ℕ → Type 0
PassesFrame g s f old new n = old.fault ≡ None → g.known old.source ≡ true → FirstIsFrame g s f old new n

-- the same, and these bytes are held
abbrev pub GivesFrame : {S : Type 0} → source.Ghosts S → Stand → Frame → (old new : Again S) → ℕ → Type 0
GivesFrame g s f old new n = (n ≤ length new.held.items) × PassesFrame g s f old new n
