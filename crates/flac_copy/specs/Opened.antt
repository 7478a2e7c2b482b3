-- A stream that was opened to be copied (RFC 9639, sections 6 and 10.1).
use Rattle.std.specs.Prelude.{◌≡◌, ◌+◌, Bool, true, false, not, List, [], ◌∷◌, ◌++◌, map, Option, Some, None, ℕ}
use Rattle.std.specs.List.{list_all}
use Rattle.flac_bits.specs.Bits.{bits_of}
use Rattle.flac_bits.specs.declared.source.Source as source
use Rattle.flac_header.specs.declared.subset.Profile.{Profile}
use Rattle.flac_info.specs.Info.{Info, KeepsRules}
use Rattle.flac_meta.specs.declared.block.Block.{Block}
use Rattle.flac_meta.specs.declared.block.Block.TheVariants as blocks
use Rattle.flac_native.specs.Decoding.{start_mark}
use Rattle.flac_native.specs.Stream.{Piece, Progress, marked, framed}
use Rattle.flac_native.specs.Track.{IsAt}
use Rattle.flac_native.specs.declared.track.Phase.TheVariants.{Frames}
use Rattle.flac_native.specs.declared.track.Track.{Track}
use Rattle.flac_ogg.specs.Either.{begins_page, read_either}
use Rattle.flac_ogg.specs.Fronts.{front_bytes, front_count}
use Rattle.flac_ogg.specs.declared.decoding.Fronted.{Fronted}
use Rattle.flac_copy.specs.Frames.{Copied}
use Rattle.flac_copy.specs.Heads.{pieces, blocks_in}
use Rattle.flac_copy.specs.Inputs.{IsKnown, FramesCome}
use Rattle.flac_copy.specs.Parts.{Marked}
use Rattle.flac_copy.specs.Serials.{serial_as, serial_of}
use Rattle.flac_copy.specs.declared.input.Input.{Input}
use Rattle.flac_copy.specs.declared.opened.Copying.{Copying}

abbrev pub is_info : Block → Bool
is_info (blocks.StreamInfo info) = true
is_info other = false

-- STREAMINFO is the first of the blocks, and there is no other
pub record HasOneInfo (info : Info) (list : List Block) : Type 0 where
  pub others : List Block
  pub list_is : list ≡ blocks.StreamInfo info ∷ others
  pub none : list_all (λ b. not (is_info b)) others ≡ true

-- before the first frame of a stream of this profile with this STREAMINFO
pub record IsReady (profile : Profile) (info : Info) (p : Progress) : Type 0 where
  pub profile_is : p.stand.profile ≡ profile
  pub phase : p.stand.phase ≡ Frames
  pub info_is : p.stand.info ≡ Some info
  pub rules : KeepsRules info
  pub before : p.stand.before ≡ None
  pub samples : p.samples ≡ 0
  pub message : p.message ≡ []

abbrev pub frames_of : List Copied → List Piece
frames_of frames = map (λ x. framed x.frame) frames

-- the parts of a stream: in a native one the marker comes first
abbrev pub parts_of : (is_ogg : Bool) → List Marked → List Copied → List Piece
parts_of true parts frames = pieces parts ++ frames_of frames
parts_of false parts frames = marked ∷ (pieces parts ++ frames_of frames)

pub record BecomesCopying {S : Type 0} (list : List Block) (input : Input S) (track : Track) (serial : Option ℕ) (same : List Block) (c : Copying S) : Type 0 where
  pub blocks_are : same ≡ list
  pub input_is : c.input ≡ input
  pub track_is : c.track ≡ track
  pub info : HasOneInfo c.info list
  pub rules : KeepsRules c.info
  pub serial_is : c.serial ≡ serial

-- The blocks of the source, of which STREAMINFO is the first, were read: whatever frames are left, the source is a
-- stream of these blocks and frames. The serial number is that of its first page.
pub record IsOpened {S T : Type 0} (g : source.Ghosts S) (k : source.Ghosts T) (is_ogg : Bool) (profile : Profile) (s : S) (list : List Block) (c : Copying T) : Type 0 where
  pub parts : List Marked
  pub list_is : list ≡ blocks_in parts
  pub first : HasOneInfo c.info list
  pub state : Progress
  pub at : IsAt c.track state
  pub ready : IsReady profile c.info state
  pub serial : serial_of c ≡ serial_as is_ogg (g.coming s)
  pub known : IsKnown k c.input
  pub stream : (frames : List Copied) → FramesCome k state c.input frames → (read_either profile is_ogg (start_mark (g.after s)) (bits_of (g.coming s))).whole (parts_of is_ogg parts frames)

-- the same if its bytes are known, of a container
abbrev pub OpensAs : {S : Type 0} → source.Ghosts S → Bool → Profile → S → List Block → Copying S → Type 0
OpensAs g is_ogg profile s list c = g.known s ≡ true → IsOpened g g is_ogg profile s list c

-- a source with its first byte in front of it
abbrev pub fronted : {S : Type 0} → source.Ghosts S → source.Ghosts (Fronted S)
fronted g = record {
  known = λ s. g.known s.source;
  coming = λ s. front_bytes s.front ++ g.coming s.source;
  after = λ s. g.after s.source;
  errors = λ s. g.errors s.source;
  raised = λ s. g.raised s.source;
  most = λ s. front_count s.front + g.most s.source;
  names = λ s. g.names s.source;
}

-- of the container that the first byte shows
abbrev pub Opens : {S : Type 0} → source.Ghosts S → Profile → S → List Block → Copying (Fronted S) → Type 0
Opens g profile s list c = g.known s ≡ true → IsOpened g (fronted g) (begins_page (g.coming s)) profile s list c
