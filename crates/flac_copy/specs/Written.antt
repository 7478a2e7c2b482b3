-- What writing a stream that was opened does (RFC 9639, sections 6 to 10.1).
use Rattle.std.specs.Prelude.{◌≡◌, ℕ, Bool, true, List, [], ◌∷◌, ◌++◌, length, replicate, Option, Some, None, ⊤}
use Rattle.std.specs.List.{All}
use Rattle.flac_bits.specs.Bits.{bits_of}
use Rattle.flac_bits.specs.Items.{Stream}
use Rattle.flac_bits.specs.State.{After}
use Rattle.flac_bits.specs.declared.source.Source as source
use Rattle.flac_bits.specs.declared.target.Target as target
use Rattle.flac_bits.specs.declared.why.Why.TheVariants.{Truncated}
use Rattle.flac_header.specs.declared.subset.Profile.{Profile}
use Rattle.flac_info.specs.Info.{Info}
use Rattle.flac_meta.specs.declared.block.Block.{Block}
use Rattle.flac_meta.specs.declared.block.Block.TheVariants as blocks
use Rattle.flac_native.specs.Decoding.{beginning, start_mark}
use Rattle.flac_native.specs.Given.{closing}
use Rattle.flac_native.specs.Rewriting.{head_of}
use Rattle.flac_native.specs.Stream.{Progress, marked, grammar, opening}
use Rattle.flac_native.specs.Track.{IsAt}
use Rattle.flac_pages.specs.Placed.{Placed, IsPlaced, stream_spelling}
use Rattle.flac_pages.specs.declared.writing.PacketKind.TheVariants.{Header}
use Rattle.flac_ogg.specs.Either.{begins_page, read_either}
use Rattle.flac_ogg.specs.Held.{ArePages}
use Rattle.flac_ogg.specs.Listed.{texts_of, kinds_in}
use Rattle.flac_ogg.specs.Native.{packet_spellings}
use Rattle.flac_ogg.specs.Writing.{header_count}
use Rattle.flac_copy.specs.Blocks.{ogg_blocks}
use Rattle.flac_copy.specs.Frames.{Copied, AreFramesOf}
use Rattle.flac_copy.specs.Heads.{blocks_in}
use Rattle.flac_copy.specs.Inputs.{IsKnown, FramesCome, bytes_in}
use Rattle.flac_copy.specs.Opened.{HasOneInfo, IsReady, frames_of, parts_of}
use Rattle.flac_copy.specs.Outgoing.{Pending, frames_placed}
use Rattle.flac_copy.specs.Parts.{Marked}
use Rattle.flac_copy.specs.Serials.{serial_of}
use Rattle.flac_copy.specs.declared.fault.CopyFault.{CopyFault}
use Rattle.flac_copy.specs.declared.fault.CopyFault.TheVariants.{Blocks}
use Rattle.flac_copy.specs.declared.opened.Copying.{Copying}

-- the first of these blocks is this STREAMINFO
abbrev pub StartsWith : Info → List Block → Type 0
StartsWith info given = (others : List Block) × (given ≡ blocks.StreamInfo info ∷ others)

-- ---- a native stream

-- The stream had these frames left, and then its end. The target was sent the marker, the given blocks, of which the
-- last is marked, and the bytes of the frames: a native stream of these blocks and frames.
pub record SendsNative {S W : Type 0} (g : source.Ghosts S) (h : target.Ghosts W) (p : Progress) (c : Copying S) (given : List Block) (before after : W) : Type 0 where
  pub frames : List Copied
  pub come : FramesCome g p c.input frames
  pub first : StartsWith c.info given
  pub sent : bits_of (h.sent after) ≡ bits_of (h.sent before) ++ (head_of given ++ bits_of (bytes_in frames))
  pub stream : (profile : Profile) → IsReady profile c.info p → Stream grammar (opening profile) (beginning Truncated) (marked ∷ (closing given ++ frames_of frames)) (head_of given ++ bits_of (bytes_in frames))

-- the same if the bytes of the stream and of the target are known
abbrev pub WritesNative : {S W : Type 0} → source.Ghosts S → target.Ghosts W → Copying S → List Block → (before after : W) → Type 0
WritesNative g h c given before after = IsKnown g c.input → h.known before ≡ true → (p : Progress) → IsAt c.track p → SendsNative g h p c given before after

-- ---- an Ogg stream

-- the header packets: STREAMINFO, and the given blocks as an Ogg stream has them
pub record AreHeadersOfCopy (info : Info) (given : List Block) (packets : List Placed) : Type 0 where
  pub texts : texts_of packets ≡ packet_spellings (header_count (length (ogg_blocks given))) info (ogg_blocks given) []
  pub kinds : kinds_in packets ≡ replicate (length (packet_spellings (header_count (length (ogg_blocks given))) info (ogg_blocks given) [])) Header

-- all header packets but the last were sent, and the last is held
pub record BeginsOgg {W : Type 0} (h : target.Ghosts W) (serial : ℕ) (info : Info) (given : List Block) (to : Pending) (before after : W) : Type 0 where
  pub packets : List Placed
  pub are : AreHeadersOfCopy info given packets
  pub good : All IsPlaced packets
  pub written : List Bool
  pub pages : ArePages to.serial packets written to.middle to.last to.next
  pub number : to.serial ≡ serial
  pub none : to.samples ≡ 0
  pub known : h.known before ≡ true → h.known after ≡ true
  pub sent : h.known before ≡ true → bits_of (h.sent after) ≡ bits_of (h.sent before) ++ written

-- The stream had these frames left, and then its end. The target was sent the pages of the header packets, and of a
-- packet for each frame with its bytes and the number of samples so far.
pub record SendsOgg {S W : Type 0} (g : source.Ghosts S) (h : target.Ghosts W) (serial : ℕ) (p : Progress) (c : Copying S) (given : List Block) (before after : W) : Type 0 where
  pub frames : List Copied
  pub come : FramesCome g p c.input frames
  pub first : StartsWith c.info given
  pub packets : List Placed
  pub headers : AreHeadersOfCopy c.info given packets
  pub sent : bits_of (h.sent after) ≡ bits_of (h.sent before) ++ stream_spelling serial (packets ++ frames_placed 0 frames)

-- the same if the bytes of the stream and of the target are known
abbrev pub WritesOgg : {S W : Type 0} → source.Ghosts S → target.Ghosts W → (serial : ℕ) → Copying S → List Block → (before after : W) → Type 0
WritesOgg g h serial c given before after = IsKnown g c.input → h.known before ≡ true → (p : Progress) → IsAt c.track p → SendsOgg g h serial p c given before after

-- ---- in either container

-- an Ogg stream with this serial number, or a native stream if there is none
abbrev pub WritesAs : {S W : Type 0} → source.Ghosts S → target.Ghosts W → Option ℕ → Copying S → List Block → (before after : W) → Type 0
WritesAs g h None c given before after = WritesNative g h c given before after
WritesAs g h (Some serial) c given before after = WritesOgg g h serial c given before after

-- in the container in which the stream was read, an Ogg stream with the same serial number
abbrev pub WritesAlike : {S W : Type 0} → source.Ghosts S → target.Ghosts W → Copying S → List Block → (before after : W) → Type 0
WritesAlike g h c given before after = WritesAs g h (serial_of c) c given before after

-- These bits were added: a native stream of these blocks and frames; or the pages of an Ogg stream of them with this
-- serial number, each frame's bytes in a packet of its own, with the number of samples so far.
abbrev pub AddsCopy : Profile → Option ℕ → Info → List Block → List Copied → (before after : List Bool) → Type 0
AddsCopy profile None info given frames before after =
    (after ≡ before ++ (head_of given ++ bits_of (bytes_in frames)))
    × Stream grammar (opening profile) (beginning Truncated) (marked ∷ (closing given ++ frames_of frames)) (head_of given ++ bits_of (bytes_in frames))
AddsCopy profile (Some serial) info given frames before after =
    (packets : List Placed) × AreHeadersOfCopy info given packets × (after ≡ before ++ stream_spelling serial (packets ++ frames_placed 0 frames))

-- These bytes are a stream of blocks and of frames, each spelled by its own bytes; a stream of the same blocks and of
-- the same frames, byte by byte, was added.
pub record IsCopied (serial : Option ℕ) (profile : Profile) (bytes : List ℕ) (end : After) (before after : List Bool) : Type 0 where
  pub parts : List Marked
  pub info : Info
  pub first : HasOneInfo info (blocks_in parts)
  pub frames : List Copied
  pub input : (read_either profile (begins_page bytes) (start_mark end) (bits_of bytes)).whole (parts_of (begins_page bytes) parts frames)
  pub state : Progress
  pub ready : IsReady profile info state
  pub are : AreFramesOf Truncated state frames
  pub adds : AddsCopy profile serial info (blocks_in parts) frames before after

-- the same of a source and of a target, if their bytes are known
abbrev pub CopiesAs : {S W : Type 0} → source.Ghosts S → target.Ghosts W → (serial : Option ℕ) → Profile → S → (before after : W) → Type 0
CopiesAs g h serial profile s before after = g.known s ≡ true → h.known before ≡ true → IsCopied serial profile (g.coming s) (g.after s) (bits_of (h.sent before)) (bits_of (h.sent after))

-- ---- after an error

-- if the blocks cannot be written, nothing was done to the target
abbrev pub IsUntouched : {W : Type 0} → CopyFault → (before after : W) → Type 0
IsUntouched (Blocks why) before after = after ≡ before
IsUntouched other before after = ⊤
