-- What copying a stream into Ogg does (RFC 9639, sections 6 to 10.1).
use Rattle.std.specs.Prelude.{◌≡◌, ℕ, true, List, ◌++◌}
use Rattle.flac_bits.specs.Bits.{bits_of}
use Rattle.flac_bits.specs.State.{After}
use Rattle.flac_bits.specs.declared.source.Source as source
use Rattle.flac_bits.specs.declared.target.Target as target
use Rattle.flac_bits.specs.declared.why.Why.TheVariants.{Truncated}
use Rattle.flac_header.specs.declared.subset.Profile.{Profile}
use Rattle.flac_info.specs.Info.{Info}
use Rattle.flac_native.specs.Decoding.{start_mark}
use Rattle.flac_native.specs.Stream.{Progress}
use Rattle.flac_pages.specs.Placed.{Placed, stream_spelling}
use Rattle.flac_ogg.specs.Either.{begins_page, read_either}
use Rattle.flac_copy.specs.Frames.{Copied, AreFramesOf}
use Rattle.flac_copy.specs.Heads.{blocks_in}
use Rattle.flac_copy.specs.Opened.{HasOneInfo, IsReady, parts_of}
use Rattle.flac_copy.specs.Outgoing.{frames_placed}
use Rattle.flac_copy.specs.Parts.{Marked}
use Rattle.flac_copy.specs.Written.{AreHeadersOfCopy}

-- The input is a stream of these blocks and frames. The target was sent the pages of an Ogg stream: header packets of
-- the blocks, and then the bytes of each frame as one packet, with the number of samples so far.
pub record IsCopiedToOgg {W : Type 0} (h : target.Ghosts W) (serial : ℕ) (profile : Profile) (bytes : List ℕ) (end : After) (before after : W) : Type 0 where
  pub parts : List Marked
  pub info : Info
  pub first : HasOneInfo info (blocks_in parts)
  pub frames : List Copied
  pub input : (read_either profile (begins_page bytes) (start_mark end) (bits_of bytes)).whole (parts_of (begins_page bytes) parts frames)
  pub state : Progress
  pub ready : IsReady profile info state
  pub are : AreFramesOf Truncated state frames
  pub packets : List Placed
  pub headers : AreHeadersOfCopy info (blocks_in parts) packets
  pub sent : bits_of (h.sent after) ≡ bits_of (h.sent before) ++ stream_spelling serial (packets ++ frames_placed 0 frames)

-- the same of a source and of a target, if their bytes are known
abbrev pub CopiesToOgg : {S W : Type 0} → source.Ghosts S → target.Ghosts W → (serial : ℕ) → Profile → S → (before after : W) → Type 0
CopiesToOgg g h serial profile s before after = g.known s ≡ true → h.known before ≡ true → IsCopiedToOgg h serial profile (g.coming s) (g.after s) before after
