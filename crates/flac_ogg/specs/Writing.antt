-- What encoding writes as an Ogg stream, and that it is one of what was given (RFC 9639, section 10.1).
use Rattle.std.specs.Prelude.{◌≡◌, ◌<◌, ℕ, zero, suc, ◌+◌, ◌*◌, min, Bool, true, false, cond, ◌&&◌, nat_eq, nat_lt, List, [], ◌∷◌, ◌++◌, length, map, replicate}
use Rattle.flac_bits.specs.Bits.{bits_of}
use Rattle.flac_bits.specs.State.{Rises}
use Rattle.flac_bits.specs.declared.target.Target as target
use Rattle.flac_bits.specs.declared.why.Why.TheVariants.{Truncated}
use Rattle.flac_meta.specs.declared.block.Block.{Block}
use Rattle.flac_meta.specs.declared.block.Block.TheVariants as blocks
use Rattle.flac_frame.specs.Audio.{Sound, samples_each}
use Rattle.flac_native.specs.Decoding.{beginning}
use Rattle.flac_native.specs.Stream.{framed}
use Rattle.flac_native.specs.Given.{Cut, blocks_in, info_of, frames_of, closing}
use Rattle.flac_native.specs.Writing.{AreFrames, AreLeastFrames, AreSizes}
use Rattle.flac_native.specs.declared.fault.EncodeFault.{EncodeFault}
use Rattle.flac_native.specs.declared.fault.EncodeFault.TheVariants.{Write}
use Rattle.flac_pages.specs.declared.writing.PacketKind.{PacketKind}
use Rattle.flac_pages.specs.declared.writing.PacketKind.TheVariants as kind_of
use Rattle.flac_pages.specs.Placed.{Placed, stream_spelling}
use Rattle.flac_ogg.specs.Stream.{OggStream}
use Rattle.flac_ogg.specs.Native.{packet_spellings}
use Rattle.flac_ogg.specs.Listed.{texts_of, kinds_in}

-- The first block after STREAMINFO is a Vorbis comment.
abbrev pub begins_with_comment : List Block → Bool
begins_with_comment (blocks.VorbisComment found ∷ list) = true
begins_with_comment list = false

-- These can be in an Ogg stream: the first block is a Vorbis comment, and no seek table is asked for, since its offsets
-- have no meaning there.
abbrev pub may_be_ogg : Cut → List Block → Bool
may_be_ogg p list = nat_eq p.seek_every 0 && begins_with_comment list

-- how many header packets follow the first one, in 16 bits: 0 if they are more than these can count
abbrev pub header_count : ℕ → ℕ
header_count n = cond (nat_lt 65535 n) 0 n

-- the first n frames, each with the number of samples so far at its end
abbrev pub frames_to : (block_size total n : ℕ) → List PacketKind
frames_to block_size total zero = []
frames_to block_size total (suc n) = frames_to block_size total n ++ kind_of.Frame (min total (block_size * suc n)) ∷ []

-- header packets, one more than there are blocks, and after them the frames
abbrev pub kinds_of : Cut → List Block → Sound → List PacketKind
kinds_of p list a = replicate (length list + 1) kind_of.Header ++ frames_to p.block_size (samples_each a.channels) (blocks_in p.block_size (samples_each a.channels))

-- The packets are those of what was given: the mapping with STREAMINFO, a block each, and a frame each: all frames of
-- the samples, each the shortest of its block with the plan's predictors, whose smallest and largest sizes are in
-- STREAMINFO.
pub record ArePackets (p : Cut) (list : List Block) (a : Sound) (packets : List Placed) : Type 0 where
  pub least : ℕ
  pub greatest : ℕ
  pub frames : List (List Bool)
  pub are : AreFrames p a frames
  pub are_least : AreLeastFrames p a frames
  pub sizes : AreSizes frames least greatest
  pub texts : texts_of packets ≡ packet_spellings (header_count (length list)) (info_of p a least greatest) list frames
  pub kinds : kinds_in packets ≡ kinds_of p list a

-- After the bits that were there, an Ogg stream of what was given, and of the plan's profile, was written, of these
-- packets.
pub record EncodesOgg (serial : ℕ) (p : Cut) (list : List Block) (a : Sound) (before after : List Bool) : Type 0 where
  pub packets : List Placed
  pub are : ArePackets p list a packets
  pub written : after ≡ before ++ stream_spelling serial packets
  pub stream : OggStream p.profile (beginning Truncated) (closing (blocks.StreamInfo (info_of p a are.least are.greatest) ∷ list) ++ map framed (frames_of p.block_size a)) (stream_spelling serial packets)

-- What was written is a prefix of such a stream, after the bits that were there.
pub record BeginsOgg (serial : ℕ) (p : Cut) (list : List Block) (a : Sound) (before after : List Bool) : Type 0 where
  pub front : List Bool
  pub rest : List Bool
  pub written : after ≡ before ++ front
  pub encodes : EncodesOgg serial p list a before (before ++ (front ++ rest))

-- ---- the target of a call

-- it was sent such a stream, if it is known
abbrev pub HasSentOgg : {W : Type 0} → target.Ghosts W → (serial : ℕ) → Cut → List Block → Sound → (old new : W) → Type 0
HasSentOgg g serial p list a old new = g.known old ≡ true → EncodesOgg serial p list a (bits_of (g.sent old)) (bits_of (g.sent new))

-- with Write it was sent a prefix of one, if it is known
abbrev pub BeganOgg : {W : Type 0} → target.Ghosts W → (serial : ℕ) → Cut → List Block → Sound → (old new : W) → EncodeFault → Type 0
BeganOgg g serial p list a old new e = e ≡ Write → g.known old ≡ true → BeginsOgg serial p list a (bits_of (g.sent old)) (bits_of (g.sent new))

-- with Write it returned an error, if it is known
abbrev pub HasWriteError : {W : Type 0} → target.Ghosts W → (old new : W) → EncodeFault → Type 0
HasWriteError g old new e = e ≡ Write → g.known old ≡ true → g.errors old < g.errors new

-- with Write its count of errors rose, if it could, whatever is known of it
abbrev pub CountsWriteError : {W : Type 0} → target.Ghosts W → (old new : W) → EncodeFault → Type 0
CountsWriteError g old new e = e ≡ Write → Rises (g.errors old) (g.errors new)
