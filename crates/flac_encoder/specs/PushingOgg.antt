-- An encoder of an Ogg stream that samples are pushed to, a block at a time, and its stream (RFC 9639, section 10.1).
use Rattle.std.specs.Prelude.{◌≡◌, ℕ, ◌+◌, ◌^◌, ◌<◌, ℤ, Bool, true, false, cond, List, [], ◌∷◌, ◌++◌, length, map, replicate, Option, Some, None, Result, IfErr}
use Rattle.std.specs.List.{All}
use Rattle.std.specs.Option.{option_or}
use Rattle.flac_bits.specs.Bits.{bits_of}
use Rattle.flac_bits.specs.declared.target.Target as target
use Rattle.flac_bits.specs.declared.why.Why.TheVariants.{Truncated}
use Rattle.flac_meta.specs.declared.block.Block.{Block}
use Rattle.flac_meta.specs.declared.block.Block.TheVariants as blocks
use Rattle.flac_subframe.specs.declared.format.linear.LinearPredictor.{LinearPredictor}
use Rattle.flac_frame.specs.Audio.{samples_each}
use Rattle.flac_native.specs.Decoding.{beginning}
use Rattle.flac_native.specs.Stream.{Piece, marked, framed}
use Rattle.flac_native.specs.Given.{closing}
use Rattle.flac_encoder.specs.Pushing.{Shape, setup_fault, open_info, Pushed, unpushed, trying, searching, IsFirst, FailsIn, StandsFor, sound_of, frame_with, SpellsLeastFound}
use Rattle.flac_native.specs.Writing.{SpellsFrame}
use Rattle.flac_native.specs.declared.fault.EncodeFault.{EncodeFault}
use Rattle.flac_native.specs.declared.fault.EncodeFault.TheVariants.{BadMapping, Setup, Write}
use Rattle.flac_pages.specs.declared.writing.PacketKind.TheVariants as kind_of
use Rattle.flac_pages.specs.declared.writing.PacketMarks.{PacketMarks}
use Rattle.flac_pages.specs.Placed.{Placed, IsPlaced, stream_spelling}
use Rattle.flac_pages.specs.Written.{packet_spelling}
use Rattle.flac_predict.specs.declared.search.Search.{Search}
use Rattle.flac_ogg.specs.Held.{ArePages}
use Rattle.flac_ogg.specs.Stream.{OggStream}
use Rattle.flac_ogg.specs.Native.{AreStream, native_text, packet_spellings}
use Rattle.flac_ogg.specs.Listed.{texts_of, kinds_in}
use Rattle.flac_ogg.specs.Writing.{begins_with_comment, header_count}

-- The state of an encoder of a native stream, and also the number of the stream, the number of the page that the next
-- packet begins, and the bytes of the pages of the packet that is held back: as they are if more packets follow, and as
-- they are if the stream ends.
pub record PushedOgg (S : Type 0) : Type 0 where
  pub pushed : Pushed S
  pub serial : ℕ
  pub sequence : ℕ
  pub middle : List ℕ
  pub last : List ℕ

-- these predictors are tried from now on
abbrev pub trying_ogg : {S : Type 0} → PushedOgg S → List LinearPredictor → PushedOgg S
trying_ogg e ps = record e { pushed = trying e.pushed ps }

-- predictors are sought for each block from now on, or no longer
abbrev pub searching_ogg : {S : Type 0} → PushedOgg S → Option Search → PushedOgg S
searching_ogg e search = record e { pushed = searching e.pushed search }

-- Why an encoder cannot be made, if so: the format, or the list does not begin with a Vorbis comment.
abbrev pub open_fault : Shape → List Block → Option EncodeFault
open_fault s list = option_or (setup_fault s) (cond (begins_with_comment list) None (Some BadMapping))

-- the fault that is reported if an encoder is not made
abbrev pub IsOpenFault : Shape → List Block → EncodeFault → Type 0
IsOpenFault s list e = IsFirst (open_fault s list) e

-- a fault of the format; or else another one, if the list begins with a Vorbis comment
abbrev pub listed_fault : EncodeFault → (listed : Bool) → EncodeFault
listed_fault (Setup fault) listed = Setup fault
listed_fault other listed = cond listed other BadMapping

-- The Ogg stream of the encoder: what was written and the packet that is held back, marked last. Its packets are these,
-- the first with the 51 bytes of FLAC's first one, and each is one of these items. The items are those of the native
-- stream of the encoder's state.
pub record StandsForOgg {S : Type 0} (e : PushedOgg S) (items : List Piece) (packets : List Placed) (written : List Bool) : Type 0 where
  pub pages : ArePages e.serial packets written (bits_of e.middle) (bits_of e.last) e.sequence
  pub stream : OggStream e.pushed.shape.profile (beginning Truncated) items (written ++ bits_of e.last)
  pub plain : StandsFor e.pushed (marked ∷ items) (native_text (map (λ q. q.packet) packets))
  pub are : AreStream e.pushed.shape.profile (map (λ q. q.packet) packets) items
  pub good : All IsPlaced packets
  pub small : e.serial < 2 ^ 32
  pub first : (q : Placed) × (qs : List Placed) × (packets ≡ q ∷ qs) × (length q.packet ≡ 51)

-- The stream of an encoder that was just made: that of STREAMINFO and the list, each in a header packet; this text is
-- the pages of all but the last.
pub record IsOpen {S : Type 0} (list : List Block) (e : PushedOgg S) (packets : List Placed) (text : List Bool) : Type 0 where
  pub texts : texts_of packets ≡ packet_spellings (header_count (length list)) (open_info e.pushed.shape) list []
  pub kinds : kinds_in packets ≡ replicate (length list + 1) kind_of.Header
  pub stands : StandsForOgg e (closing (blocks.StreamInfo (open_info e.pushed.shape) ∷ list)) packets text

-- the stream is the same
abbrev pub KeepsOggStream : {S : Type 0} → (old new : PushedOgg S) → Type 0
KeepsOggStream old new = (items : List Piece) (packets : List Placed) (written : List Bool) → StandsForOgg old items packets written → StandsForOgg new items packets written

-- ---- the packet that is held

-- the marks of a frame, up to whose end the stream has `end` samples of each channel
abbrev pub frame_marks : (serial sequence end : ℕ) → (last : Bool) → PacketMarks
frame_marks serial sequence end last = record { serial = serial; sequence = sequence; kind = kind_of.Frame end; first = false; last = last }

-- the pages of such a frame
abbrev pub frame_pages : (serial sequence end : ℕ) → (last : Bool) → List ℕ → List Bool
frame_pages serial sequence end last packet = packet_spelling (frame_marks serial sequence end last) packet

-- ---- the calls

-- The encoder was made: its stream is that of STREAMINFO and the list, each in a header packet, and the target was sent
-- all of it but what is held back.
pub record Opens {S : Type 0} (g : target.Ghosts S) (list : List Block) (old : S) (e : PushedOgg S) : Type 0 where
  pub packets : List Placed
  pub text : List Bool
  pub texts : texts_of packets ≡ packet_spellings (header_count (length list)) (open_info e.pushed.shape) list []
  pub kinds : kinds_in packets ≡ replicate (length list + 1) kind_of.Header
  pub stands : StandsForOgg e (closing (blocks.StreamInfo (open_info e.pushed.shape) ∷ list)) packets text
  pub sent : g.known old ≡ true → bits_of (g.sent e.pushed.target) ≡ bits_of (g.sent old) ++ text

-- The encoder could not be made: the target was sent a prefix of the header packets, and returned an error. So what was
-- sent is a prefix of the stream of the encoder that was to be made.
pub record BeginsOpening {S : Type 0} (g : target.Ghosts S) (shape : Shape) (serial : ℕ) (list : List Block) (old left : S) : Type 0 where
  pub to : PushedOgg S
  pub made : to.pushed ≡ unpushed shape left
  pub number : to.serial ≡ serial
  pub packets : List Placed
  pub text : List Bool
  pub opens : IsOpen list to packets text
  pub fails : FailsIn g text old left

-- with Write the encoder could not be made, and this is left of the target
abbrev pub FailsOpen : {S X : Type 0} → target.Ghosts S → Shape → (serial : ℕ) → List Block → (old : S) → Result X EncodeFault → Type 0
FailsOpen {S} g shape serial list old result = IfErr result (λ e. e ≡ Write → (left : S) × BeginsOpening g shape serial list old left)

-- The packet is the next frame: it has exactly the samples of the block, no frame of its family, with the predictors of
-- the encoder and those that its search found, is shorter, its last page has the number of samples so far, and the stream
-- of the encoder is then the one before with the frame as one more item in one more packet. The packet that was held is
-- then written.
pub record IsNextPacket {S : Type 0} (old new : PushedOgg S) (block : List (List ℤ)) (q : Placed) : Type 0 where
  pub kind : q.kind ≡ kind_of.Frame (old.pushed.samples + samples_each block)
  pub spells : SpellsFrame (sound_of old.pushed.shape block) (frame_with old.pushed.number block) (bits_of q.packet)
  pub least : SpellsLeastFound old.pushed.search old.pushed.predictors (sound_of old.pushed.shape block) (frame_with old.pushed.number block) (bits_of q.packet)
  pub stands : (items : List Piece) (packets : List Placed) (written : List Bool) → StandsForOgg old items packets written
      → StandsForOgg new (items ++ framed (frame_with old.pushed.number block) ∷ []) (packets ++ q ∷ []) (written ++ bits_of old.middle)

-- the next frame is held back, and the target was sent the packet that was held before
pub record PushesOgg {S : Type 0} (g : target.Ghosts S) (block : List (List ℤ)) (old new : PushedOgg S) : Type 0 where
  pub packet : Placed
  pub next : IsNextPacket old new block packet
  pub sent : bits_of (g.sent new.pushed.target) ≡ bits_of (g.sent old.pushed.target) ++ bits_of old.middle

-- The target was sent a prefix of the packet that was held. So what was sent is a prefix of the stream that the encoder
-- would have after it.
pub record BeginsPushOgg {S : Type 0} (g : target.Ghosts S) (block : List (List ℤ)) (old new : PushedOgg S) : Type 0 where
  pub packet : Placed
  pub to : PushedOgg S
  pub next : IsNextPacket old to block packet
  pub front : List Bool
  pub rest : List Bool
  pub held : bits_of old.middle ≡ front ++ rest
  pub sent : bits_of (g.sent new.pushed.target) ≡ bits_of (g.sent old.pushed.target) ++ front

-- the same if the target is known, and with Write
abbrev pub SentPacket : {S : Type 0} → target.Ghosts S → List (List ℤ) → (old new : PushedOgg S) → Type 0
SentPacket g block old new = g.known old.pushed.target ≡ true → PushesOgg g block old new

abbrev pub BegunPacket : {S : Type 0} → target.Ghosts S → List (List ℤ) → (old new : PushedOgg S) → EncodeFault → Type 0
BegunPacket g block old new e = e ≡ Write → g.known old.pushed.target ≡ true → BeginsPushOgg g block old new

-- The target was sent the packet that was held, marked last. So what was sent is the stream of the encoder.
pub record EndsOgg {S : Type 0} (g : target.Ghosts S) (e : PushedOgg S) (new : S) : Type 0 where
  pub sent : bits_of (g.sent new) ≡ bits_of (g.sent e.pushed.target) ++ bits_of e.last
  pub whole : (items : List Piece) (packets : List Placed) (written : List Bool) → StandsForOgg e items packets written
      → (written ++ bits_of e.last ≡ stream_spelling e.serial packets) × OggStream e.pushed.shape.profile (beginning Truncated) items (written ++ bits_of e.last)

-- the same if the target is known
abbrev pub SentEnd : {S : Type 0} → target.Ghosts S → PushedOgg S → (new : S) → Type 0
SentEnd g e new = g.known e.pushed.target ≡ true → EndsOgg g e new

-- with Write the target, of which this is left, was sent a prefix of that packet, and returned an error
abbrev pub FailsEnd : {S X : Type 0} → target.Ghosts S → PushedOgg S → Result X EncodeFault → Type 0
FailsEnd {S} g e result = IfErr result (λ f. f ≡ Write → (left : S) × FailsIn g (bits_of e.last) e.pushed.target left)
