-- Header packets that are put one after another, of which the last is held back.
use Rattle.std.specs.Prelude.{◌≡◌, ℕ, Bool, List, [], ◌∷◌, ◌++◌, length, replicate}
use Rattle.std.specs.List.{All}
use Rattle.flac_bits.specs.Bits.{bits_of}
use Rattle.flac_bits.specs.Forms.{IsBytes}
use Rattle.flac_info.specs.Info.{Info}
use Rattle.flac_meta.specs.declared.block.Block.{Block}
use Rattle.flac_native.specs.Writing.{head_spelling}
use Rattle.flac_pages.specs.declared.writing.PacketKind.TheVariants.{Header}
use Rattle.flac_pages.specs.Placed.{Placed, IsPlaced}
use Rattle.flac_ogg.specs.Listed.{texts_of, kinds_in}
use Rattle.flac_ogg.specs.Held.{ArePages}
use Rattle.flac_ogg.specs.Native.{block_spellings, packet_spellings}
use Rattle.flac_ogg.specs.Writing.{header_count}
use Rattle.flac_ogg.specs.declared.headers.Headers.{Headers}

-- the header packets have these bits: the pages of all but the last are to be sent, and the last is held
pub record AreHeaders (texts : List (List Bool)) (h : Headers) : Type 0 where
  pub packets : List Placed
  pub texts_are : texts_of packets ≡ texts
  pub kinds_are : kinds_in packets ≡ replicate (length texts) Header
  pub good : All IsPlaced packets
  pub pages : ArePages h.serial packets (bits_of h.sent.items) (bits_of h.held.middle.items) (bits_of h.held.last.items) h.held.next

-- they are those of STREAMINFO and these blocks
abbrev pub AreHeadersOf : Info → List Block → Headers → Type 0
AreHeadersOf info list h = AreHeaders (packet_spellings (header_count (length list)) info list []) h

-- they are those of the blocks with which a native stream begins; `head` begins with its bytes
abbrev pub AreHeadersOfHead : (head : List ℕ) → List Block → Headers → Type 0
AreHeadersOfHead head list h = (info : Info) → IsBytes 16 info.digest → bits_of head ≡ head_spelling info list → AreHeadersOf info list h

-- one more was put after those that there were
abbrev pub AddsHeader : List Bool → (old new : Headers) → Type 0
AddsHeader text old new = (first : List Bool) (texts : List (List Bool)) → AreHeaders (first ∷ texts) old → AreHeaders ((first ∷ texts) ++ text ∷ []) new

-- one for each of these blocks was put after the first
abbrev pub AddsBlocks : List Block → (old new : Headers) → Type 0
AddsBlocks list old new = (first : List Bool) → AreHeaders (first ∷ []) old → AreHeaders (first ∷ block_spellings list) new
