-- How a draft in Ogg ends.
use Rattle.std.specs.Prelude.{◌≡◌, ℕ, true, false, List, ◌++◌, length}
use Rattle.flac_bits.specs.Bits.{bits_of, is_nil}
use Rattle.flac_bits.specs.Forms.{AreBytes}
use Rattle.flac_info.specs.Info.{Info}
use Rattle.flac_meta.specs.Spelling.{block_spelling}
use Rattle.flac_meta.specs.declared.block.Block.{Block}
use Rattle.flac_meta.specs.declared.block.Block.TheVariants.{StreamInfo}
use Rattle.flac_pages.specs.declared.writing.PacketKind.TheVariants.{Header}
use Rattle.flac_pages.specs.Placed.{Placed, marks_of}
use Rattle.flac_pages.specs.Written.{packet_spelling}
use Rattle.flac_ogg.specs.Native.{mapping_spelling}
use Rattle.flac_ogg.specs.Writing.{header_count}
use Rattle.flac_draft.specs.Rewriting.{IsWrittenOver}

-- a header packet
abbrev pub header_packet : List ℕ → Placed
header_packet packet = record { packet = packet; kind = Header }

-- the bytes are the first page, of the packet with the mapping and STREAMINFO
pub record IsFirstPage (serial : ℕ) (info : Info) (list : List Block) (page : List ℕ) : Type 0 where
  pub packet : List ℕ
  pub small : AreBytes packet
  pub text : bits_of packet ≡ mapping_spelling (header_count (length list)) ++ block_spelling (is_nil list) (StreamInfo info)
  pub is : bits_of page ≡ packet_spelling (marks_of serial 0 true false (header_packet packet)) packet

-- `last` was sent, and then bytes at an offset were written over
abbrev pub EndsAs : (start : ℕ) → (last first old new : List ℕ) → Type 0
EndsAs start last first old new = IsWrittenOver start first (old ++ last) new
