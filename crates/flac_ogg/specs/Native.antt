-- The packets of an Ogg stream, and a native stream of the same items (RFC 9639, sections 6 and 10.1).
use Rattle.std.specs.Prelude.{◌≡◌, ◌<◌, ◌^◌, ◌++◌, ℕ, Bool, true, List, [], ◌∷◌, drop, map, None}
use Rattle.flac_bits.specs.Bits.{unsigned, bits_of, is_nil}
use Rattle.flac_bits.specs.State.{Mark}
use Rattle.flac_bits.specs.Forms.{joined}
use Rattle.flac_bits.specs.Meaning.{AllKept}
use Rattle.flac_bits.specs.Items.{Stream, state_after}
use Rattle.flac_bits.specs.declared.why.Why.TheVariants.{Truncated}
use Rattle.flac_info.specs.Info.{Info}
use Rattle.flac_meta.specs.Listed.{list_fault, info_seen}
use Rattle.flac_meta.specs.Spelling.{block_spelling}
use Rattle.flac_meta.specs.Valid.{AllAre, FitsFields}
use Rattle.flac_meta.specs.declared.block.Block.{Block}
use Rattle.flac_meta.specs.declared.block.Block.TheVariants as blocks
use Rattle.flac_header.specs.declared.subset.Profile.{Profile}
use Rattle.flac_frame.specs.Audio.{Sound}
use Rattle.flac_native.specs.Decoding.{beginning}
use Rattle.flac_native.specs.Stream.{Piece, marked, framed, opening, grammar}
use Rattle.flac_native.specs.Given.{Cut, fits_plan, plan_fault, info_of, frames_of, closing}
use Rattle.flac_native.specs.Writing.{AreFrames, AreSizes}
use Rattle.flac_ogg.specs.Stream.{start, AreItems, OggStream}

-- ---- the packets as a native stream

-- without the mapping, which is the first 13 bytes of the first packet
abbrev pub without_mapping : List (List ℕ) → List (List ℕ)
without_mapping [] = []
without_mapping (first ∷ packets) = drop 13 first ∷ packets

-- the marker fLaC, and then the bytes of all packets but for the mapping
abbrev pub native_text : List (List ℕ) → List Bool
native_text packets = unsigned 32 0x664C6143 ++ joined (map bits_of (without_mapping packets))

-- The items of an Ogg stream are those of a native stream.
abbrev pub OggStreamsAreStreams : Type 0
OggStreamsAreStreams = (profile : Profile) (mark : Mark) (items : List Piece) (text : List Bool) (o : OggStream profile mark items text) → Stream grammar (opening profile) (beginning Truncated) (marked ∷ items) (native_text o.contents.packets)

-- ---- what is encoded, as packets

-- the mapping, which has the number of header packets after the first
abbrev pub mapping_spelling : (count : ℕ) → List Bool
mapping_spelling count = joined (unsigned 40 0x7F464C4143 ∷ unsigned 16 0x0100 ∷ unsigned 16 count ∷ unsigned 32 0x664C6143 ∷ [])

-- blocks, each in a packet of its own, of which the last is marked
abbrev pub block_spellings : List Block → List (List Bool)
block_spellings [] = []
block_spellings (b ∷ bs) = block_spelling (is_nil bs) b ∷ block_spellings bs

-- each packet's bits: the mapping and STREAMINFO, a block each, and a frame each
abbrev pub packet_spellings : (count : ℕ) → Info → List Block → (frames : List (List Bool)) → List (List Bool)
packet_spellings count info list frames = (mapping_spelling count ++ block_spelling (is_nil list) (blocks.StreamInfo info)) ∷ (block_spellings list ++ frames)

-- the packets are exactly these items, and a stream of the profile may end after them
pub record AreStream (profile : Profile) (packets : List (List ℕ)) (items : List Piece) : Type 0 where
  pub spelled : AreItems (start profile) packets items
  pub ends : grammar.may_end (state_after grammar (start profile) items) ≡ true
  pub kept : AllKept (grammar.at_end (state_after grammar (start profile) items))

-- Packets of what is encoded are the items of a stream of what was given, and of the plan's profile, for samples that a
-- plan was made for and blocks that may follow STREAMINFO.
abbrev pub EncodedAreOggItems : Type 0
EncodedAreOggItems =
    (p : Cut) (list : List Block) (a : Sound) (least greatest count : ℕ) (frames : List (List Bool)) (packets : List (List ℕ)) → plan_fault p ≡ None → fits_plan p a ≡ true → list_fault info_seen list ≡ None → AllAre FitsFields list
    → AreFrames p a frames → AreSizes frames least greatest → count < 2 ^ 16 → map bits_of packets ≡ packet_spellings count (info_of p a least greatest) list frames
    → AreStream p.profile packets (closing (blocks.StreamInfo (info_of p a least greatest) ∷ list) ++ map framed (frames_of p.block_size a))
