-- Which metadata blocks a stream has, as a property of the list of all of them (RFC 9639, section 8).
use Rattle.std.specs.Prelude.{◌≡◌, ◌↔◌, ◌≤◌, Bool, true, false, List, [], ◌∷◌, ◌++◌, map, None, All}
use Rattle.std.specs.List.{count_by}
use Rattle.flac_bits.specs.State.{Mark}
use Rattle.flac_bits.specs.Items.{Joined, Stream, state_after}
use Rattle.flac_header.specs.declared.subset.Profile.{Profile}
use Rattle.flac_info.specs.Info.{Info}
use Rattle.flac_meta.specs.Listed.{block_fault}
use Rattle.flac_meta.specs.Valid.{FitsFields, BlockSpelled}
use Rattle.flac_meta.specs.declared.block.Block.{Block}
use Rattle.flac_meta.specs.declared.block.Block.TheVariants as blocks
use Rattle.flac_frame.specs.Frame.{Frame}
use Rattle.flac_native.specs.Stream.{Piece, marked, block, framed, grammar, opening, next}
use Rattle.flac_native.specs.Retag.{is_comment}
use Rattle.flac_native.specs.declared.track.Phase.TheVariants.{Frames}

-- ---- the blocks

abbrev pub is_stream_info : Block → Bool
is_stream_info (blocks.StreamInfo info) = true
is_stream_info b = false

abbrev pub is_seek_table : Block → Bool
is_seek_table (blocks.SeekTable points) = true
is_seek_table b = false

-- A block that is valid by itself: its type is not forbidden, its length fits 24 bits, its seek points are in order,
-- its cue sheet has from 1 to 255 tracks of at most 255 index points (sections 8.1, 8.5 and 8.7), and each number fits
-- its field.
pub record IsValid (b : Block) : Type 0 where
  pub written : block_fault b ≡ None
  pub fits : FitsFields b

-- STREAMINFO is the first block, and no other block is one; at most one block is a seek table, and at most one is a
-- Vorbis comment; each block is valid by itself.
pub record AreInOrder (list : List Block) : Type 0 where
  pub info : Info
  pub others : List Block
  pub first : list ≡ blocks.StreamInfo info ∷ others
  pub one_info : count_by is_stream_info list ≤ 1
  pub one_table : count_by is_seek_table list ≤ 1
  pub one_comment : count_by is_comment list ≤ 1
  pub each : All IsValid list

-- ---- their marks

-- whether a block is marked as the last, and the block
abbrev pub MarkedBlock : Type 0
MarkedBlock = Bool × Block

-- the last block is marked, and no other
abbrev pub LastIsMarked : List MarkedBlock → Type 0
LastIsMarked [] = ⊥
LastIsMarked (b ∷ []) = b.0 ≡ true
LastIsMarked (b ∷ c ∷ more) = (b.0 ≡ false) × LastIsMarked (c ∷ more)

abbrev pub without_marks : List MarkedBlock → List Block
without_marks list = map (λ b. b.1) list

abbrev pub part_of : MarkedBlock → Piece
part_of b = block b.0 b.1

-- ---- their bits

-- blocks one after another, each with its mark, and with no regard to one another
abbrev pub AreSpelled : List MarkedBlock → List Bool → Type 0
AreSpelled [] text = text ≡ []
AreSpelled (b ∷ more) text = (front : List Bool) × (rest : List Bool) × (text ≡ front ++ rest) × BlockSpelled b.0 b.1 front × AreSpelled more rest

-- these bits, after the marker, are these blocks, each in the state after those before it, and frames come next
pub record AreRead (profile : Profile) (m : Mark) (list : List MarkedBlock) (text : List Bool) : Type 0 where
  pub spelled : Joined grammar (next (opening profile) marked) m (map part_of list) text
  pub over : (state_after grammar (next (opening profile) marked) (map part_of list)).stand.phase ≡ Frames

-- blocks in order, of which the last alone is marked, and their bits
pub record AreOrdered (list : List MarkedBlock) (text : List Bool) : Type 0 where
  pub marks : LastIsMarked list
  pub order : AreInOrder (without_marks list)
  pub spelled : AreSpelled list text

-- ---- a stream

-- the marker, blocks in order, of which the last alone is marked, and frames after them
pub record HasBlocks (items : List Piece) : Type 0 where
  pub list : List MarkedBlock
  pub frames : List Frame
  pub parts : items ≡ marked ∷ (map part_of list ++ map framed frames)
  pub marks : LastIsMarked list
  pub order : AreInOrder (without_marks list)

-- A reader, which checks each block by those before it, accepts exactly the blocks that are in order; and each stream
-- has such blocks.
pub record BlocksAreInOrder : Type 0 where
  pub read : (profile : Profile) (m : Mark) (list : List MarkedBlock) (text : List Bool) → AreRead profile m list text ↔ AreOrdered list text
  pub streams : (profile : Profile) (m : Mark) (items : List Piece) (text : List Bool) → Stream grammar (opening profile) m items text → HasBlocks items
