-- A stream stays a stream of the same frames.
use Rattle.std.specs.Prelude.{◌≡◌, ◌⊎◌, ℕ, Bool, List, ◌++◌, map}
use Rattle.flac_bits.specs.Bits.{bits_of}
use Rattle.flac_bits.specs.State.{Mark}
use Rattle.flac_bits.specs.Items.{Stream}
use Rattle.flac_header.specs.declared.subset.Profile.{Profile}
use Rattle.flac_info.specs.Info.{Info}
use Rattle.flac_meta.specs.declared.comments.Comments.{Comments}
use Rattle.flac_meta.specs.declared.block.Block.{Block}
use Rattle.flac_frame.specs.Frame.{Frame}
use Rattle.flac_native.specs.Stream.{Piece, framed, grammar, opening}
use Rattle.flac_native.specs.Retag.{BeginsWith}
use Rattle.flac_native.specs.Whole.{head_parts}
use Rattle.flac_edit.specs.Places.{AreEdited, IsOldOrEdited}

-- the marker, STREAMINFO, a list of blocks, and frames
abbrev pub items_of : Info → List Block → List Frame → List Piece
items_of info list frames = head_parts info list ++ map framed frames

-- the file is a stream of these items, to its end (RFC 9639, section 6)
abbrev pub IsStream : Profile → Mark → List Piece → List ℕ → Type 0
IsStream profile m items file = Stream grammar (opening profile) m items (bits_of file)

-- The file is a stream of the same STREAMINFO, edited blocks and the same frames.
pub record IsEditedStream (profile : Profile) (m : Mark) (new : Comments) (info : Info) (list : List Block) (frames : List Frame) (file : List ℕ) : Type 0 where
  pub news : List Block
  pub edited : AreEdited new list news
  pub stream : IsStream profile m (items_of info news frames) file

-- it is a stream of the items as they were, or with edited blocks
abbrev pub IsOldOrEditedStream : Profile → Mark → Comments → Info → List Block → List Frame → List ℕ → Type 0
IsOldOrEditedStream profile m new info list frames file = IsStream profile m (items_of info list frames) file ⊎ IsEditedStream profile m new info list frames file

-- If a file is a stream, then what `edit_in_place` and a crash leave of it is a stream of the old items, or of the same
-- with edited blocks.
abbrev pub StreamsStay : Type 0
StreamsStay = (profile : Profile) (m : Mark) (new : Comments) (info : Info) (list : List Block) (frames : List Frame) (rest : List Bool) (file left : List ℕ) → m.unread ≡ 0 → IsStream profile m (items_of info list frames) file
    → BeginsWith m (bits_of file) info list rest → IsOldOrEdited m new info list rest left → IsOldOrEditedStream profile m new info list frames left
