-- Which metadata blocks a reader keeps (RFC 9639, section 8.1).
use Rattle.std.specs.Prelude.{Bool, true, false, List, [], ◌∷◌, Option, Some, None}
use Rattle.flac_info.specs.Info.{Info}
use Rattle.flac_meta.specs.declared.block.Block.{Block}
use Rattle.flac_meta.specs.declared.block.Block.TheVariants as blocks
use Rattle.flac_meta.specs.declared.comments.Comments.{Comments}
use Rattle.flac_meta.specs.declared.seek_table.SeekPoint.{SeekPoint}
use Rattle.flac_reader.specs.declared.keep.Keep.{Keep}
use Rattle.flac_reader.specs.declared.keep.Keep.TheVariants.{All, Tags}

-- STREAMINFO and comments
abbrev pub is_tag : Block → Bool
is_tag (blocks.StreamInfo info) = true
is_tag (blocks.VorbisComment found) = true
is_tag other = false

abbrev pub keeps : Keep → Block → Bool
keeps All b = true
keeps Tags b = is_tag b

-- the first STREAMINFO, the first comments and the first seek table among some blocks
abbrev pub or_info : Block → Option Info → Option Info
or_info (blocks.StreamInfo info) later = Some info
or_info other later = later

unfoldable pub first_info : List Block → Option Info
first_info [] = None
first_info (b ∷ bs) = or_info b (first_info bs)

abbrev pub or_comments : Block → Option Comments → Option Comments
or_comments (blocks.VorbisComment found) later = Some found
or_comments other later = later

unfoldable pub first_comments : List Block → Option Comments
first_comments [] = None
first_comments (b ∷ bs) = or_comments b (first_comments bs)

-- the points of the first seek table, none if there is no table
abbrev pub or_points : Block → List SeekPoint → List SeekPoint
or_points (blocks.SeekTable points) later = points
or_points other later = later

unfoldable pub first_points : List Block → List SeekPoint
first_points [] = []
first_points (b ∷ bs) = or_points b (first_points bs)
