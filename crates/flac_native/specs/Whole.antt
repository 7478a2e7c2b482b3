-- What a whole stream is, by the list of all its frames.
use Rattle.std.specs.Prelude.{◌≡◌, ◌↔◌, Bool, List, ◌∷◌, ◌++◌, map, Some}
use Rattle.std.specs.List.{sum_by, flat_map}
use Rattle.flac_bits.specs.State.{Mark}
use Rattle.flac_bits.specs.Meaning.{AllKept}
use Rattle.flac_bits.specs.Items.{Stream, mark_after}
use Rattle.flac_info.specs.Info.{Info}
use Rattle.flac_meta.specs.declared.block.Block.{Block}
use Rattle.flac_meta.specs.declared.block.Block.TheVariants as blocks
use Rattle.flac_header.specs.Header.{Header}
use Rattle.flac_header.specs.declared.subset.Profile.{Profile}
use Rattle.flac_frame.specs.Frame.{Frame}
use Rattle.flac_frame.specs.Follows.{AreFrames, Follows}
use Rattle.flac_native.specs.Message.{frame_message}
use Rattle.flac_native.specs.Stream.{Piece, marked, framed, grammar, opening, end_rules}
use Rattle.flac_native.specs.Given.{closing}
use Rattle.flac_native.specs.Retag.{Begins}

-- the marker, STREAMINFO and a list of blocks, of which the last is marked
abbrev pub head_parts : Info → List Block → List Piece
head_parts info list = marked ∷ closing (blocks.StreamInfo info ∷ list)

-- The input begins with such a head. After it come frames to the end of the input, each a header and its body of at
-- most 16777215 bytes; the headers follow one another as the standard requires of the list of all headers. The number
-- of samples and the digest in STREAMINFO, if they are known, are those of all frames (RFC 9639, sections 6, 8.2 and
-- 9.1).
pub record IsWhole (profile : Profile) (m : Mark) (items : List Piece) (text : List Bool) : Type 0 where
  pub info : Info
  pub list : List Block
  pub frames : List Frame
  pub parts : items ≡ head_parts info list ++ map framed frames
  pub rest : List Bool
  pub begins : Begins profile m text info list rest
  pub headers : List Header
  pub are : AreFrames profile info (Some 16777215) (mark_after grammar (opening profile) m (head_parts info list) begins.head begins.spelled) headers frames rest
  pub follow : Follows profile info headers
  pub kept : AllKept (end_rules (Some info) (sum_by (λ f. f.size) frames) (flat_map (frame_message info.depth) frames))

-- The streams of the grammar, whose rules check one frame after another, are exactly these.
abbrev pub StreamsAreWhole : Type 0
StreamsAreWhole = (profile : Profile) (m : Mark) (items : List Piece) (text : List Bool) → Stream grammar (opening profile) m items text ↔ IsWhole profile m items text
