-- What a whole stream is, by the list of all its blocks and the list of all its frames, without a state.
use Rattle.std.specs.Prelude.{◌≡◌, ◌↔◌, Bool, List, ◌∷◌, ◌++◌, map, Some}
use Rattle.std.specs.List.{sum_by, flat_map}
use Rattle.flac_bits.specs.Bits.{unsigned}
use Rattle.flac_bits.specs.State.{Mark}
use Rattle.flac_bits.specs.Meaning.{AllKept}
use Rattle.flac_bits.specs.Items.{Stream}
use Rattle.flac_header.specs.Header.{Header}
use Rattle.flac_header.specs.declared.subset.Profile.{Profile}
use Rattle.flac_frame.specs.Frame.{Frame}
use Rattle.flac_frame.specs.Follows.{AreFrames, Follows}
use Rattle.flac_native.specs.Message.{frame_message}
use Rattle.flac_native.specs.Stream.{Piece, marked, framed, grammar, opening, end_rules}
use Rattle.flac_native.specs.BlockOrder.{MarkedBlock, part_of, AreOrdered}

-- The input is the marker, blocks in order, of which the last alone is marked, and frames to the end, each a header and
-- its body of at most 16777215 bytes; the headers follow one another as the standard and the profile require of the
-- list of all headers. The number of samples and the digest in STREAMINFO, if they are known, are those of all frames
-- (RFC 9639, sections 6, 8, 8.2 and 9.1).
pub record IsOrdered (profile : Profile) (m : Mark) (items : List Piece) (text : List Bool) : Type 0 where
  pub list : List MarkedBlock
  pub frames : List Frame
  pub parts : items ≡ marked ∷ (map part_of list ++ map framed frames)
  pub head : List Bool
  pub rest : List Bool
  pub stands : text ≡ unsigned 32 0x664C6143 ++ (head ++ rest)
  pub blocks : AreOrdered list head
  pub headers : List Header
  pub are : AreFrames profile blocks.order.info (Some 16777215) m headers frames rest
  pub follow : Follows profile blocks.order.info headers
  pub kept : AllKept (end_rules (Some blocks.order.info) (sum_by (λ f. f.size) frames) (flat_map (frame_message blocks.order.info.depth) frames))

-- At a whole byte the streams of the grammar are exactly these.
abbrev pub StreamsAreOrdered : Type 0
StreamsAreOrdered = (profile : Profile) (m : Mark) (items : List Piece) (text : List Bool) → m.unread ≡ 0 → Stream grammar (opening profile) m items text ↔ IsOrdered profile m items text
