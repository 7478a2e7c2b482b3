-- The metadata blocks of a native stream as C sees them (RFC 9639, sections 8.1 to 8.8).
use Rattle.std.specs.Prelude.{◌≡◌, ℕ, ◌+◌, Bool, List, [], ◌∷◌, length, take, drop}
use Rattle.flac_bits.specs.Bits.{bits_of, bit_value}
use Rattle.flac_header.specs.declared.subset.Profile.{Profile}
use Rattle.flac_meta.specs.Spelling.{kind_of, length_of}
use Rattle.flac_meta.specs.declared.picture.Picture.{Picture}
use Rattle.flac_meta.specs.declared.block.Block.{Block}
use Rattle.flac_meta.specs.declared.block.Block.TheVariants as block_of
use Rattle.flac_native.specs.Stream.{Piece, marked, block, framed}
use Rattle.flac_c.specs.Answers.{IsCopied}
use Rattle.flac_c.specs.Starts.{IsHead}
use Rattle.flac_c.specs.declared.blocks.FlacProvedSpan.{FlacProvedSpan}
use Rattle.flac_c.specs.declared.blocks.FlacProvedPicture.{FlacProvedPicture}
use Rattle.flac_c.specs.declared.blocks.FlacProvedBlock.{FlacProvedBlock}

-- ---- one block

-- bytes from an offset on
abbrev pub span : (offset len : ℕ) → FlacProvedSpan
span offset len = record { offset = offset; len = len }

-- how many comments, seek points or tracks it has
abbrev pub parts_in : Block → ℕ
parts_in (block_of.VorbisComment found) = length found.list
parts_in (block_of.SeekTable points) = length points
parts_in (block_of.CueSheet sheet) = length sheet.tracks
parts_in other = 0

abbrev pub no_picture : FlacProvedPicture
no_picture = record { kind = 0; width = 0; height = 0; depth = 0; colours = 0; media = span 0 0; text = span 0 0; bytes = span 0 0 }

-- The content of a picture's block is at an offset: 4 bytes of its kind, the media type after the 4 bytes of its length,
-- the description after those of its, 16 bytes of sizes, and the data after those of its length (section 8.8).
abbrev pub picture_at : (at : ℕ) → Picture → FlacProvedPicture
picture_at at p = record {
  kind = p.kind;
  width = p.width;
  height = p.height;
  depth = p.depth;
  colours = p.colours;
  media = span (at + 8) (length p.media);
  text = span (at + 12 + length p.media) (length p.text);
  bytes = span (at + 32 + length p.media + length p.text) (length p.bytes);
}

abbrev pub picture_in : (at : ℕ) → Block → FlacProvedPicture
picture_in at (block_of.Picture p) = picture_at at p
picture_in at other = no_picture

-- a block whose header of 4 bytes is at an offset
abbrev pub block_at : (at : ℕ) → (last : Bool) → Block → FlacProvedBlock
block_at at last b = record {
  offset = at;
  length = length_of b;
  parts = parts_in b;
  kind = kind_of b;
  last = bit_value last;
  picture = picture_in (at + 4) b;
}

-- ---- all of them

-- those of parts of which the first is at an offset; the marker has 4 bytes
abbrev pub blocks_at : (at : ℕ) → List Piece → List FlacProvedBlock
blocks_at at [] = []
blocks_at at (marked ∷ xs) = blocks_at (at + 4) xs
blocks_at at (block last b ∷ xs) = block_at at last b ∷ blocks_at (at + 4 + length_of b) xs
blocks_at at (framed f ∷ xs) = blocks_at at xs

-- the bytes of a stream at a place have the bits of these
abbrev pub HasBytes : (stream : List ℕ) → FlacProvedSpan → List ℕ → Type 0
HasBytes stream place content = bits_of (take place.len (drop place.offset stream)) ≡ bits_of content

-- the texts and the data of a picture are where it says
pub record HasPicture (stream : List ℕ) (p : Picture) (q : FlacProvedPicture) : Type 0 where
  pub media : HasBytes stream q.media p.media
  pub text : HasBytes stream q.text p.text
  pub bytes : HasBytes stream q.bytes p.bytes

abbrev pub ShowsPicture : (stream : List ℕ) → (at : ℕ) → Block → Type 0
ShowsPicture stream at (block_of.Picture p) = HasPicture stream p (picture_at at p)
ShowsPicture stream at other = Unit {0}

-- those of all pictures among parts of which the first is at an offset
abbrev pub HasPictures : (stream : List ℕ) → (at : ℕ) → List Piece → Type 0
HasPictures stream at [] = Unit {0}
HasPictures stream at (marked ∷ xs) = HasPictures stream (at + 4) xs
HasPictures stream at (block last b ∷ xs) = ShowsPicture stream (at + 4) b × HasPictures stream (at + 4 + length_of b) xs
HasPictures stream at (framed f ∷ xs) = HasPictures stream at xs

-- the bytes begin with a marker and all metadata blocks, which are these, and their pictures are where the list says
pub record ListsBlocks (profile : Profile) (stream : List ℕ) (list : List FlacProvedBlock) : Type 0 where
  pub parts : List Piece
  pub n : ℕ
  pub head : IsHead profile stream n parts
  pub are : list ≡ blocks_at 0 parts
  pub pictures : HasPictures stream 0 parts

-- and they are written to the front of a buffer, as far as there is room
abbrev pub WritesBlocks : Profile → List ℕ → (out new : List FlacProvedBlock) → (len : ℕ) → Type 0
WritesBlocks profile bytes out new len = (list : List FlacProvedBlock) × ListsBlocks profile bytes list × IsCopied list out new len
