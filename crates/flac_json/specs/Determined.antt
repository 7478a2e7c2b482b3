-- What the object of a block says of it: all but the data that it has the length and the MD5 of.
use Rattle.std.specs.Prelude.{◌≡◌, ◌<◌, ◌^◌, ℕ, List, [], length}
use Rattle.md5.specs.Md5.{md5}
use Rattle.flac_meta.specs.Spelling.{kind_of, length_of}
use Rattle.flac_meta.specs.Valid.{FitsFields}
use Rattle.flac_meta.specs.declared.picture.Picture.{Picture}
use Rattle.flac_meta.specs.declared.block.Block.{Block}
use Rattle.flac_meta.specs.declared.block.Block.TheVariants as block_of
use Rattle.flac_json.specs.Blocks.{block_json}

-- the data of a block that is not in its object: that of an application, of a picture, and of a block of another type
abbrev pub data_of : Block → List ℕ
data_of (block_of.StreamInfo info) = []
data_of (block_of.Padding n) = []
data_of (block_of.Application id bytes) = bytes
data_of (block_of.SeekTable points) = []
data_of (block_of.VorbisComment comments) = []
data_of (block_of.CueSheet sheet) = []
data_of (block_of.Picture picture) = picture.bytes
data_of (block_of.Other kind bytes) = bytes

-- the block without it
abbrev pub without_bytes : Picture → Picture
without_bytes p = record { kind = p.kind; media = p.media; text = p.text; width = p.width; height = p.height; depth = p.depth; colours = p.colours; bytes = [] }

abbrev pub without_data : Block → Block
without_data (block_of.StreamInfo info) = block_of.StreamInfo info
without_data (block_of.Padding n) = block_of.Padding n
without_data (block_of.Application id bytes) = block_of.Application id []
without_data (block_of.SeekTable points) = block_of.SeekTable points
without_data (block_of.VorbisComment comments) = block_of.VorbisComment comments
without_data (block_of.CueSheet sheet) = block_of.CueSheet sheet
without_data (block_of.Picture picture) = block_of.Picture (without_bytes picture)
without_data (block_of.Other kind bytes) = block_of.Other kind []

-- blocks that are the same but for that data, of which the lengths and the MD5s are the same
pub record AreAlike (a b : Block) : Type 0 where
  pub rest : without_data a ≡ without_data b
  pub size : length (data_of a) ≡ length (data_of b)
  pub digest : md5 (data_of a) ≡ md5 (data_of b)

-- An object of a block is that of one number, and of blocks that are alike, each as it is read: each field has its size
-- (RFC 9639, sections 8.1 to 8.8).
abbrev pub BlocksAreDetermined : Type 0
BlocksAreDetermined =
    (i j : ℕ) (a b : Block) → kind_of a < 2 ^ 8 → kind_of b < 2 ^ 8 → length_of a < 2 ^ 24 → length_of b < 2 ^ 24 → FitsFields a → FitsFields b
    → block_json i a ≡ block_json j b → (i ≡ j) × AreAlike a b
