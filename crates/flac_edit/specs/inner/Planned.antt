-- Which bytes are written where.
use Rattle.std.specs.Prelude.{◌≡◌, ℕ, ◌+◌, ◌-◌, ◌≤◌, Bool, false, List, ◌++◌, length}
use Rattle.flac_bits.specs.Bits.{bits_of}
use Rattle.flac_meta.specs.Spelling.{block_spelling, header_spelling, comments_length}
use Rattle.flac_meta.specs.declared.comments.Comments.{Comments}
use Rattle.flac_meta.specs.declared.block.Block.TheVariants as block_of
use Rattle.flac_edit.specs.declared.flipping.Change.{Change}

-- the comment block, which is not the last block
abbrev pub comments_block_spelling : Comments → List Bool
comments_block_spelling new = block_spelling false (block_of.VorbisComment new)

-- New comments take the place of padding of `padding` bytes at an offset; what is left of it, and `following` bytes of
-- blocks after it, become one padding.
pub record IsBefore (at padding following : ℕ) (last : Bool) (new : Comments) (plan : Change) : Type 0 where
  pub spelled : bits_of (plan.header.items ++ plan.bytes.items) ≡ comments_block_spelling new ++ header_spelling last 1 (padding + following - (comments_length new + 4))
  pub header : length plan.header.items ≡ 4
  pub header_at : plan.header_at ≡ at
  pub bytes_at : plan.at ≡ at + 4
  pub zeros_at : plan.zeros_at ≡ at + 4 + length plan.bytes.items
  pub fits : length plan.bytes.items ≤ padding
  pub long : length plan.bytes.items ≡ comments_length new + 4
  pub zeros : length plan.zeros.items ≡ padding + following - (comments_length new + 4)
  pub small : padding + following ≤ comments_length new + 4 + 16777215
  pub short : comments_length new ≤ 16777215

-- New comments are inside padding of `padding` bytes, after `preceding` bytes of blocks, which become one padding.
pub record IsAfter (at preceding padding : ℕ) (last : Bool) (new : Comments) (plan : Change) : Type 0 where
  pub spelled : bits_of plan.bytes.items ≡ comments_block_spelling new ++ header_spelling last 1 (padding - (comments_length new + 8))
  pub header_is : bits_of plan.header.items ≡ header_spelling false 1 preceding
  pub header : length plan.header.items ≡ 4
  pub header_at : plan.header_at ≡ at
  pub bytes_at : plan.at ≡ at + preceding + 4
  pub zeros_at : plan.zeros_at ≡ at + 4
  pub zeros : length plan.zeros.items ≡ preceding
  pub long : length plan.bytes.items ≡ comments_length new + 8
  pub fits : comments_length new + 8 ≤ padding
  pub some : 4 ≤ preceding
  pub small : preceding ≤ 16777215
  pub short : comments_length new ≤ 16777215
