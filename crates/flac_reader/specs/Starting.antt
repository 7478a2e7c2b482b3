-- Where the frames of a native stream start: after the marker and the metadata blocks (RFC 9639, section 6).
use Rattle.std.specs.Prelude.{ℕ, ◌+◌, min, List, [], ◌∷◌}
use Rattle.flac_meta.specs.Spelling.{length_of}
use Rattle.flac_meta.specs.declared.block.Block.{Block}

-- how many bytes a block has: the 4 of its header, and its content, of which at most 16777216 are counted (section 8.1)
abbrev pub block_bytes : Block → ℕ
block_bytes b = 4 + min (length_of b) 16777216

-- a number of bytes, with those of a block; it stops at 2^64 - 1
abbrev pub and_block : ℕ → Block → ℕ
and_block n b = min (n + block_bytes b) 18446744073709551615

-- and with those of all these blocks
unfoldable pub and_blocks : ℕ → List Block → ℕ
and_blocks n [] = n
and_blocks n (b ∷ bs) = and_blocks (and_block n b) bs

-- the 4 bytes of the marker, and all blocks
abbrev pub frames_start : List Block → ℕ
frames_start blocks = and_blocks 4 blocks
