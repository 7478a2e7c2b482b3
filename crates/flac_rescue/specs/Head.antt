-- The metadata blocks with which a stream begins (RFC 9639, sections 6 and 8).
use Rattle.std.specs.Prelude.{◌≡◌, ℕ, ◌+◌, ◌-◌, ◌^◌, min, Bool, List, [], ◌∷◌, ◌⊎◌}
use Rattle.flac_bits.specs.Bits.{bits_of}
use Rattle.flac_bits.specs.declared.why.Why.TheVariants.{Truncated, Memory}
use Rattle.flac_info.specs.Info.{Info}
use Rattle.flac_meta.specs.Spelling.{length_of}
use Rattle.flac_meta.specs.declared.block.Block.{Block}
use Rattle.flac_meta.specs.declared.block.Block.TheVariants.{StreamInfo}
use Rattle.flac_native.specs.Decoding.{beginning}
use Rattle.flac_native.specs.Retag.{BeginsWith, IsRefused}
use Rattle.flac_native.specs.declared.fault.Fault.{Fault}

-- so many bytes, and those of a block: its header has 4 (section 8.1); at most 2^64 - 1
abbrev pub and_block : ℕ → Block → ℕ
and_block n b = min (n + (4 + min (length_of b) 16777216)) (2 ^ 64 - 1)

-- and with those of all these blocks
unfoldable pub and_blocks : ℕ → List Block → ℕ
and_blocks n [] = n
and_blocks n (b ∷ bs) = and_blocks (and_block n b) bs

-- those of the marker, and of all blocks
abbrev pub head_bytes : List Block → ℕ
head_bytes blocks = and_blocks 4 blocks

-- The bytes begin with the marker and these blocks, STREAMINFO the first, which have so many bytes.
pub record IsHead (bytes : List ℕ) (blocks : List Block) (front : ℕ) : Type 0 where
  pub info : Info
  pub list : List Block
  pub rest : List Bool
  pub begins : BeginsWith (beginning Truncated) (bits_of bytes) info list rest
  pub are : blocks ≡ StreamInfo info ∷ list
  pub long : front ≡ head_bytes blocks

-- memory ran out, or the marker or a block is refused at the place of this fault for its reason, as decoding refuses it
abbrev pub IsHeadRefusal : (bytes : List ℕ) → Fault → Type 0
IsHeadRefusal bytes fault = (fault.why ≡ Memory) ⊎ IsRefused (beginning Truncated) (bits_of bytes) fault.at fault.why
