-- The metadata blocks that a copy is to have (RFC 9639, section 8).
use Rattle.std.specs.Prelude.{◌≡◌, ℕ, List, ◌∷◌, None}
use Rattle.flac_bits.specs.Bits.{bits_of}
use Rattle.flac_info.specs.Info.{Info}
use Rattle.flac_meta.specs.Listed.{list_fault, info_seen}
use Rattle.flac_meta.specs.Valid.{AllAre, FitsFields, IsInfo}
use Rattle.flac_meta.specs.declared.block.Block.{Block}
use Rattle.flac_meta.specs.declared.block.Block.TheVariants as blocks
use Rattle.flac_native.specs.Writing.{head_spelling}

-- these bytes are the marker and the given blocks, of which the first is this STREAMINFO, and the others may follow it
pub record IsHeadOf (info : Info) (given : List Block) (head : List ℕ) : Type 0 where
  pub others : List Block
  pub first : given ≡ blocks.StreamInfo info ∷ others
  pub bits : bits_of head ≡ head_spelling info others
  pub may : list_fault info_seen others ≡ None
  pub fits : AllAre FitsFields others
  pub is_info : IsInfo info
