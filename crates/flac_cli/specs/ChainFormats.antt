-- Whether streams one after another have one format (RFC 9639, section 8.2).
use Rattle.std.specs.Prelude.{◌≡◌, List, [], ◌∷◌, Option, Some, None}
use Rattle.flac_info.specs.Info.{Info}
use Rattle.flac_meta.specs.declared.block.Block.{Block}
use Rattle.flac_meta.specs.declared.block.Block.TheVariants as blocks
use Rattle.flac_native.specs.Stream.{Piece, marked, block, framed}
use Rattle.flac_cli.specs.declared.stream_format.StreamFormat.{StreamFormat}

-- the format that STREAMINFO states: sample rate, channels, bits per sample
abbrev pub stated_by : Info → StreamFormat
stated_by info = record { rate = info.rate; channels = info.channels; depth = info.depth }

-- it is that of the streams before, if there are any
abbrev pub FitsFormat : Option StreamFormat → StreamFormat → Type 0
FitsFormat None format = Unit {0}
FitsFormat (Some first) format = first ≡ format

-- a block leaves the format of the streams so far, or is STREAMINFO and fits it
abbrev pub TakesFormat : (old : Option StreamFormat) → Block → (new : Option StreamFormat) → Type 0
TakesFormat old (blocks.StreamInfo info) new = FitsFormat old (stated_by info) × (new ≡ Some (stated_by info))
TakesFormat old other new = new ≡ old

-- each STREAMINFO of these parts states the same format, that of the streams before if there are any
abbrev pub AreOfFormat : Option StreamFormat → List Piece → Type 0
AreOfFormat format [] = Unit {0}
AreOfFormat format (marked ∷ xs) = AreOfFormat format xs
AreOfFormat format (block last b ∷ xs) = (now : Option StreamFormat) × TakesFormat format b now × AreOfFormat now xs
AreOfFormat format (framed f ∷ xs) = AreOfFormat format xs

abbrev pub AreOfOneFormat : List Piece → Type 0
AreOfOneFormat xs = AreOfFormat None xs
