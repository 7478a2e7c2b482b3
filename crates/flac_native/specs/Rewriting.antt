-- What comes before the frames of a stream, by its blocks.
use Rattle.std.specs.Prelude.{◌≡◌, Bool, true, List, ◌++◌}
use Rattle.flac_bits.specs.Bits.{unsigned, bits_of}
use Rattle.flac_bits.specs.State.{State}
use Rattle.flac_bits.specs.declared.target.Target as target
use Rattle.flac_meta.specs.declared.block.Block.{Block}
use Rattle.flac_native.specs.Writing.{blocks_spelling}

-- the marker fLaC and these blocks, of which the last is marked (RFC 9639, section 6)
abbrev pub head_of : List Block → List Bool
head_of list = unsigned 32 0x664C6143 ++ blocks_spelling list

-- if the bytes of the reader and of the target are known, the target was sent these, and then what the reader has left
abbrev pub SendsWithBlocks : {T : Type 0} → target.Ghosts T → List Block → State → T → T → Type 0
SendsWithBlocks h list from old new = from.known ≡ true → h.known old ≡ true → bits_of (h.sent new) ≡ bits_of (h.sent old) ++ (head_of list ++ from.cursor.left)
