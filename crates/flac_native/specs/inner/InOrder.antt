-- For proofs of encoding: blocks that are written one after another.
use Rattle.std.specs.Prelude.{◌≡◌, ◌<◌, ℕ, true, Bool, List, ◌++◌, length, get_or, None}
use Rattle.flac_bits.specs.State.{past}
use Rattle.flac_bits.specs.Written.{Written, Fails}
use Rattle.flac_bits.specs.declared.why.Why.{Why}
use Rattle.flac_meta.specs.Listed.{block_fault}
use Rattle.flac_meta.specs.declared.block.Block.{Block}
use Rattle.flac_native.specs.Writing.{blocks_spelling}

-- each of these blocks may be written
abbrev pub MayBeWritten : List Block → Type 0
MayBeWritten list = (i : ℕ) (b : Block) → i < length list → b ≡ get_or list i b → block_fault b ≡ None

-- what was written, and the bits that are still to be written, are the bits written before and the whole
pub record Advances (rest whole : List Bool) (old now : Written) : Type 0 where
  pub known : old.known ≡ true → now.known ≡ true
  pub errors : now.errors ≡ old.errors
  pub names : now.names ≡ old.names
  pub mark : past rest now.mark ≡ past whole old.mark
  pub bits : old.known ≡ true → now.bits ++ rest ≡ old.bits ++ whole

-- these blocks were written, of `count` in all, whatever the others are
abbrev pub WritesSome : (count : ℕ) → List Block → Written → Written → Type 0
WritesSome count list old new = (more : List Block) → count ≡ length (list ++ more) → Advances (blocks_spelling more) (blocks_spelling (list ++ more)) old new

-- writing them failed, though each may be written
abbrev pub FailsInSome : (count : ℕ) → List Block → Written → Written → Why → Type 0
FailsInSome count list old new why = (more : List Block) → count ≡ length (list ++ more) → MayBeWritten list → Fails (old.bits ++ blocks_spelling (list ++ more)) old new why
