use Rattle.std.proofs.Common.{◌≡◌, ◌∙◌, ◌+◌, ◌-◌, ap, arith, ℕ}
use Rattle.flac_subframe.specs.declared.format.coding.Coding.TheVariants.{Escape}
use Rattle.flac_subframe.proofs.lemmas.format.Bytes.{rice_byte, escape_byte}
use Rattle.flac_subframe.proofs.format.coding.Coding.byte.Goals as goal

pub returns-in-Rice : goal.returns-in-Rice
returns-in-Rice c = let small = rw c.in-Rice.is at c.requires in rw c.in-Rice.is (rice_byte c.in-Rice.parameter small)

pub returns-in-Escape : goal.returns-in-Escape
returns-in-Escape c =
    let n : ℕ = c.in-Escape.width in
    let back : 32 + n - 32 ≡ n = omega arith in
    rw c.in-Escape.is (escape_byte (32 + n) (omega arith) ∙ ap Escape back)
