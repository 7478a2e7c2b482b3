use Rattle.std.proofs.Common.{◌++◌, ap, ◌∙◌, arith}
use Rattle.std.specs.Int.{bytes_high_first}
use Rattle.flac_bits.proofs.Putting.{number_bytes}
use Rattle.flac_bits.proofs.run.put_bits.Goals as goal

pub returns-clause-some : goal.returns-clause-some
returns-clause-some c =
    let w = c.fill-word.result in
    let tie = ap (λ bs. bs ++ c.fill-word.new.self) (number_bytes 8 w) ∙ c.fill-word.ensures in
    (omega arith, omega (arith, c.requires.end, c.if-bytes-end-lt8.false), (bytes_high_first 8 w, c.put_word.ensures, tie))
