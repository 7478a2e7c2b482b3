use Rattle.std.proofs.Common.{arith}
use Rattle.flac_bits.proofs.Signs.{residual_kept}
use Rattle.flac_bits.proofs.word.Ahead.value.Goals as goal

pub returns-then-bits-self-clause-some : goal.returns-then-bits-self-clause-some
returns-then-bits-self-clause-some c =
    rw (residual_kept c.code_of-bits.result.1 (c.code_of-bits.ensures.fits (omega (arith, c.if-bits-self.true, c.requires.few))))
    (c.code_of-bits.ensures.read c.args.self.now.count c.requires.few c.if-bits-self.true)
