use Rattle.std.proofs.Common.{arith}
use Rattle.std.proofs.lemmas.Grind.{common_steps}
use Rattle.flac_bits.proofs.writer.BitWriter.put.Goals as goal

pub returns-then-put : goal.returns-then-put
returns-then-put g c = grind (arith, common_steps)
