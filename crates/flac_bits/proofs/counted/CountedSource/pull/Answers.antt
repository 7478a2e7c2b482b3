use Rattle.std.proofs.Common.{arith}
use Rattle.std.proofs.lemmas.List.{length-take}
use Rattle.flac_bits.proofs.CountedBytes.{same_known, consumed}
use Rattle.flac_bits.proofs.counted.CountedSource.pull.Goals as goal

pub returns-in-Ok-clause-known : goal.returns-in-Ok-clause-known
returns-in-Ok-clause-known g c = λ known. same_known _ _ _ c.in-Ok.ensures.bytes.0 known

pub returns-in-Ok-clause-bytes : goal.returns-in-Ok-clause-bytes
returns-in-Ok-clause-bytes g c = λ known. consumed _ _ c.read.new.buf _ c.in-Ok.n c.args.self.now.room c.in-Ok.ensures.bytes.0 c.in-Ok.ensures.bound.0 (omega (arith, c.in-Ok.ensures.bound.0, c.read.auto.buf, length-take c.min-most.result c.args.buf.now, c.min-most.ensures)) known
