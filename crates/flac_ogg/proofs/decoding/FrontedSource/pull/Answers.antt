use Rattle.std.proofs.Common.{rules, ◌<◌, length, arith, refl}
use Rattle.flac_ogg.proofs.FirstByte.{front_put}
use Rattle.flac_ogg.proofs.decoding.FrontedSource.pull.Goals as goal

pub returns-clause-bytes : goal.returns-clause-bytes
returns-clause-bytes g c = λ known.
    let some : 0 < length c.args.buf.now = search (rules, arith, c.is_empty.ensures, c.if-is_empty.ensures) in
    rw (front_put c.args.buf.now c.in-Some.byte some) (rw c.in-Some.is refl)
