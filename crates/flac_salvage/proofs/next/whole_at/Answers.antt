use Rattle.std.proofs.Common.{Some, ap, arith}
use Rattle.flac_native.proofs.FramesRead.{none_past}
use Rattle.flac_salvage.proofs.next.whole_at.Goals as goal

pub returns-in-Ok-clause-only : goal.returns-in-Ok-clause-only
returns-in-Ok-clause-only c = λ f n there.
    let same = c.in-Ok.ensures.only f n there in
    (same.0, ap Some same.1)

pub returns-in-Err-clause-only : goal.returns-in-Err-clause-only
returns-in-Err-clause-only c = λ f n there. absurd (c.in-Err.ensures.only f n there)

pub returns-then-at-bytes-clause-only : goal.returns-then-at-bytes-clause-only
returns-then-at-bytes-clause-only c = λ f n there.
    absurd (none_past c.args.profile c.args.info.now c.args.bytes.now c.args.at (omega (arith, c.if-at-bytes.true)) f n there)
