use Rattle.std.proofs.Common.{◌++◌, arith}
use Rattle.flac_bits.specs.Bits.{unsigned}
use Rattle.flac_bits.proofs.Runs.{run_more, extends_then}
use Rattle.flac_bits.proofs.run.put_codes.Goals as goal

pub loop-i-preserved : goal.loop-i-preserved
loop-i-preserved c =
    let inv = c.loop-i.invariant in
    let code = c.in-Some in
    let some = c.in-Some-put_bits.ensures.some in
    let text = unsigned code.n code.codes in
    record {
      begun = omega (arith, inv.begun, some.0);
      room = omega (arith, some.1, c.loop-i.auto.bytes, c.put_bits.auto.bytes);
      from = omega (arith, inv.from, code.ensures.2);
      within = code.ensures.3;
      put = (inv.put.0 ++ text, run_more c.args.k c.args.values.now c.args.from c.loop-i.i code.next inv.put.0 text inv.put.1 code.ensures.4, extends_then inv.put.0 text _ _ _ _ _ _ inv.put.2 some.2);
    }
