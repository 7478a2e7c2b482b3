use Rattle.std.proofs.Common.{arith}
use Rattle.flac_json.proofs.Zeros.{trims_more, trims_none, trims_other}
use Rattle.flac_json.proofs.blocks.without_zeros.Goals as goal

pub loop-end-preserved : goal.loop-end-preserved
loop-end-preserved c = record {
  within = omega (arith, c.loop-end.invariant.within);
  trims = trims_more c.args.bytes.now c.loop-end.end c.loop-end-test.true c.loop-end.invariant.within c.if-bytes-end-eq0.true c.loop-end.invariant.trims;
}

pub returns-else-bytes-end-eq0 : goal.returns-else-bytes-end-eq0
returns-else-bytes-end-eq0 c = trims_other c.args.bytes.now c.loop-end.end c.loop-end-test.true c.loop-end.invariant.within c.if-bytes-end-eq0.false c.loop-end.invariant.trims

pub returns : goal.returns
returns c = trims_none c.args.bytes.now c.loop-end.end c.loop-end-test.false c.loop-end.invariant.trims
