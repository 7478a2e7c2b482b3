use Rattle.std.proofs.Common.{arith, ◌++◌}
use Rattle.std.specs.Prelude.{flat_map}
use Rattle.flac_rescue.specs.Report.{gap_line}
use Rattle.flac_rescue.proofs.Lists.{text_more, text_ends}
use Rattle.flac_rescue.proofs.lines.put_gaps.Goals as goal

pub loop-gap-preserved : goal.loop-gap-preserved
loop-gap-preserved c = text_more (gap_line c.args.path.now c.args.rate) c.args.gaps.now c.loop-gap.gap-index (record { start = 0; end = 0; first = 0; next = 0 }) c.loop-gap.out.items c.put_gap.new.out.items (c.args.out.now.items ++ flat_map (gap_line c.args.path.now c.args.rate) c.args.gaps.now) (omega arith) c.loop-gap.invariant c.in_ok-put_gap.ensures

pub returns : goal.returns
returns c = text_ends (gap_line c.args.path.now c.args.rate) c.args.gaps.now c.loop-gap.gap-index c.loop-gap.out.items (c.args.out.now.items ++ flat_map (gap_line c.args.path.now c.args.rate) c.args.gaps.now) (omega arith) c.loop-gap.invariant
