use Rattle.std.proofs.Common.{arith, ◌++◌}
use Rattle.std.specs.Prelude.{flat_map}
use Rattle.flac_rescue.specs.Report.{other_line}
use Rattle.flac_rescue.proofs.Lists.{text_more, text_ends, zero_frame}
use Rattle.flac_rescue.proofs.lines.put_others.Goals as goal

pub loop-frame-preserved : goal.loop-frame-preserved
loop-frame-preserved c = text_more (other_line c.args.path.now) c.args.others.now c.loop-frame.frame-index zero_frame c.loop-frame.out.items c.put_other.new.out.items (c.args.out.now.items ++ flat_map (other_line c.args.path.now) c.args.others.now) (omega arith) c.loop-frame.invariant c.in_ok-put_other.ensures

pub returns : goal.returns
returns c = text_ends (other_line c.args.path.now) c.args.others.now c.loop-frame.frame-index c.loop-frame.out.items (c.args.out.now.items ++ flat_map (other_line c.args.path.now) c.args.others.now) (omega arith) c.loop-frame.invariant
