use Rattle.std.proofs.Common.{◌++◌}
use Rattle.std.specs.Prelude.{codes, decimal, length}
use Rattle.flac_rescue.specs.Report.{line, spot_text, other_line}
use Rattle.flac_rescue.proofs.Adding.{more}
use Rattle.flac_rescue.proofs.lines.put_other.Goals as goal

pub returns : goal.returns
unfolding other_line
returns c =
    let old = c.args.out.now.items in
    let t0 = line c.args.path.now in
    let e0 = c.in_ok-begin.ensures in
    let t1 = t0 ++ (spot_text c.args.frame.now) in
    let e1 = more old c.begin.new.out.items c.put_spot.new.out.items t0 (spot_text c.args.frame.now) e0 c.in_ok-put_spot.ensures in
    more old c.put_spot.new.out.items c.put.new.out.items t1 (codes "\n") e1 c.in_ok-put.ensures
