use Rattle.std.proofs.Common.{◌++◌}
use Rattle.std.specs.Prelude.{codes, decimal, length}
use Rattle.flac_rescue.specs.Report.{line}
use Rattle.flac_rescue.proofs.Adding.{more}
use Rattle.flac_rescue.proofs.lines.put_end.Goals as goal

pub returns : goal.returns
returns c =
    let old = c.args.out.now.items in
    let t0 = line c.args.path.now in
    let e0 = c.in_ok-begin.ensures in
    let t1 = t0 ++ (codes "searched up to byte ") in
    let e1 = more old c.begin.new.out.items c.put.new.out.items t0 (codes "searched up to byte ") e0 c.in_ok-put.ensures in
    let t2 = t1 ++ (decimal c.args.at) in
    let e2 = more old c.put.new.out.items c.put_number.new.out.items t1 (decimal c.args.at) e1 c.in_ok-put_number.ensures in
    more old c.put_number.new.out.items c.put-2.new.out.items t2 (codes " only\n") e2 c.in_ok-put-2.ensures
