use Rattle.std.proofs.Common.{◌++◌}
use Rattle.std.specs.Prelude.{codes, decimal, length}
use Rattle.flac_rescue.specs.Report.{spot_text}
use Rattle.flac_rescue.proofs.Adding.{more}
use Rattle.flac_rescue.proofs.lines.put_spot.Goals as goal

pub returns : goal.returns
unfolding spot_text
returns c =
    let old = c.args.out.now.items in
    let t0 = codes "frame at byte " in
    let e0 = c.in_ok-put.ensures in
    let t1 = t0 ++ (decimal c.args.frame.now.at) in
    let e1 = more old c.put.new.out.items c.put_number.new.out.items t0 (decimal c.args.frame.now.at) e0 c.in_ok-put_number.ensures in
    let t2 = t1 ++ (codes ": out of order, ") in
    let e2 = more old c.put_number.new.out.items c.put-2.new.out.items t1 (codes ": out of order, ") e1 c.in_ok-put-2.ensures in
    let t3 = t2 ++ (decimal c.args.frame.now.size) in
    let e3 = more old c.put-2.new.out.items c.put_number-2.new.out.items t2 (decimal c.args.frame.now.size) e2 c.in_ok-put_number-2.ensures in
    let t4 = t3 ++ (codes " samples from ") in
    let e4 = more old c.put_number-2.new.out.items c.put-3.new.out.items t3 (codes " samples from ") e3 c.in_ok-put-3.ensures in
    more old c.put-3.new.out.items c.put_number-3.new.out.items t4 (decimal c.args.frame.now.first) e4 c.in_ok-put_number-3.ensures
