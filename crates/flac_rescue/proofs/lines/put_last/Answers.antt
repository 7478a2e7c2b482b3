use Rattle.std.proofs.Common.{ap, ◌++◌, ◌∙◌}
use Rattle.std.specs.Prelude.{codes, decimal, length}
use Rattle.flac_rescue.specs.Report.{line, and_samples, of_total, last_line}
use Rattle.flac_rescue.proofs.Adding.{more}
use Rattle.flac_rescue.proofs.lines.put_last.Goals as goal

pub returns : goal.returns
unfolding last_line
returns c =
    let old = c.args.out.now.items in
    let t0 = line c.args.path.now in
    let e0 = c.in_ok-begin.ensures in
    let t1 = t0 ++ (codes "found ") in
    let e1 = more old c.begin.new.out.items c.put.new.out.items t0 (codes "found ") e0 c.in_ok-put.ensures in
    let t2 = t1 ++ (decimal (and_samples 0 c.args.kept.now)) in
    let e2 = more old c.put.new.out.items c.put_number.new.out.items t1 (decimal (and_samples 0 c.args.kept.now)) e1 (c.in_ok-put_number.ensures ∙ ap (λ n. c.put.new.out.items ++ decimal n) c.samples_of-samples.ensures) in
    let t3 = t2 ++ (of_total c.args.total) in
    let e3 = more old c.put_number.new.out.items c.put_total.new.out.items t2 (of_total c.args.total) e2 c.in_ok-put_total.ensures in
    let t4 = t3 ++ (codes " samples in ") in
    let e4 = more old c.put_total.new.out.items c.put-2.new.out.items t3 (codes " samples in ") e3 c.in_ok-put-2.ensures in
    let t5 = t4 ++ (decimal (length c.args.kept.now)) in
    let e5 = more old c.put-2.new.out.items c.put_number-2.new.out.items t4 (decimal (length c.args.kept.now)) e4 c.in_ok-put_number-2.ensures in
    more old c.put_number-2.new.out.items c.put-3.new.out.items t5 (codes " frames\n") e5 c.in_ok-put-3.ensures
