use Rattle.std.proofs.Common.{◌++◌}
use Rattle.std.specs.Prelude.{codes, decimal, length}
use Rattle.flac_rescue.specs.Report.{line, place_text, bytes_line}
use Rattle.flac_rescue.proofs.Adding.{more}
use Rattle.flac_rescue.proofs.lines.put_bytes.Goals as goal

pub returns : goal.returns
unfolding bytes_line
returns c =
    let old = c.args.out.now.items in
    let t0 = line c.args.path.now in
    let e0 = c.in_ok-begin.ensures in
    let t1 = t0 ++ (place_text c.args.gap.now.start c.args.gap.now.end) in
    let e1 = more old c.begin.new.out.items c.put_place.new.out.items t0 (place_text c.args.gap.now.start c.args.gap.now.end) e0 c.in_ok-put_place.ensures in
    more old c.put_place.new.out.items c.put.new.out.items t1 (codes ": no frame, no sample is missing\n") e1 c.in_ok-put.ensures
