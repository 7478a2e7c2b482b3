use Rattle.std.proofs.Common.{Ok, Err, refl, arith}
use Rattle.flac_cli.proofs.Jobs.{at_most_one, not_both, rose}
use Rattle.flac_cli.proofs.Opened.{decoded, part_reported, ok_written, err_written}
use Rattle.flac_cli.proofs.excerpt.decode_excerpt.Goals as goal

pub returns-in-Ok : goal.returns-in-Ok
returns-in-Ok g c =
    let e = c.args.excerpt.now in
    let bytes = g.R.Source.coming c.args.source.now in
    let follows = g.R.Source.after c.args.source.now in
    record {
      status = omega arith;
      decoded = λ done tells known. decoded e bytes follows _ _ (c.in-Ok.ensures.says tells known);
      reported = λ tells serves told. part_reported e bytes follows _ _ (Ok tt) 0 _ _ (c.in-Ok.ensures.says tells serves.0) ok_written (refl, refl);
      named = λ failed. not_both _ failed refl;
    }

pub returns-in-Err : goal.returns-in-Err
returns-in-Err g c =
    let e = c.args.excerpt.now in
    let bytes = g.R.Source.coming c.args.source.now in
    let follows = g.R.Source.after c.args.source.now in
    let r = c.refuse_excerpt.ensures in
    record {
      status = at_most_one _ r.status;
      decoded = λ done. not_both _ r.status done;
      reported = λ tells serves told. part_reported e bytes follows _ _ (Err c.in-Err.fault) _ _ _ (c.in-Err.ensures.says tells serves.0) (err_written c.in-Err.fault (λ is. rose _ _ (c.in-Err.ensures.failed is serves.0) serves.1)) (r.status, r.line told.0 told.1);
      named = λ failed known same. (c.in-Err.fault, r.line known same);
    }
