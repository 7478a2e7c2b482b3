use Rattle.std.proofs.Common.{◌++◌, ◌∙◌, Some, None, refl, ap, arith}
use Rattle.flac_cli.specs.Counted.{line_of, printed, frames_in}
use Rattle.flac_cli.proofs.Jobs.{rose, at_most_one, not_both}
use Rattle.flac_cli.proofs.test.run_test.Goals as goal

pub returns-in-Ok-write_counts : goal.returns-in-Ok-write_counts
returns-in-Ok-write_counts g c =
    let counted = c.in-Ok.ensures in
    record {
      status = omega arith;
      stream = λ done tells. let d = counted.counts tells in (d.0, d.1);
      tested = λ done tells known.
          let d = counted.counts tells in
          let line = ap (λ n. line_of n c.in-Ok.counts.samples) d.2.0 ∙ ap (λ n. line_of (printed (frames_in d.0)) n) d.2.1 in
          (d.0, d.1, c.in-Ok-write_counts.ensures.sent known ∙ ap (λ l. g.O.Target.sent c.args.out.now ++ l) line);
      reported = λ tells served told. record { outcome = None; answer = (refl, refl); fits = counted.outcome tells };
    }

pub returns-in-Err-write_counts : goal.returns-in-Err-write_counts
returns-in-Err-write_counts g c =
    let status = c.refuse.ensures.status in
    record {
      status = at_most_one _ status;
      stream = λ done. not_both _ status done;
      tested = λ done. not_both _ status done;
      reported = λ tells served told. rose _ _ (c.in-Err-write_counts.ensures.failed served.0) served.1;
    }

pub returns-in-Err : goal.returns-in-Err
returns-in-Err g c =
    let status = c.refuse-in-Err.ensures.status in
    record {
      status = at_most_one _ status;
      stream = λ done. not_both _ status done;
      tested = λ done. not_both _ status done;
      reported = λ tells served told. record {
        outcome = Some (Some c.in-Err.fault.at, c.in-Err.fault.why);
        answer = c.refuse-in-Err.ensures.line told.0 told.1;
        fits = c.in-Err.ensures.outcome tells;
      };
    }
