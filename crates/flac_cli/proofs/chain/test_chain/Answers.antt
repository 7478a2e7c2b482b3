use Rattle.std.proofs.Common.{◌≡◌, ◌++◌, ◌∙◌, Some, None, inr, refl, sym, ap, subst, arith}
use Rattle.flac_header.specs.declared.subset.Profile.{Profile}
use Rattle.flac_cli.specs.Counted.{line_of, printed, frames_in}
use Rattle.flac_cli.specs.Streams.{profile_of}
use Rattle.flac_cli.specs.inner.Chains.{CountsChain, RefusesCounts}
use Rattle.flac_chain.specs.Chained.{all_parts}
use Rattle.flac_chain.proofs.Links.{if_ok, if_err}
use Rattle.flac_cli.proofs.ChainsRead.{fits}
use Rattle.flac_cli.proofs.Jobs.{rose, at_most_one, not_both}
use Rattle.flac_cli.proofs.chain.test_chain.Goals as goal

pub returns-in-Ok-write_counts : goal.returns-in-Ok-write_counts
returns-in-Ok-write_counts g c =
    let read = c.count_chain-source.result in
    let counts = subst (λ (p : Profile). CountsChain g.R.Source p c.args.source read) c.profile_of.ensures c.count_chain-source.ensures.counts in
    record {
      status = omega arith;
      tested = λ done tells known.
          let d = if_ok _ read.outcome c.in-Ok.counts c.in-Ok.is (counts tells) in
          let line = ap (λ n. line_of n c.in-Ok.counts.samples) d.2.0 ∙ ap (λ n. line_of (printed (frames_in (all_parts d.0))) n) d.2.1 in
          (d.0, d.1, (tt, c.in-Ok-write_counts.ensures.sent known ∙ ap (λ l. g.O.Target.sent c.args.out.now ++ l) line));
      reported = λ tells served told.
          let d = if_ok _ read.outcome c.in-Ok.counts c.in-Ok.is (counts tells) in
          (None, (refl, refl), inr (d.0, d.1));
    }

pub returns-in-Err-write_counts : goal.returns-in-Err-write_counts
returns-in-Err-write_counts g c =
    let status = c.refuse-status.ensures.status in
    record {
      status = at_most_one _ status;
      tested = λ done. not_both _ status done;
      reported = λ tells served told. rose _ _ (c.in-Err-write_counts.ensures.failed served.0) served.1;
    }

pub returns-in-Err : goal.returns-in-Err
returns-in-Err g c =
    let read = c.count_chain-source.result in
    let refused = subst (λ (p : Profile). RefusesCounts g.R.Source p c.args.source read) c.profile_of.ensures c.count_chain-source.ensures.refused in
    let status = c.refuse_stream-status.ensures.status in
    record {
      status = at_most_one _ status;
      tested = λ done. not_both _ status done;
      reported = λ tells served told. (
        Some c.in-Err.fault,
        c.refuse_stream-status.ensures.line told.0 told.1,
        fits (profile_of c.args.lax) (g.R.Source.coming c.args.source) c.in-Err.fault (if_err _ read.outcome c.in-Err.fault c.in-Err.is (refused tells)),
      );
    }
