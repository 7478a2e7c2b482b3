use Rattle.std.proofs.Common.{◌∙◌, refl}
use Rattle.std.proofs.lemmas.Result.{err_from_is_err_and}
use Rattle.flac_bits.specs.Bits.{bits_of}
use Rattle.flac_cli.specs.Asked.{asked_of}
use Rattle.flac_cli.proofs.Failed.{not_list}
use Rattle.flac_cli.proofs.WaveRefused.{refused_line, listed_reason, same_refused}
use Rattle.flac_cli.proofs.WaveTwices.{both_stop, both_accepted, both_wrote, some_wave}
use Rattle.flac_cli.proofs.encode_wave_twice.encode_passes.Goals as goal

pub returns-in_err-predictors : goal.returns-in_err-predictors
returns-in_err-predictors g c =
    let p = err_from_is_err_and c.from_residual.result c.from_residual.ensures.1 in
    rw (p.1, p.2) (record {
      written = tt;
      accepted = tt;
      refused = λ known same told still. refused_line (asked_of c.args.encoding.now) (g.A.Source.coming c.args.first.now) _ c.in_err-predictors.ensures.refused;
      failed = λ is. not_list _ _ (same_refused _ _ (some_wave _ _ is));
      known = tt;
      counted = tt;
      names = tt;
    })

pub returns-in_err-plan : goal.returns-in_err-plan
returns-in_err-plan g c =
    let p = err_from_is_err_and c.from_residual-in_err-plan.result c.from_residual-in_err-plan.ensures.1 in
    let asked = asked_of c.args.encoding.now in
    let bytes = g.A.Source.coming c.args.first.now in
    rw (p.1, p.2) (record {
      written = tt;
      accepted = tt;
      refused = λ known same told still. listed_reason asked c.in_ok-predictors.predictors.items bytes bytes _ c.in_ok-predictors.ensures.list refl (c.in_err-plan.ensures.refused known same);
      failed = λ is. absurd (c.in_err-plan.ensures.unwritten (some_wave _ _ is));
      known = tt;
      counted = tt;
      names = tt;
    })

pub returns-in_err-out : goal.returns-in_err-out
returns-in_err-out g c =
    let p = err_from_is_err_and c.from_residual-in_err-out.result c.from_residual-in_err-out.ensures.1 in
    let asked = asked_of c.args.encoding.now in
    let bytes = g.A.Source.coming c.args.first.now in
    let others = g.R.Source.coming c.args.second.now in
    rw (p.1, p.2) (record {
      written = tt;
      accepted = tt;
      refused = λ known same told still. both_stop asked c.in_ok-predictors.predictors.items bytes c.in_ok-plan.plan (c.in_ok-plan.ensures.planned known) c.in_ok-predictors.ensures.list _ others (c.in_err-out.ensures.refused told still);
      failed = c.in_err-out.ensures.failed;
      known = tt;
      counted = tt;
      names = tt;
    })

pub returns : goal.returns
returns g c =
    let asked = asked_of c.args.encoding.now in
    let ps = c.in_ok-predictors.predictors.items in
    let bytes = g.A.Source.coming c.args.first.now in
    let before = bits_of (g.W.Target.sent c.args.target) in
    let after = bits_of (g.W.Target.sent c.in_ok-out.out) in
    let plan = c.in_ok-plan.ensures in
    let e = c.in_ok-out.ensures in
    record {
      written = λ known told sent same.
          let is = plan.planned known in
          both_wrote asked ps bytes c.in_ok-plan.plan is c.in_ok-predictors.ensures.list before after (e.written told sent is.rest (same ∙ is.joined));
      accepted = λ known. both_accepted asked ps bytes c.in_ok-plan.plan (plan.planned known) c.in_ok-predictors.ensures.list e.fits;
      refused = tt;
      failed = tt;
      known = e.known;
      counted = e.counted;
      names = e.names;
    }
