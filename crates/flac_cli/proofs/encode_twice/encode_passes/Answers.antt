use Rattle.std.proofs.Common.{◌≡◌, ◌∙◌, None, refl, sym, ap, subst, inr}
use Rattle.std.proofs.lemmas.Result.{err_from_is_err_and}
use Rattle.flac_bits.specs.Bits.{bits_of}
use Rattle.flac_raw.specs.Planned.{planned}
use Rattle.flac_cli.specs.Asked.{asked_of}
use Rattle.flac_raw.specs.Encoded.{container_fault}
use Rattle.flac_raw.specs.Raw.{raw_sound}
use Rattle.flac_cli.specs.Encoded.{comment_list, cut_as}
use Rattle.flac_cli.proofs.Failed.{not_list, not_setup, not_input}
use Rattle.flac_cli.proofs.Refused.{refused_list, reasoned, unreasoned, refused_raw, refused_words}
use Rattle.flac_cli.proofs.Twice.{same_some, fails_as, plan_refused, plan_good, same_stream, all_accepted, stops_by, second_wrote}
use Rattle.flac_cli.proofs.encode_twice.encode_passes.Goals as goal

pub returns-in_err-predictors : goal.returns-in_err-predictors
returns-in_err-predictors g c =
    let p = err_from_is_err_and c.from_residual.result c.from_residual.ensures.1 in
    rw (p.1, p.2) (record {
      written = tt;
      accepted = tt;
      refused = λ known same told still. refused_list (asked_of c.args.encoding.now) (g.A.Source.coming c.args.first.now) _ c.in_err-predictors.ensures.refused;
      failed = λ is. not_list _ _ (same_some _ _ is);
      known = tt;
      counted = tt;
      names = tt;
    })

pub returns-in_err-total : goal.returns-in_err-total
returns-in_err-total g c =
    let p = err_from_is_err_and c.from_residual-in_err-total.result c.from_residual-in_err-total.ensures.1 in
    let asked = asked_of c.args.encoding.now in
    let ps = c.in_ok-predictors.predictors.items in
    let bytes = g.A.Source.coming c.args.first.now in
    rw (p.1, p.2) (record {
      written = tt;
      accepted = tt;
      refused = λ known same told still. reasoned asked ps bytes _ c.in_ok-predictors.ensures.list (refused_raw asked ps bytes _ (c.in_err-total.ensures.refused known same));
      failed = λ is. absurd (c.in_err-total.ensures.unwritten (same_some _ _ is));
      known = tt;
      counted = tt;
      names = tt;
    })

pub returns-in_err-plan : goal.returns-in_err-plan
returns-in_err-plan g c =
    let p = err_from_is_err_and c.from_residual-in_err-plan.result c.from_residual-in_err-plan.ensures.1 in
    let asked = asked_of c.args.encoding.now in
    let ps = c.in_ok-predictors.predictors.items in
    let bytes = g.A.Source.coming c.args.first.now in
    let ok = c.in_ok-total.ensures in
    rw (p.1, p.2) (record {
      written = tt;
      accepted = tt;
      refused = λ known same told still. reasoned asked ps bytes _ c.in_ok-predictors.ensures.list (inr (plan_refused asked ps bytes c.in_ok-total.total (ok.samples known) (ok.accepted known) _ c.in_err-plan.ensures.made));
      failed = λ is. not_setup _ _ (same_some _ _ is);
      known = tt;
      counted = tt;
      names = tt;
    })

pub returns-in_err-list : goal.returns-in_err-list
returns-in_err-list g c =
    let p = err_from_is_err_and c.from_residual-in_err-list.result c.from_residual-in_err-list.ensures.1 in
    let asked = asked_of c.args.encoding.now in
    let ps = c.in_ok-predictors.predictors.items in
    let bytes = g.A.Source.coming c.args.first.now in
    let ok = c.in_ok-total.ensures in
    let a = raw_sound asked.profile asked.format bytes in
    rw (p.1, p.2) (record {
      written = tt;
      accepted = tt;
      refused = λ known same told still. reasoned asked ps bytes _ c.in_ok-predictors.ensures.list (refused_words asked ps bytes a (ok.accepted known) refl (cut_as asked a ps) refl
          (plan_good asked ps bytes c.in_ok-total.total (ok.samples known) c.in_ok-plan.ensures.good) _ c.in_err-list.ensures.refused);
      failed = λ is. not_input _ _ (same_some _ _ is);
      known = tt;
      counted = tt;
      names = tt;
    })

pub returns-in_err-out : goal.returns-in_err-out
returns-in_err-out g c =
    let p = err_from_is_err_and c.from_residual-in_err-out.result c.from_residual-in_err-out.ensures.1 in
    let asked = asked_of c.args.encoding.now in
    let ps = c.in_ok-predictors.predictors.items in
    let bytes = g.A.Source.coming c.args.first.now in
    let others = g.R.Source.coming c.args.second.now in
    let e = c.in_err-out.ensures in
    rw (p.1, p.2) (record {
      written = tt;
      accepted = tt;
      refused = λ known same told still.
          stops_by asked ps bytes c.in_ok-total.total (c.in_ok-total.ensures.samples known) _ c.in_ok-predictors.ensures.list (c.in_ok-total.ensures.accepted known) c.in_ok-plan.ensures.good c.in_ok-list.ensures.accepted
          c.in_ok-plan.plan c.in_ok-list.list others _ c.in_ok-plan.ensures.made c.in_ok-list.ensures.list (e.refused told still);
      failed = fails_as g.W.Target c.args.target _ e.failed;
      known = tt;
      counted = tt;
      names = tt;
    })

pub returns : goal.returns
returns g c =
    let asked = asked_of c.args.encoding.now in
    let ps = c.in_ok-predictors.predictors.items in
    let bytes = g.A.Source.coming c.args.first.now in
    let others = g.R.Source.coming c.args.second.now in
    let before = bits_of (g.W.Target.sent c.args.target) in
    let after = bits_of (g.W.Target.sent c.in_ok-out.out) in
    let total = c.in_ok-total.total in
    let ok = c.in_ok-total.ensures in
    let plan = c.in_ok-plan.ensures in
    let e = c.in_ok-out.ensures in
    let plan_is = planned asked.profile asked.format total ps c.search_of-search.result in
    let list_is = comment_list asked.words in
    let fits = subst (λ l. container_fault asked.container plan_is l ≡ None) c.in_ok-list.ensures.list (subst (λ q. container_fault asked.container q c.in_ok-list.list ≡ None) plan.made e.fits) in
    record {
      written = λ known told.
          second_wrote asked ps others total c.in_ok-predictors.ensures.list c.in_ok-plan.plan c.in_ok-list.list
          (plan.made ∙ ap (planned asked.profile asked.format total ps) c.search_of-search.ensures) c.in_ok-list.ensures.list (e.samples known) plan.good before after (e.written known told);
      accepted = λ known.
          unreasoned asked ps bytes c.in_ok-predictors.ensures.list (all_accepted asked ps bytes total (ok.samples known) (ok.accepted known) plan.good c.in_ok-list.ensures.accepted
          (sym (same_stream asked.container plan_is list_is) ∙ fits));
      refused = tt;
      failed = tt;
      known = e.known;
      counted = e.counted;
      names = e.names;
    }
