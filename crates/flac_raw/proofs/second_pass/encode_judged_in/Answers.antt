use Rattle.std.proofs.Common.{◌≡◌, ◌≤◌, ◌^◌, ◌∙◌, None, sym, ap, subst, length, arith, inl}
use Rattle.std.proofs.lemmas.Result.{err_from_is_err_and}
use Rattle.flac_native.specs.Given.{blocks_in, plan_fault}
use Rattle.flac_native.specs.Message.{sample_width}
use Rattle.flac_native.proofs.Planned.{planned}
use Rattle.flac_encoder.specs.Pushing.{Shape}
use Rattle.flac_encoder.proofs.Pushing.{shaped}
use Rattle.flac_raw.specs.Planned.{Planned, raw_cut, raw_shape}
use Rattle.flac_raw.specs.inner.Pushed.{draft_in}
use Rattle.flac_raw.proofs.Planning.{plan_shape, none_left_out, IsOf, pass_refused, pass_samples, pass_wrote}
use Rattle.flac_raw.proofs.Stepping.{fails_since}
use Rattle.flac_raw.proofs.second_pass.encode_judged_in.Goals as goal

pub new-requires-clause-channels : goal.new-requires-clause-channels
new-requires-clause-channels g c =
    let i = c.plan.inside in
    let q = planned (raw_cut i.profile i.format i.total i.predictors.items) c.plan.invariant in
    (q.some, q.few)

pub new-requires-clause-width : goal.new-requires-clause-width
new-requires-clause-width g c =
    let i = c.plan.inside in
    let q = shaped (raw_shape i.profile i.format) (plan_shape i.profile i.format i.total i.predictors.items c.plan.invariant) in
    (omega (arith, c.sample_width-width.ensures, q.least_bits, q.bits), omega (arith, c.sample_width-width.ensures, q.least_bits, q.bits))

pub new-requires-clause-size : goal.new-requires-clause-size
new-requires-clause-size g c =
    let i = c.plan.inside in
    let q = shaped (raw_shape i.profile i.format) (plan_shape i.profile i.format i.total i.predictors.items c.plan.invariant) in
    (omega (arith, q.least), q.small)

pub push_all-requires-clause-same : goal.push_all-requires-clause-same
push_all-requires-clause-same g c =
    let v = c.plan.view_is in
    let i = c.plan.inside in
    let begun = c.in_ok-draft.ensures.begun in
    let b = c.in_ok-blocks.blocks in
    let made = c.in_ok-blocks.ensures in
    let q = shaped (raw_shape i.profile i.format) (plan_shape i.profile i.format i.total i.predictors.items c.plan.invariant) in
    record {
      many = ap (λ (s : Shape). s.channels) begun.shape ∙ sym (made.channels ∙ ap (λ (q : Planned). q.format.channels) v);
      some = b.channels.0;
      wide = b.widths.0;
      block = ap (λ (s : Shape). s.block_size) begun.shape ∙ sym (made.size ∙ ap (λ (q : Planned). q.format.block) v);
      least = omega (arith, made.size, q.least);
    }

pub push_all-requires-clause-total : goal.push_all-requires-clause-total
push_all-requires-clause-total g c =
    let i = c.plan.inside in
    (planned (raw_cut i.profile i.format i.total i.predictors.items) c.plan.invariant).total

pub push_all-requires-clause-few : goal.push_all-requires-clause-few
push_all-requires-clause-few g c =
    let i = c.plan.inside in
    subst (λ n. blocks_in n i.total ≤ 2 ^ 31) (sym c.in_ok-blocks.ensures.size) (planned (raw_cut i.profile i.format i.total i.predictors.items) c.plan.invariant).blocks

pub returns-in_err-push_all-clause-refused : goal.returns-in_err-push_all-clause-refused
returns-in_err-push_all-clause-refused g c =
    let r = err_from_is_err_and c.from_residual-in_err-push_all.result c.from_residual-in_err-push_all.ensures.1 in
    let v = c.plan.view_is in
    let i = c.plan.inside in
    let p = c.args.plan in
    let e = draft_in c.in_ok-draft.draft in
    let begun = c.in_ok-draft.ensures.begun in
    let b = c.in_ok-blocks.blocks in
    let made = c.in_ok-blocks.ensures in
    let good : plan_fault (raw_cut p.profile p.format p.total p.predictors) ≡ None = subst (λ (q : Planned). plan_fault (raw_cut q.profile q.format q.total q.predictors) ≡ None) v c.plan.invariant in
    let is_of : IsOf p e.pushed.shape.bits (length b.lists.items) b.width b.size i.total = record {
      depth = ap (λ (s : Shape). s.bits) begun.shape;
      many = made.channels ∙ ap (λ (q : Planned). q.format.channels) v;
      wide = made.width ∙ c.sample_width-width.ensures ∙ ap (λ (q : Planned). sample_width q.format.bits) v;
      block = made.size ∙ ap (λ (q : Planned). q.format.block) v;
      all = ap (λ (q : Planned). q.total) v;
    } in
    rw (r.1, r.2) (λ known same. pass_refused p c.args.list (g.R.Source.coming c.args.source.now) good e.pushed.shape.bits (length b.lists.items) b.width b.size i.total is_of c.args.container _ (c.in_err-push_all.ensures.refused known same))

pub returns-in_err-push_all-clause-failed : goal.returns-in_err-push_all-clause-failed
returns-in_err-push_all-clause-failed g c =
    let r = err_from_is_err_and c.from_residual-in_err-push_all.result c.from_residual-in_err-push_all.ensures.1 in
    let ok = c.in_ok-draft.ensures in
    rw (r.1, r.2) (λ is. let f = c.in_err-push_all.ensures.failed is in (f.0, fails_since g.W.Target c.args.target (draft_in c.in_ok-draft.draft).pushed.target f.0 ok.known ok.counted ok.names f.1))

pub returns-in_err-out-clause-refused : goal.returns-in_err-out-clause-refused
returns-in_err-out-clause-refused g c =
    let r = err_from_is_err_and c.from_residual-in_err-out.result c.from_residual-in_err-out.ensures.1 in
    let v = c.plan.view_is in
    let ok = c.in_ok-push_all.ensures in
    rw (r.1, r.2) (λ known same. inl (c.in_err-out.ensures.refused
    (none_left_out c.args.plan c.args.list (draft_in c.in_ok-draft.draft) (draft_in c.push_all.new.draft) c.in_ok-draft.ensures.begun ok.asked (ok.samples ∙ ap (λ (q : Planned). q.total) v))))

pub returns-in_err-out-clause-failed : goal.returns-in_err-out-clause-failed
returns-in_err-out-clause-failed g c =
    let r = err_from_is_err_and c.from_residual-in_err-out.result c.from_residual-in_err-out.ensures.1 in
    let ok = c.in_ok-draft.ensures in
    let more = c.in_ok-push_all.ensures in
    rw (r.1, r.2) (λ is. let f = c.in_err-out.ensures.failed is in
    (f.0, fails_since g.W.Target c.args.target (draft_in c.push_all.new.draft).pushed.target f.0 (λ told. more.known (ok.known told)) (more.counted ∙ ok.counted) (more.names ∙ ok.names) f.1))

pub returns-clause-written : goal.returns-clause-written
returns-clause-written g c = λ known.
    let v = c.plan.view_is in
    let i = c.plan.inside in
    let p = c.args.plan in
    let e = draft_in c.in_ok-draft.draft in
    let begun = c.in_ok-draft.ensures.begun in
    let b = c.in_ok-blocks.blocks in
    let made = c.in_ok-blocks.ensures in
    let good : plan_fault (raw_cut p.profile p.format p.total p.predictors) ≡ None = subst (λ (q : Planned). plan_fault (raw_cut q.profile q.format q.total q.predictors) ≡ None) v c.plan.invariant in
    let is_of : IsOf p e.pushed.shape.bits (length b.lists.items) b.width b.size i.total = record {
      depth = ap (λ (s : Shape). s.bits) begun.shape;
      many = made.channels ∙ ap (λ (q : Planned). q.format.channels) v;
      wide = made.width ∙ c.sample_width-width.ensures ∙ ap (λ (q : Planned). sample_width q.format.bits) v;
      block = made.size ∙ ap (λ (q : Planned). q.format.block) v;
      all = ap (λ (q : Planned). q.total) v;
    } in
    let more = c.in_ok-push_all.ensures in
    pass_wrote p c.args.list (g.R.Source.coming c.args.source.now) good e.pushed.shape.bits (length b.lists.items) b.width b.size i.total is_of g.W.Target c.args.container c.in_ok-draft.draft c.push_all.new.draft c.args.target c.in_ok-out.out begun more.asked
    (more.all known) (more.container ∙ c.in_ok-draft.ensures.container) c.in_ok-draft.ensures.draft (more.draft known) more.has c.in_ok-draft.ensures.known more.known c.in_ok-out.ensures.finished

pub returns-clause-samples : goal.returns-clause-samples
returns-clause-samples g c = λ known.
    let v = c.plan.view_is in
    let i = c.plan.inside in
    let p = c.args.plan in
    let e = draft_in c.in_ok-draft.draft in
    let begun = c.in_ok-draft.ensures.begun in
    let b = c.in_ok-blocks.blocks in
    let made = c.in_ok-blocks.ensures in
    let good : plan_fault (raw_cut p.profile p.format p.total p.predictors) ≡ None = subst (λ (q : Planned). plan_fault (raw_cut q.profile q.format q.total q.predictors) ≡ None) v c.plan.invariant in
    let is_of : IsOf p e.pushed.shape.bits (length b.lists.items) b.width b.size i.total = record {
      depth = ap (λ (s : Shape). s.bits) begun.shape;
      many = made.channels ∙ ap (λ (q : Planned). q.format.channels) v;
      wide = made.width ∙ c.sample_width-width.ensures ∙ ap (λ (q : Planned). sample_width q.format.bits) v;
      block = made.size ∙ ap (λ (q : Planned). q.format.block) v;
      all = ap (λ (q : Planned). q.total) v;
    } in
    pass_samples p c.args.list (g.R.Source.coming c.args.source.now) good e.pushed.shape.bits (length b.lists.items) b.width b.size i.total is_of (c.in_ok-push_all.ensures.all known)
