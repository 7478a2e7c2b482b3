use Rattle.std.proofs.Common.{◌∙◌, refl, sym, ap, inl}
use Rattle.std.proofs.lemmas.Result.{err_from_is_err_and}
use Rattle.flac_bits.specs.Bits.{bits_of}
use Rattle.flac_cli.specs.Asked.{asked_of}
use Rattle.flac_cli.proofs.Failed.{not_list, not_input, same_output}
use Rattle.flac_cli.proofs.Searched.{same_stream, same_refusal}
use Rattle.flac_cli.proofs.Recoding.{refused_line, no_memory, listed_reason, accepted, container_reason, written, begun, not_refused, same_refused}
use Rattle.flac_cli.proofs.recode.recode_stream.Goals as goal

pub returns : goal.returns
returns g c =
    let asked = asked_of c.args.encoding.now in
    let ready = c.in_ok-ready.ready in
    let ps = c.in_ok-predictors.predictors.items in
    let bytes = g.R.Source.coming c.args.source.now in
    let follows = g.R.Source.after c.args.source.now in
    let listed = c.in_ok-predictors.ensures.list in
    let s = c.in_ok-tried.ensures.searched in
    record {
      written = λ known told.
          let f = c.in_ok-ready.ensures.found known in
          written asked ps bytes follows f.0 f.1 f.2 ready.plan ready.list ready.audio listed f.3 f.4 c.in_ok-tried.tried s
          (bits_of (g.W.Target.sent c.args.target.now)) (bits_of (g.W.Target.sent c.write_stream.new.target)) (c.in_ok-write_stream.ensures.written told);
      begun = tt;
      accepted = λ known.
          let f = c.in_ok-ready.ensures.found known in
          accepted asked ps bytes follows f.0 f.1 f.2 ready.plan ready.list ready.audio listed f.3 f.4
          (sym (same_stream asked.container ready.plan c.in_ok-tried.tried s.found ready.list s.is) ∙ c.in_ok-write_stream.ensures.accepted);
      refused = tt;
      failed = tt;
    }

pub returns-in_err-predictors : goal.returns-in_err-predictors
returns-in_err-predictors g c =
    let p = err_from_is_err_and c.from_residual.result c.from_residual.ensures.1 in
    rw (p.1, p.2) (record {
      written = tt;
      begun = λ known told. inl refl;
      accepted = tt;
      refused = λ tells. refused_line (asked_of c.args.encoding.now) (g.R.Source.coming c.args.source.now) (g.R.Source.after c.args.source.now) _ c.in_err-predictors.ensures.refused;
      failed = not_refused _ _ (not_list _ _);
    })

pub returns-in_err-ready : goal.returns-in_err-ready
returns-in_err-ready g c =
    let p = err_from_is_err_and c.from_residual-in_err-ready.result c.from_residual-in_err-ready.ensures.1 in
    rw (p.1, p.2) (record {
      written = tt;
      begun = λ known told. inl refl;
      accepted = tt;
      refused = λ tells. listed_reason (asked_of c.args.encoding.now) c.in_ok-predictors.predictors.items (g.R.Source.coming c.args.source.now) (g.R.Source.after c.args.source.now) _ c.in_ok-predictors.ensures.list
          (c.in_err-ready.ensures.refused tells);
      failed = λ is. absurd (c.in_err-ready.ensures.unwritten is);
    })

pub returns-in_err-tried : goal.returns-in_err-tried
returns-in_err-tried g c =
    let p = err_from_is_err_and c.from_residual-in_err-tried.result c.from_residual-in_err-tried.ensures.1 in
    rw (p.1, p.2) (record {
      written = tt;
      begun = λ known told. inl refl;
      accepted = tt;
      refused = λ tells. no_memory (asked_of c.args.encoding.now) (g.R.Source.coming c.args.source.now) (g.R.Source.after c.args.source.now) _ c.in_err-tried.ensures.memory;
      failed = not_refused _ _ (not_input _ _);
    })

pub returns-in_err-write_stream : goal.returns-in_err-write_stream
returns-in_err-write_stream g c =
    let p = err_from_is_err_and c.from_residual-in_err-write_stream.result c.from_residual-in_err-write_stream.ensures.1 in
    let asked = asked_of c.args.encoding.now in
    let ready = c.in_ok-ready.ready in
    let ps = c.in_ok-predictors.predictors.items in
    let bytes = g.R.Source.coming c.args.source.now in
    let follows = g.R.Source.after c.args.source.now in
    let listed = c.in_ok-predictors.ensures.list in
    let s = c.in_ok-tried.ensures.searched in
    rw (p.1, p.2) (record {
      written = tt;
      begun = λ known told.
          let f = c.in_ok-ready.ensures.found known in
          begun asked ps bytes follows f.0 f.1 f.2 ready.plan ready.list ready.audio listed f.3 f.4 c.in_ok-tried.tried s
          (bits_of (g.W.Target.sent c.args.target.now)) (bits_of (g.W.Target.sent c.write_stream.new.target))
          (λ same. ap (λ t. bits_of (g.W.Target.sent t)) same) (c.in_err-write_stream.ensures.begun told);
      accepted = tt;
      refused = λ tells.
          let f = c.in_ok-ready.ensures.found tells.0 in
          container_reason asked ps bytes follows f.0 f.1 f.2 ready.plan ready.list ready.audio listed f.3 f.4 _
          (same_refusal asked.container ready.plan c.in_ok-tried.tried s.found ready.list _ s.is c.in_err-write_stream.ensures.refused);
      failed = λ is. c.in_err-write_stream.ensures.failed (same_output _ _ (same_refused _ _ is));
    })
