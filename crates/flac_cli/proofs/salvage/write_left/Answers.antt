use Rattle.std.proofs.Common.{◌∙◌, refl, sym, ap, subst, inl}
use Rattle.std.proofs.lemmas.Result.{err_from_is_err_and}
use Rattle.flac_bits.specs.Bits.{bits_of}
use Rattle.flac_cli.specs.Asked.{asked_of}
use Rattle.flac_cli.specs.inner.Holding.{IsReady}
use Rattle.flac_cli.proofs.Failed.{same_output}
use Rattle.flac_cli.proofs.Recoding.{same_refused}
use Rattle.flac_cli.proofs.Salvages.{written, begun, unheld, left_reason, accepted, container_reason, no_memory, not_input}
use Rattle.flac_cli.proofs.Searched.{same_stream, same_refusal}
use Rattle.flac_cli.proofs.salvage.write_left.Goals as goal

pub returns : goal.returns
returns g c =
    let asked = asked_of c.args.encoding.now in
    let s = c.args.survey.now in
    let ready = c.in_ok-ready.ready in
    let h = c.in_ok-held.ensures.held in
    let is = subst (λ ps. IsReady asked ps s.info h.0 h.1 ready.plan ready.list ready.audio) c.new.ensures.items (c.in_ok-ready.ensures.found s.info h.0 h.1 h.3) in
    let tried = c.in_ok-tried.ensures.searched in
    record {
      written = λ known.
          written asked c.args.silence c.args.bytes.now s h.0 h.1 h.2 ready.plan ready.list ready.audio is c.in_ok-tried.tried tried
          (bits_of (g.W.Target.sent c.args.target.now)) (bits_of (g.W.Target.sent c.write_stream.new.target)) (c.in_ok-write_stream.ensures.written known);
      begun = tt;
      accepted = accepted asked c.args.silence c.args.bytes.now s h.0 h.1 h.2 ready.plan ready.list ready.audio is
          (sym (same_stream asked.container ready.plan c.in_ok-tried.tried tried.found ready.list tried.is) ∙ c.in_ok-write_stream.ensures.accepted);
      refused = tt;
      failed = tt;
    }

pub returns-in_err-held : goal.returns-in_err-held
returns-in_err-held g c =
    let p = err_from_is_err_and c.from_residual.result c.from_residual.ensures.1 in
    rw (p.1, p.2) (record {
      written = tt;
      begun = λ known. inl refl;
      accepted = tt;
      refused = unheld (asked_of c.args.encoding.now) c.args.silence c.args.bytes.now c.args.survey.now c.requires _ c.in_err-held.ensures.refused;
      failed = λ is. absurd (c.in_err-held.ensures.unwritten is);
    })

pub returns-in_err-ready : goal.returns-in_err-ready
returns-in_err-ready g c =
    let p = err_from_is_err_and c.from_residual-in_err-ready.result c.from_residual-in_err-ready.ensures.1 in
    let asked = asked_of c.args.encoding.now in
    let s = c.args.survey.now in
    let h = c.in_ok-held.ensures.held in
    rw (p.1, p.2) (record {
      written = tt;
      begun = λ known. inl refl;
      accepted = tt;
      refused = left_reason asked c.args.silence c.args.bytes.now s h.0 h.1 h.2 _ c.new.ensures.items _ (c.in_err-ready.ensures.refused s.info h.0 h.1 h.3);
      failed = λ is. absurd (c.in_err-ready.ensures.unwritten (same_refused _ _ is));
    })

pub returns-in_err-tried : goal.returns-in_err-tried
returns-in_err-tried g c =
    let p = err_from_is_err_and c.from_residual-in_err-tried.result c.from_residual-in_err-tried.ensures.1 in
    rw (p.1, p.2) (record {
      written = tt;
      begun = λ known. inl refl;
      accepted = tt;
      refused = no_memory _ c.in_err-tried.ensures.memory;
      failed = λ is. not_input _ is;
    })

pub returns-in_err-write_stream : goal.returns-in_err-write_stream
returns-in_err-write_stream g c =
    let p = err_from_is_err_and c.from_residual-in_err-write_stream.result c.from_residual-in_err-write_stream.ensures.1 in
    let asked = asked_of c.args.encoding.now in
    let s = c.args.survey.now in
    let ready = c.in_ok-ready.ready in
    let h = c.in_ok-held.ensures.held in
    let is = subst (λ ps. IsReady asked ps s.info h.0 h.1 ready.plan ready.list ready.audio) c.new.ensures.items (c.in_ok-ready.ensures.found s.info h.0 h.1 h.3) in
    let tried = c.in_ok-tried.ensures.searched in
    rw (p.1, p.2) (record {
      written = tt;
      begun = λ known.
          begun asked c.args.silence c.args.bytes.now s h.0 h.1 h.2 ready.plan ready.list ready.audio is c.in_ok-tried.tried tried
          (bits_of (g.W.Target.sent c.args.target.now)) (bits_of (g.W.Target.sent c.write_stream.new.target))
          (λ same. ap (λ t. bits_of (g.W.Target.sent t)) same) (c.in_err-write_stream.ensures.begun known);
      accepted = tt;
      refused = container_reason asked c.args.silence c.args.bytes.now s h.0 h.1 h.2 ready.plan ready.list ready.audio is _
          (same_refusal asked.container ready.plan c.in_ok-tried.tried tried.found ready.list _ tried.is c.in_err-write_stream.ensures.refused);
      failed = λ is. c.in_err-write_stream.ensures.failed (same_output _ _ (same_refused _ _ is));
    })
