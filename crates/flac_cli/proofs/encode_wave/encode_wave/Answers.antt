use Rattle.std.proofs.Common.{◌∙◌, refl, subst, sym, ap, inl}
use Rattle.std.proofs.lemmas.Result.{err_from_is_err_and}
use Rattle.flac_bits.specs.Bits.{bits_of}
use Rattle.flac_cli.specs.Asked.{asked_of}
use Rattle.flac_cli.specs.Encoded.{cut_found, EncodesIn}
use Rattle.flac_cli.specs.Waves.{Keeps}
use Rattle.flac_cli.specs.declared.encode.Refusal.TheVariants.{Input}
use Rattle.flac_cli.proofs.Failed.{not_list, not_input, same_output}
use Rattle.flac_cli.proofs.Kept.{kept_back, begun_wave}
use Rattle.flac_cli.proofs.Searched.{cut_is, are_found, found_good, same_stream, same_refusal}
use Rattle.flac_cli.proofs.WaveRefused.{refused_line, listed_reason, file_reason, container_reason, not_refused, same_refused}
use Rattle.flac_cli.proofs.encode_wave.encode_wave.Goals as goal

pub returns : goal.returns
returns g c =
    let asked = asked_of c.args.encoding.now in
    let ready = c.in_ok-ready.ready in
    let ps = c.in_ok-predictors.predictors.items in
    let bytes = g.R.Source.coming c.args.source.now in
    let before = bits_of (g.W.Target.sent c.args.target.now) in
    let after = bits_of (g.W.Target.sent c.write_stream.new.target) in
    let own = record asked { format = ready.format } in
    let s = c.in_ok-tried.ensures.searched in
    record {
      written = λ known told.
          let is = c.in_ok-ready.ensures.found known in
          let p = cut_found own ready.audio ps s.found in
          let good = found_good own ready.audio ps ready.plan c.in_ok-tried.tried is.cut s is.good in
          let keeps : Keeps asked bytes ready.format ready.audio ready.list = is.keeps in
          let all : EncodesIn asked.container p ready.list ready.audio before after = subst (λ k. EncodesIn asked.container k ready.list ready.audio before after) (cut_is own ready.audio ps ready.plan c.in_ok-tried.tried is.cut s) (c.in_ok-write_stream.ensures.written told) in
          record {
            format = ready.format;
            audio = ready.audio;
            list = ready.list;
            predictors = ps;
            keeps = keeps;
            listed = c.in_ok-predictors.ensures.list;
            found = s.found;
            sought = are_found own ready.audio ps ready.plan c.in_ok-tried.tried is.cut s;
            encodes = all;
            back = λ keep. kept_back asked bytes ready.format ready.audio ready.list p before after keeps all keep good;
          };
      begun = tt;
      accepted = λ known.
          file_reason asked ps bytes bytes ready.format ready.plan ready.list ready.audio c.in_ok-predictors.ensures.list refl (c.in_ok-ready.ensures.found known)
          (sym (same_stream asked.container ready.plan c.in_ok-tried.tried s.found ready.list s.is) ∙ c.in_ok-write_stream.ensures.accepted);
      refused = tt;
      failed = tt;
    }

pub returns-in_err-predictors : goal.returns-in_err-predictors
returns-in_err-predictors g c =
    let p = err_from_is_err_and c.from_residual.result c.from_residual.ensures.1 in
    rw (p.1, p.2) (record {
      written = tt;
      begun = λ known told. inl refl;
      accepted = tt;
      refused = λ known same. refused_line (asked_of c.args.encoding.now) (g.R.Source.coming c.args.source.now) _ c.in_err-predictors.ensures.refused;
      failed = not_refused _ _ (not_list _ _);
    })

pub returns-in_err-ready : goal.returns-in_err-ready
returns-in_err-ready g c =
    let p = err_from_is_err_and c.from_residual-in_err-ready.result c.from_residual-in_err-ready.ensures.1 in
    let asked = asked_of c.args.encoding.now in
    let ps = c.in_ok-predictors.predictors.items in
    rw (p.1, p.2) (record {
      written = tt;
      begun = λ known told. inl refl;
      accepted = tt;
      refused = λ known same. listed_reason asked ps (g.R.Source.coming c.args.source.now) (g.R.Source.coming c.args.source.now) _ c.in_ok-predictors.ensures.list refl
          (c.in_err-ready.ensures.refused known same);
      failed = λ is. absurd (c.in_err-ready.ensures.unwritten is);
    })

pub returns-in_err-tried : goal.returns-in_err-tried
returns-in_err-tried g c =
    let p = err_from_is_err_and c.from_residual-in_err-tried.result c.from_residual-in_err-tried.ensures.1 in
    rw (p.1, p.2) (record {
      written = tt;
      begun = λ known told. inl refl;
      accepted = tt;
      refused = λ known same. inl (Input _, refl, inl (ap Input c.in_err-tried.ensures.memory));
      failed = not_refused _ _ (not_input _ _);
    })

pub returns-in_err-write_stream : goal.returns-in_err-write_stream
returns-in_err-write_stream g c =
    let p = err_from_is_err_and c.from_residual-in_err-write_stream.result c.from_residual-in_err-write_stream.ensures.1 in
    let asked = asked_of c.args.encoding.now in
    let ready = c.in_ok-ready.ready in
    let ps = c.in_ok-predictors.predictors.items in
    let bytes = g.R.Source.coming c.args.source.now in
    let s = c.in_ok-tried.ensures.searched in
    rw (p.1, p.2) (record {
      written = tt;
      begun = λ known told.
          let is = c.in_ok-ready.ensures.found known in
          begun_wave asked ps bytes bytes ready.format ready.plan c.in_ok-tried.tried ready.list ready.audio
          (bits_of (g.W.Target.sent c.args.target.now)) (bits_of (g.W.Target.sent c.write_stream.new.target))
          refl is.keeps c.in_ok-predictors.ensures.list is.cut s
          (λ same. ap (λ t. bits_of (g.W.Target.sent t)) same) (c.in_err-write_stream.ensures.begun told);
      accepted = tt;
      refused = λ known same. container_reason asked ps bytes bytes ready.format ready.plan ready.list ready.audio c.in_ok-predictors.ensures.list refl (c.in_ok-ready.ensures.found known) _
          (same_refusal asked.container ready.plan c.in_ok-tried.tried s.found ready.list _ s.is c.in_err-write_stream.ensures.refused);
      failed = λ is. c.in_err-write_stream.ensures.failed (same_output _ _ (same_refused _ _ is));
    })
