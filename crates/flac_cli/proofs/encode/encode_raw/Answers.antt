use Rattle.std.proofs.Common.{◌≡◌, ◌∙◌, refl, subst, sym, ap, inl, inr}
use Rattle.flac_bits.specs.Bits.{bits_of}
use Rattle.flac_cli.specs.Asked.{asked_of}
use Rattle.flac_cli.specs.Encoded.{comment_list, cut_as, cut_found, EncodesIn}
use Rattle.flac_cli.proofs.Back.{parts_back}
use Rattle.flac_cli.specs.declared.encode.Refusal.TheVariants.{Input}
use Rattle.flac_cli.proofs.Searched.{cut_is, are_found, found_good, same_stream, same_refusal}
use Rattle.std.proofs.lemmas.Result.{err_from_is_err_and}
use Rattle.flac_cli.proofs.Refused.{refused_list, reasoned, unreasoned, refused_raw, refused_plan, refused_words, refused_stream, accepted}
use Rattle.flac_cli.proofs.Outcomes.{begun_raw}
use Rattle.flac_cli.proofs.Failed.{not_list, not_setup, not_input, same_output}
use Rattle.flac_cli.proofs.encode.encode_raw.Goals as goal

pub returns : goal.returns
returns g c =
    let asked = asked_of c.args.encoding.now in
    let audio = c.in_ok-audio.audio in
    let ps = c.in_ok-predictors.predictors.items in
    let bytes = g.R.Source.coming c.args.source.now in
    let before = bits_of (g.W.Target.sent c.args.target.now) in
    let after = bits_of (g.W.Target.sent c.write_stream.new.target) in
    let plan : c.in_ok-plan.plan ≡ cut_as asked audio ps = c.in_ok-plan.ensures.made in
    let s = c.in_ok-tried.ensures.searched in
    record {
      written = λ known told.
          let raw = c.in_ok-audio.ensures.raw known in
          let all : EncodesIn asked.container (cut_found asked audio ps s.found) (comment_list asked.words) audio before after =
          subst (λ p. EncodesIn asked.container p (comment_list asked.words) audio before after) (cut_is asked audio ps c.in_ok-plan.plan c.in_ok-tried.tried plan s)
          (subst (λ l. EncodesIn asked.container c.in_ok-tried.tried l audio before after) c.in_ok-list.ensures.list (c.in_ok-write_stream.ensures.written told)) in
          record {
            audio = audio;
            predictors = ps;
            raw = raw;
            listed = c.in_ok-predictors.ensures.list;
            found = s.found;
            sought = are_found asked audio ps c.in_ok-plan.plan c.in_ok-tried.tried plan s;
            encodes = all;
            back = parts_back asked.container (cut_found asked audio ps s.found) audio asked.words before after all
                (found_good asked audio ps c.in_ok-plan.plan c.in_ok-tried.tried plan s c.in_ok-plan.ensures.good) ∙ raw.samples;
          };
      begun = tt;
      accepted = λ known.
          unreasoned asked ps bytes c.in_ok-predictors.ensures.list (accepted asked ps bytes audio
          (c.in_ok-audio.ensures.accepted known) (c.in_ok-audio.ensures.sound known) c.in_ok-plan.plan plan c.in_ok-plan.ensures.good
          _ c.in_ok-list.ensures.list c.in_ok-list.ensures.accepted
          (sym (same_stream asked.container c.in_ok-plan.plan c.in_ok-tried.tried s.found c.in_ok-list.list s.is) ∙ c.in_ok-write_stream.ensures.accepted));
      refused = tt;
      failed = tt;
    }

pub returns-in_err-predictors : goal.returns-in_err-predictors
returns-in_err-predictors g c =
    let p = err_from_is_err_and c.from_residual.result c.from_residual.ensures.1 in
    rw (p.1, p.2) (record {
      written = tt;
      begun = λ known told. inl refl;
      accepted = tt;
      refused = λ known same. refused_list (asked_of c.args.encoding.now) (g.R.Source.coming c.args.source.now) _ c.in_err-predictors.ensures.refused;
      failed = not_list _ _;
    })

pub returns-in_err-audio : goal.returns-in_err-audio
returns-in_err-audio g c =
    let p = err_from_is_err_and c.from_residual-in_err-audio.result c.from_residual-in_err-audio.ensures.1 in
    let asked = asked_of c.args.encoding.now in
    let ps = c.in_ok-predictors.predictors.items in
    let bytes = g.R.Source.coming c.args.source.now in
    rw (p.1, p.2) (record {
      written = tt;
      begun = λ known told. inl refl;
      accepted = tt;
      refused = λ known same. reasoned asked ps bytes _ c.in_ok-predictors.ensures.list (refused_raw asked ps bytes _ (c.in_err-audio.ensures.refused known same));
      failed = λ is. absurd (c.in_err-audio.ensures.unwritten is);
    })

pub returns-in_err-plan : goal.returns-in_err-plan
returns-in_err-plan g c =
    let p = err_from_is_err_and c.from_residual-in_err-plan.result c.from_residual-in_err-plan.ensures.1 in
    let asked = asked_of c.args.encoding.now in
    let ps = c.in_ok-predictors.predictors.items in
    let bytes = g.R.Source.coming c.args.source.now in
    rw (p.1, p.2) (record {
      written = tt;
      begun = λ known told. inl refl;
      accepted = tt;
      refused = λ known same. reasoned asked ps bytes _ c.in_ok-predictors.ensures.list (inr (refused_plan asked ps bytes c.in_ok-audio.audio
          (c.in_ok-audio.ensures.accepted known) (c.in_ok-audio.ensures.sound known) _ c.in_err-plan.ensures.made));
      failed = not_setup _ _;
    })

pub returns-in_err-list : goal.returns-in_err-list
returns-in_err-list g c =
    let p = err_from_is_err_and c.from_residual-in_err-list.result c.from_residual-in_err-list.ensures.1 in
    let asked = asked_of c.args.encoding.now in
    let ps = c.in_ok-predictors.predictors.items in
    let bytes = g.R.Source.coming c.args.source.now in
    let plan : c.in_ok-plan.plan ≡ cut_as asked c.in_ok-audio.audio ps = c.in_ok-plan.ensures.made in
    rw (p.1, p.2) (record {
      written = tt;
      begun = λ known told. inl refl;
      accepted = tt;
      refused = λ known same. reasoned asked ps bytes _ c.in_ok-predictors.ensures.list (refused_words asked ps bytes c.in_ok-audio.audio
          (c.in_ok-audio.ensures.accepted known) (c.in_ok-audio.ensures.sound known) c.in_ok-plan.plan plan c.in_ok-plan.ensures.good _ c.in_err-list.ensures.refused);
      failed = not_input _ _;
    })

pub returns-in_err-tried : goal.returns-in_err-tried
returns-in_err-tried g c =
    let p = err_from_is_err_and c.from_residual-in_err-tried.result c.from_residual-in_err-tried.ensures.1 in
    rw (p.1, p.2) (record {
      written = tt;
      begun = λ known told. inl refl;
      accepted = tt;
      refused = λ known same. inl (inl (ap Input c.in_err-tried.ensures.memory));
      failed = not_input _ _;
    })

pub returns-in_err-write_stream : goal.returns-in_err-write_stream
returns-in_err-write_stream g c =
    let p = err_from_is_err_and c.from_residual-in_err-write_stream.result c.from_residual-in_err-write_stream.ensures.1 in
    let asked = asked_of c.args.encoding.now in
    let ps = c.in_ok-predictors.predictors.items in
    let bytes = g.R.Source.coming c.args.source.now in
    let plan : c.in_ok-plan.plan ≡ cut_as asked c.in_ok-audio.audio ps = c.in_ok-plan.ensures.made in
    let s = c.in_ok-tried.ensures.searched in
    rw (p.1, p.2) (record {
      written = tt;
      begun = λ known told.
          begun_raw asked ps bytes c.in_ok-plan.plan c.in_ok-tried.tried c.in_ok-list.list c.in_ok-audio.audio
          (bits_of (g.W.Target.sent c.args.target.now)) (bits_of (g.W.Target.sent c.write_stream.new.target)) (c.in_ok-audio.ensures.raw known) c.in_ok-predictors.ensures.list plan s c.in_ok-list.ensures.list
          (λ same. ap (λ t. bits_of (g.W.Target.sent t)) same) (c.in_err-write_stream.ensures.begun told);
      accepted = tt;
      refused = λ known same. reasoned asked ps bytes _ c.in_ok-predictors.ensures.list (refused_stream asked ps bytes c.in_ok-audio.audio
          (c.in_ok-audio.ensures.accepted known) (c.in_ok-audio.ensures.sound known) c.in_ok-plan.plan plan c.in_ok-plan.ensures.good
          _ c.in_ok-list.ensures.list c.in_ok-list.ensures.accepted _
          (same_refusal asked.container c.in_ok-plan.plan c.in_ok-tried.tried s.found c.in_ok-list.list _ s.is c.in_err-write_stream.ensures.refused));
      failed = λ is. c.in_err-write_stream.ensures.failed (same_output _ _ is);
    })
