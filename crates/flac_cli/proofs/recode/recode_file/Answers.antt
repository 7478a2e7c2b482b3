use Rattle.std.proofs.Common.{None, refl, inl, subst, arith}
use Rattle.flac_bits.specs.Bits.{bits_of}
use Rattle.flac_cli.specs.Recoded.{Recodes, HasBegunRecoded}
use Rattle.flac_cli.specs.RecodeRefusals.{files_for, IsRecodeReason, IsRecodeReport}
use Rattle.flac_cli.proofs.Jobs.{not_both, at_most_one}
use Rattle.flac_cli.proofs.Recoding.{recode_reported, served}
use Rattle.flac_cli.proofs.recode.recode_file.Goals as goal

pub returns-in-Ok : goal.returns-in-Ok
returns-in-Ok g c =
    let e = c.in-Ok.ensures in
    let asked = c.encoding_of-encoding.ensures in
    let bytes = g.R.Source.coming c.args.source.now in
    let follows = g.R.Source.after c.args.source.now in
    record {
      status = omega arith;
      recoded = λ done known sent. subst (λ a. Recodes a bytes follows (bits_of (g.W.Target.sent c.args.target.now)) (bits_of (g.W.Target.sent c.recode_stream.new.target))) asked (e.written known sent);
      accepted = λ done known. subst (λ a. IsRecodeReason a bytes follows None) asked (e.accepted known);
      begun = λ failed known sent. not_both _ failed refl;
      reported = λ tells served told. subst (λ a. IsRecodeReport a bytes follows (files_for c.args.recoding.now) 0 (g.E.Target.sent c.args.err.now) (g.E.Target.sent c.args.err.now)) asked (inl (None, e.accepted tells.0, (refl, refl)));
      named = λ failed known same. not_both _ failed refl;
    }

pub returns-in-Err : goal.returns-in-Err
returns-in-Err g c =
    let e = c.in-Err.ensures in
    let asked = c.encoding_of-encoding.ensures in
    let bytes = g.R.Source.coming c.args.source.now in
    let follows = g.R.Source.after c.args.source.now in
    let r = c.refuse_recoding.ensures in
    record {
      status = at_most_one _ r.status;
      recoded = λ done. not_both _ r.status done;
      accepted = λ done. not_both _ r.status done;
      begun = λ failed known sent. subst (λ a. HasBegunRecoded a bytes follows (bits_of (g.W.Target.sent c.args.target.now)) (bits_of (g.W.Target.sent c.recode_stream.new.target))) asked (e.begun known sent);
      reported = λ tells serves told. subst (λ a. IsRecodeReport a bytes follows (files_for c.args.recoding.now) c.refuse_recoding.result (g.E.Target.sent c.args.err.now) (g.E.Target.sent c.refuse_recoding.new.err)) asked
          (recode_reported _ bytes follows (files_for c.args.recoding.now) c.in-Err.refused _ _ _ r.status (r.line told.0 told.1) (λ is. served _ _ (e.failed is serves.0) serves.1) (e.refused tells));
      named = λ failed known same. (c.in-Err.refused, r.line known same);
    }
