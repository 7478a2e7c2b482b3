use Rattle.std.proofs.Common.{◌≡◌, ◌∙◌, ◌++◌, [], true, None, refl, ap, subst, arith}
use Rattle.flac_bits.specs.Bits.{bits_of}
use Rattle.flac_cli.specs.RecodeRefusals.{asked_for, files_for, recode_path, recode_text}
use Rattle.flac_cli.specs.Reports.{fault_line}
use Rattle.flac_cli.specs.Salvages.{fills, salvage_files, SalvagesInput, HasBegunInput, IsInputReason, IsSalvageRefusal}
use Rattle.flac_cli.proofs.Jobs.{not_both, at_most_one}
use Rattle.flac_cli.proofs.Recoding.{served}
use Rattle.flac_cli.proofs.Salvages.{salvage_reported, told}
use Rattle.flac_cli.proofs.salvage.salvage_file.Goals as goal

pub returns-in-Ok : goal.returns-in-Ok
returns-in-Ok g c =
    let e = c.in-Ok.ensures in
    let asked = c.encoding_of-encoding.ensures ∙ ap (λ r. asked_for r []) c.to_recoding-recoding.ensures in
    let bytes = g.R.Source.coming c.args.source.now in
    let silence = fills c.args.salvage.now.filling in
    record {
      status = omega arith;
      salvaged = λ done known sent. subst (λ a. SalvagesInput a silence bytes (bits_of (g.W.Target.sent c.args.target.now)) (bits_of (g.W.Target.sent c.salvage_source.new.target))) asked (e.written known sent);
      told = λ done known. λ knows same.
          let l = e.lines known in
          record {
            left = l.left;
            native = l.native;
            survey = l.lines.0;
            is = l.lines.1;
            printed = told g.E.Target c.deref.result.now c.args.err.now c.send_all.new.target c.send_all.result c.send_all.ensures.sends knows same
                ∙ ap (λ t. g.E.Target.sent c.args.err.now ++ t) (c.deref.ensures.value ∙ l.lines.2);
          };
      accepted = λ done known. subst (λ a. IsInputReason a silence bytes None) asked (e.accepted known);
      begun = λ failed. not_both _ failed refl;
      refused = λ failed. not_both _ failed refl;
      named = λ failed. not_both _ failed refl;
    }

pub returns-in-Err : goal.returns-in-Err
returns-in-Err g c =
    let e = c.in-Err.ensures in
    let asked = c.encoding_of-encoding.ensures ∙ ap (λ r. asked_for r []) c.to_recoding-recoding.ensures in
    let files = ap files_for c.to_recoding-recoding.ensures in
    let bytes = g.R.Source.coming c.args.source.now in
    let silence = fills c.args.salvage.now.filling in
    let r = c.refuse_recoding.ensures in
    let why = c.in-Err.refused in
    let before = g.E.Target.sent c.args.err.now in
    let now = g.E.Target.sent c.refuse_recoding.new.err in
    let line = λ (knows : g.E.Target.known c.args.err.now ≡ true). λ (same : g.E.Target.errors c.refuse_recoding.new.err ≡ g.E.Target.errors c.args.err.now). subst (λ f. now ≡ before ++ fault_line (recode_path f why) (recode_text why)) files (r.line knows same) in
    record {
      status = at_most_one _ r.status;
      salvaged = λ done. not_both _ r.status done;
      told = λ done. not_both _ r.status done;
      accepted = λ done. not_both _ r.status done;
      begun = λ failed known sent. subst (λ a. HasBegunInput a silence bytes (bits_of (g.W.Target.sent c.args.target.now)) (bits_of (g.W.Target.sent c.salvage_source.new.target))) asked (e.begun known sent);
      refused = λ failed. λ tells serves tolds. subst (λ a. IsSalvageRefusal a silence (salvage_files c.args.salvage.now) bytes before now) asked
          (salvage_reported _ silence bytes (salvage_files c.args.salvage.now) why before now (line tolds.0 tolds.1) (λ is. served _ _ (e.failed is serves.0) serves.1) (e.refused tells));
      named = λ failed. λ knows same. (why, line knows same);
    }
