use Rattle.std.proofs.Common.{rules, ◌≡◌, ◌∙◌, ◌++◌, true, take, sym, subst, inr, arith}
use Rattle.std.proofs.lemmas.Result.{err_from_is_err_and}
use Rattle.flac_raw.specs.Faults.{AreSamples}
use Rattle.flac_cli.specs.Asked.{asked_of}
use Rattle.flac_cli.specs.Refusals.{raw_fault, input_fault}
use Rattle.flac_cli.proofs.Failed.{not_setup, not_input, not_kind}
use Rattle.flac_cli.proofs.Fronts.{kind_read}
use Rattle.flac_cli.proofs.Jobs.{rose}
use Rattle.flac_cli.proofs.Refused.{bad_asked_format, not_taken, taken}
use Rattle.flac_cli.proofs.Twice.{fault_none, refused_taken, not_written_as}
use Rattle.flac_cli.proofs.encode_twice.judged.Goals as goal

pub returns-in-Some : goal.returns-in-Some
returns-in-Some g c = record {
  samples = tt;
  accepted = tt;
  refused = λ known same. inr (bad_asked_format (asked_of c.args.encoding.now) (g.R.Source.coming c.args.source.now) c.in-Some.fault c.in-Some.ensures.fault);
  unwritten = not_setup c.in-Some.fault _;
}

pub returns-in_err-count : goal.returns-in_err-count
returns-in_err-count g c =
    let p = err_from_is_err_and c.from_residual.result c.from_residual.ensures.1 in
    rw (p.1, p.2) (record {
      samples = tt;
      accepted = tt;
      refused = λ known same. rose _ _ (c.in_err-count.ensures.failed known) same;
      unwritten = not_input _ _;
    })

pub returns-then-is_refused : goal.returns-then-is_refused
returns-then-is_refused g c =
    let asked = asked_of c.args.encoding.now in
    let bytes = g.R.Source.coming c.args.source.now in
    let ok = c.in_ok-count.ensures in
    record {
      samples = tt;
      accepted = tt;
      refused = λ known same. inr (not_taken asked bytes c.is_refused.result
          (kind_read c.args.encoding.now.any c.in_ok-count.count c.fill.new.places bytes (g.R.Source.coming c.fill.new.source) c.is_refused.result c.is_refused.ensures
          (omega (arith, c.fill.auto.places)) ok.few (ok.bytes known) (λ fewer. ok.end fewer known))
          c.in_default.ensures.fault c.if-is_refused.true);
      unwritten = not_kind _;
    }

pub returns-in-Ok : goal.returns-in-Ok
returns-in-Ok g c =
    let asked = asked_of c.args.encoding.now in
    let profile = c.args.encoding.now.profile in
    let format = c.args.encoding.now.format in
    let bytes = g.R.Source.coming c.args.source.now in
    let rest = g.R.Source.coming c.fill.new.source in
    let ok = c.in_ok-count.ensures in
    let are = λ (known : g.R.Source.known c.args.source.now ≡ true). subst (λ bs. AreSamples profile format bs c.in-Ok.total) (sym (ok.bytes known)) (c.in-Ok.ensures.samples (ok.known known)) in
    record {
      samples = are;
      accepted = λ known.
          taken asked bytes c.is_refused.result
          (kind_read c.args.encoding.now.any c.in_ok-count.count c.fill.new.places bytes rest c.is_refused.result c.is_refused.ensures (omega (arith, c.fill.auto.places)) ok.few (ok.bytes known) (λ fewer. ok.end fewer known))
          c.in_default.ensures.fault c.if-is_refused.false
          ∙ fault_none profile format bytes (are known).good;
      refused = tt;
      unwritten = tt;
    }

pub returns-in-Err : goal.returns-in-Err
returns-in-Err g c =
    let asked = asked_of c.args.encoding.now in
    let profile = c.args.encoding.now.profile in
    let format = c.args.encoding.now.format in
    let bytes = g.R.Source.coming c.args.source.now in
    let rest = g.R.Source.coming c.fill.new.source in
    let front = take c.in_ok-count.count c.fill.new.places in
    let k = g.R.Source.known c.args.source.now in
    let km = g.R.Source.known c.fill.new.source in
    let ok = c.in_ok-count.ensures in
    let facts : k ≡ true → (km ≡ true) × (bytes ≡ front ++ rest) × (input_fault asked bytes ≡ raw_fault profile format bytes) = λ known. (
      ok.known known,
      ok.bytes known,
      taken asked bytes c.is_refused.result
          (kind_read c.args.encoding.now.any c.in_ok-count.count c.fill.new.places bytes rest c.is_refused.result c.is_refused.ensures (omega (arith, c.fill.auto.places)) ok.few (ok.bytes known) (λ fewer. ok.end fewer known))
          c.in_default.ensures.fault c.if-is_refused.false,
    ) in
    record {
      samples = tt;
      accepted = tt;
      refused = refused_taken asked bytes (front ++ rest) c.in-Err.fault c.refusal_as.result k km (g.R.Source.raised c.args.source.now) (g.R.Source.raised c.fill.new.source) _ (g.R.Source.raised c.judge-total.new.source.source.now) c.refusal_as.ensures (search rules) ok.counted facts c.in-Err.ensures.refused;
      unwritten = λ is. not_written_as c.in-Err.fault (sym c.refusal_as.ensures ∙ is);
    }
