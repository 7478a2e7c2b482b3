use Rattle.std.proofs.Common.{arith, rules, ◌≡◌, ap, sym, subst, refl, ◌∙◌, ◌++◌, append-nil}
use Rattle.std.proofs.lemmas.Result.{err_from_is_err_and}
use Rattle.flac_frame.specs.Viewed.{frame_of}
use Rattle.flac_native.specs.Message.{rows_bytes}
use Rattle.flac_native.proofs.RetagFaults.{no_fewer}
use Rattle.flac_native.proofs.SampleRows.{rows_none, rows_step}
use Rattle.flac_native.proofs.SameStart.{less_at, most_at}
use Rattle.flac_native.proofs.sinks.send_frame.Goals as goal

pub loop-start-init : goal.loop-start-init
loop-start-init g c =
    let sent = g.W.Target.sent c.args.target.now in
    record {
      within = omega arith;
      length = refl;
      known = λ k. k;
      sent = λ k. sym (ap (λ l. sent ++ l) (rows_none c.args.width (frame_of c.args.frame.now).channels 0) ∙ append-nil sent);
      names = refl;
      errors = refl;
    }

pub loop-start-preserved : goal.loop-start-preserved
loop-start-preserved g c =
    let before = c.loop-start.invariant in
    let sends = c.in_ok-send_all.ensures.sends in
    record {
      within = omega (arith, before.within, c.loop-start-test.true, c.min-count.ensures);
      length = search (rules, before.length);
      known = λ k. sends.known (before.known k);
      sent = λ k. rows_step c.args.width (frame_of c.args.frame.now).channels c.loop-start.start c.min-count.result _ _ _ _ (before.sent k) c.put_rows-end.ensures.bytes (sends.sent (before.known k));
      names = sends.names ∙ before.names;
      errors = sends.counted ∙ before.errors;
    }

pub returns-in_err-send_all : goal.returns-in_err-send_all
returns-in_err-send_all g c =
    let p = err_from_is_err_and c.from_residual.result c.from_residual.ensures.1 in
    let before = c.loop-start.invariant in
    let sends = c.in_err-send_all.ensures.sends in
    rw p.1 (record {
      known = tt;
      sent = tt;
      names = sends.names ∙ before.names;
      counted = tt;
      kept = most_at _ _ _ before.errors sends.kept;
      rises = λ k. less_at _ _ _ before.errors (sends.rises (before.known k));
    })

pub returns : goal.returns
returns g c =
    let before = c.loop-start.invariant in
    let frame = frame_of c.args.frame.now in
    let all : c.loop-start.start ≡ frame.size = omega (arith, before.within, c.loop-start-test.false) in
    record {
      known = before.known;
      sent = λ k. subst (λ n. g.W.Target.sent c.loop-start.target ≡ g.W.Target.sent c.args.target.now ++ rows_bytes c.args.width frame.channels n 0) all (before.sent k);
      names = before.names;
      counted = before.errors;
      kept = no_fewer _ _ before.errors;
      rises = tt;
    }
