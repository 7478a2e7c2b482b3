use Rattle.std.proofs.Common.{◌∙◌}
use Rattle.flac_bits.proofs.Sent.{sent_more}
use Rattle.flac_bits.proofs.Counting.{rises_then}
use Rattle.flac_bits.proofs.send.send_all.Goals as goal

pub returns-in-Err-clause-sends : goal.returns-in-Err-clause-sends
returns-in-Err-clause-sends g c =
    let inv = c.loop-left.invariant in
    let err = c.in-Err.ensures in
    record {
      known = tt;
      sent = tt;
      begun = λ known. let s = inv.sent known in (s.0, c.loop-left.left.now, s.1, err.nothing (inv.known known) ∙ s.2);
      names = err.names ∙ inv.names;
      counted = tt;
      kept = rw (← inv.errors) err.kept;
      rises = λ known. rw (← inv.errors) (err.rises (inv.known known));
      risen = rises_then (g.W.Target.errors c.args.target.now) (g.W.Target.errors c.loop-left.target) (g.W.Target.errors c.send.new.self) inv.errors err.risen;
    }

pub loop-left-preserved : goal.loop-left-preserved
loop-left-preserved g c =
    let inv = c.loop-left.invariant in
    let got = c.in-Ok.ensures in
    record {
      known = λ known. got.known (inv.known known);
      sent = λ known.
          let s = inv.sent known in
          sent_more c.args.bytes.now (g.W.Target.sent c.args.target.now) s.0 c.loop-left.left.now c.in-Ok.n s.1 s.2 (got.bytes (inv.known known));
      names = got.names ∙ inv.names;
      errors = got.counted ∙ inv.errors;
    }
