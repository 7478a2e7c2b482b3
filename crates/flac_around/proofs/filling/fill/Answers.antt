use Rattle.std.proofs.Common.{◌≤◌, ◌∙◌, ◌-◌, ◌++◌, append_assoc, rules, ap, sym, length, take, arith}
use Rattle.flac_bits.proofs.Copied.{put_taken}
use Rattle.flac_around.proofs.filling.fill.Goals as goal

pub loop-count-preserved : goal.loop-count-preserved
loop-count-preserved g c =
    let inv = c.loop-count.invariant in
    let xs = c.loop-count.places in
    let ys = c.pull.new.buf in
    let count = c.loop-count.count in
    let later = g.S.Source.coming c.pull.new.self in
    let e = c.in-Ok.ensures in
    let within : count ≤ length xs = omega (arith, inv.few, inv.long, c.requires.within) in
    record {
      least = search rules;
      few = search rules;
      long = search rules;
      bytes = λ known.
          inv.bytes known ∙ ap (λ l. take count xs ++ l) (e.bytes (inv.goes.known known)) ∙ sym (append_assoc (take count xs) (take c.in-Ok.more ys) later)
          ∙ ap (λ l. l ++ later) (sym (put_taken count (c.args.most - count) c.in-Ok.more xs ys within e.bound.0));
      most = omega (arith, e.most, inv.most);
      goes = record {
        names = e.names ∙ inv.goes.names;
        known = λ known. e.known (inv.goes.known known);
        errors = e.counted.0 ∙ inv.goes.errors;
        raised = e.counted.1 ∙ inv.goes.raised;
        after = λ known. e.foretold (inv.goes.known known) e.counted.0 ∙ inv.goes.after known;
        most = omega (arith, e.most, inv.goes.most);
      };
    }
