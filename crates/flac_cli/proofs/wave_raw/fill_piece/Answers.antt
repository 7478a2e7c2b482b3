use Rattle.std.proofs.Common.{◌≤◌, ◌-◌, ◌∙◌, ◌++◌, append_assoc, rules, ap, sym, length, take, arith}
use Rattle.flac_bits.proofs.Copied.{put_taken}
use Rattle.flac_cli.proofs.wave_raw.fill_piece.Goals as goal

pub loop-count-preserved : goal.loop-count-preserved
loop-count-preserved g c =
    let inv = c.loop-count.invariant in
    let xs = c.loop-count.places in
    let ys = c.pull.new.buf in
    let count = c.loop-count.count in
    let later = g.S.Source.coming c.pull.new.self in
    let e = c.in-Ok.ensures in
    let within : count ≤ length xs = omega (arith, inv.few, inv.long, c.requires) in
    record {
      few = search rules;
      long = search rules;
      known = λ known. e.known (inv.known known);
      bytes = λ known.
          inv.bytes known ∙ ap (λ l. take count xs ++ l) (e.bytes (inv.known known)) ∙ sym (append_assoc (take count xs) (take c.in-Ok.more ys) later)
          ∙ ap (λ l. l ++ later) (sym (put_taken count (c.args.most - count) c.in-Ok.more xs ys within e.bound.0));
      raised = e.counted.1 ∙ inv.raised;
      errors = e.counted.0 ∙ inv.errors;
      names = e.names ∙ inv.names;
      most = omega (arith, e.most, inv.most);
    }
