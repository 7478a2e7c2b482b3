use Rattle.std.proofs.Common.{◌≡◌, ◌≤◌, ◌<◌, ◌∙◌, ◌++◌, refl, ap, sym, length, take, min, arith}
use Rattle.std.proofs.lemmas.List.{length-take-le, take-append-drop}
use Rattle.flac_cli.proofs.Pieces.{came_more, came_other, no_equal, are_equal}
use Rattle.flac_cli.proofs.encode_wave_twice.begins_with.Goals as goal

pub returns-then-ne-clause-other : goal.returns-then-ne-clause-other
returns-then-ne-clause-other g c = λ not known.
    let inv = c.parts.invariant in
    let e = c.in_ok-count.ensures in
    let count = c.in_ok-count.count in
    let part = c.split_at.result.0.now in
    let more = c.split_at.result.1.now in
    let rest = c.parts.rest.now in
    let front = take count c.fill.new.places in
    let long : length front ≡ count = length-take-le count c.fill.new.places (omega (arith, c.fill.auto.places, e.few, c.split_at.ensures.front_len, c.min.ensures)) in
    let split = ap (λ l. l ++ more) c.split_at.ensures.front ∙ (ap (λ l. take c.min.result rest ++ l) c.split_at.ensures.back ∙ take-append-drop c.min.result rest) in
    came_other c.args.bytes.now (g.R.Source.coming c.args.source.now) (g.R.Source.coming c.parts.source) (g.R.Source.coming c.fill.new.source) rest part more front (inv.read known) (sym split) (e.bytes (inv.known known))
    (omega (arith, long, e.few)) (λ fewer. e.end (omega (arith, fewer, long)) (inv.known known)) (no_equal front part c.ne.result c.ne.ensures c.if-ne.true)

pub parts-preserved : goal.parts-preserved
parts-preserved g c =
    let inv = c.parts.invariant in
    let e = c.in_ok-count.ensures in
    let part = c.split_at.result.0.now in
    let more = c.split_at.result.1.now in
    let rest = c.parts.rest.now in
    let front = take c.in_ok-count.count c.fill.new.places in
    let split = ap (λ l. l ++ more) c.split_at.ensures.front ∙ (ap (λ l. take c.min.result rest ++ l) c.split_at.ensures.back ∙ take-append-drop c.min.result rest) in
    let same : front ≡ part = are_equal front part c.ne.result c.ne.ensures c.if-ne.false in
    record {
      known = λ known. e.known (inv.known known);
      read = λ known. came_more c.args.bytes.now (g.R.Source.coming c.args.source.now) (g.R.Source.coming c.parts.source) (g.R.Source.coming c.fill.new.source) rest part more (inv.read known)
          (e.bytes (inv.known known) ∙ ap (λ l. l ++ g.R.Source.coming c.fill.new.source) same) (sym split);
      raised = e.counted ∙ inv.raised;
      names = e.names ∙ inv.names;
    }
