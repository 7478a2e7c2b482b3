use Rattle.std.proofs.Common.{◌≡◌, ◌++◌, rules, arith, take, sym, ap, ◌∙◌}
use Rattle.std.specs.Prelude.{is_some}
use Rattle.flac_bits.specs.State.{After}
use Rattle.flac_around.specs.Coming.{last_of}
use Rattle.flac_around.proofs.Lefts.{going_left, now_ended}
use Rattle.flac_around.proofs.between.Between.go_on.Goals as goal

pub returns-then-count-gt0-clause-bytes : goal.returns-then-count-gt0-clause-bytes
returns-then-count-gt0-clause-bytes g c = λ known.
    let self = c.args.self.now in
    let n = c.in-Ok.count in
    let e = c.in-Ok.ensures in
    let source = g.S.Source in
    going_left self.stage _ _ self.held c.slide.new.held _ _ (source.coming self.source) (source.coming c.slide.new.source) (take n c.slide.new.buf) c.requires.stage
    (ap (λ (a : After). is_some a.fails) (e.goes.after known)) (search rules) (e.bytes known)

pub returns-clause-bytes : goal.returns-clause-bytes
returns-clause-bytes g c = λ known.
    let self = c.args.self.now in
    let ended = c.end.new.self in
    let n = c.in-Ok.count in
    let e = c.in-Ok.ensures in
    let source = g.S.Source in
    let zero : n ≡ 0 = omega (arith, c.if-count-gt0.false) in
    let over = e.end zero known in
    let same = ap source.coming c.end.ensures.source in
    now_ended self.stage ended.stage _ _ self.held c.slide.new.held ended.held _ (last_of ended) (source.coming self.source) (source.coming ended.source) c.slide.new.buf n
    c.requires.stage c.end.ensures.stage
    (ap (λ (a : After). is_some a.fails) (sym (e.goes.after known)) ∙ ap is_some over.1)
    zero (same ∙ over.0) c.end.ensures.last (e.bytes known ∙ ap (λ l. take n c.slide.new.buf ++ (c.slide.new.held ++ l)) (sym same))
