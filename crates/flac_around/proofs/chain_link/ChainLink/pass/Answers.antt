use Rattle.std.proofs.Common.{◌≡◌, true, [], take, ℕ, List, ◌++◌, sym, ap, ◌∙◌, arith}
use Rattle.std.specs.Prelude.{not}
use Rattle.std.proofs.lemmas.Bool.{and_parts}
use Rattle.flac_around.specs.Linking.{ghosts_of}
use Rattle.flac_around.specs.Walks.{end_for}
use Rattle.flac_around.proofs.Backs.{none_taken}
use Rattle.flac_around.proofs.ChainNames.{same_start, bit_true, none_failed, not_true, both_true}
use Rattle.flac_around.proofs.ChainWalks.{none_before}
use Rattle.flac_around.proofs.chain_link.ChainLink.pass.Goals as goal

-- nothing came, and nothing was to come
none_came : (n : ℕ) (buf coming later : List ℕ) → n ≡ 0 → coming ≡ take n buf ++ later → coming ≡ [] → later ≡ []
none_came n buf coming later zero is none = ap (λ l. l ++ later) (sym (ap (λ m. take m buf) zero ∙ none_taken buf)) ∙ sym is ∙ none

pub returns-in-Ok-eq0-clause-over : goal.returns-in-Ok-eq0-clause-over
returns-in-Ok-eq0-clause-over g c = λ known quiet.
    let g0 = g.S.Source in
    let old = c.args.self.now in
    let mid = c.rest.self in
    let new = c.pull.new.self in
    let e = c.has_failed-failed.ensures in
    let f = c.has_failed-failed-in-Ok-eq0.ensures in
    let p = c.in-Ok-eq0.ensures in
    let raised : g0.raised old.source ≡ g0.raised old.began.value = sym c.rest.invariant.calm.1 ∙ sym p.counted.1 ∙ quiet in
    let calm = none_failed old.failed (g0.known old.began.value) (g0.raised old.began.value) (g0.raised old.source) e.risen known raised in
    let still = e.still calm known in
    let was_known : ghosts_of.known old ≡ true = both_true (g0.known old.source) old.failed still.0 calm in
    let mid_known = c.rest.invariant.known was_known in
    let over = p.end c.in-Ok-eq0.field-0-test (omega (arith, c.pull.auto.buf)) mid_known in
    let now_known = and_parts (g0.known new.source) (not new.failed) (p.known mid_known) in
    let start = same_start new old (p.names ∙ c.rest.invariant.names) in
    let now = f.still (not_true new.failed now_known.1) (bit_true (g0.known new.began.value) (g0.known old.began.value) start.known known) in
    let none = none_came c.in-Ok-eq0.field-0 c.pull.new.buf (ghosts_of.coming mid) (ghosts_of.coming new) c.in-Ok-eq0.field-0-test (p.bytes mid_known) over.0 in
    (now_known.0, sym (none_before (end_for new.walk (g0.coming new.source)) (g0.coming new.source) none) ∙ now.1 ∙ start.later)

pub returns-in-Err-clause-rises : goal.returns-in-Err-clause-rises
returns-in-Err-clause-rises g c = λ known quiet.
    let g0 = g.S.Source in
    let old = c.args.self.now in
    let e = c.has_failed-failed.ensures in
    let calm = none_failed old.failed (g0.known old.began.value) (g0.raised old.began.value) (g0.raised old.source) e.risen known quiet in
    let was_known : ghosts_of.known old ≡ true = both_true (g0.known old.source) old.failed (e.still calm known).0 calm in
    omega (arith, c.in-Err.ensures.rises (c.rest.invariant.known was_known), c.rest.invariant.calm.1)
