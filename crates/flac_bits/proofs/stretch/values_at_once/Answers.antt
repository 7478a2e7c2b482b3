use Rattle.std.proofs.Common.{rules, ◌≡◌, ◌+◌, ◌-◌, ◌<◌, ◌++◌, length, pos, ℤ, SFits, w64, refl, sym, ap, arith, ◌∙◌, append_assoc, inl, inr}
use Rattle.std.proofs.lemmas.Int.{to_z-of_z}
use Rattle.std.proofs.lemmas.Bool.{cases_lt}
use Rattle.std.proofs.lemmas.List.{get_or-set_same, get_or-set_other, take-set-le}
use Rattle.flac_bits.specs.Bits.{unsigned}
use Rattle.flac_bits.specs.Meaning.{unary_bits}
use Rattle.flac_bits.specs.inner.Stretches.{top_bits}
use Rattle.flac_bits.proofs.Stretches.{one_read, then_read}
use Rattle.flac_bits.proofs.stretch.values_at_once.Goals as goal

pub loop-i-preserved : goal.loop-i-preserved
loop-i-preserved c =
    let l = c.loop-i in
    let i = l.i in
    let inv = l.invariant in
    let step = c.code_of-bits in
    let v : ℤ = step.result.1 in
    let vf : SFits w64 v = search rules in
    let short : i < length l.values = omega (arith, c.loop-i-test.true, c.requires.to, l.auto.values) in
    rw (to_z-of_z w64 v vf) (record {
      taken = omega (arith, inv.taken, step.ensures.bits);
      kept = take-set-le c.args.from l.values i v (omega arith) ∙ inv.kept;
      before = λ j h. get_or-set_other l.values i j v (pos 0) (λ e. omega arith) ∙ inv.before j h;
      read = λ n few le.
          let old = inv.read n few (omega (arith, le)) in
          let one = step.ensures.read (n - l.taken) (omega (arith, few)) (omega (arith, le)) in
          let text = unary_bits one.0 ++ unsigned c.args.k one.1 in
          let sum : n - l.taken - step.result.0 ≡ n - (l.taken + step.result.0) = omega arith in (
            old.0 ++ text,
            old.1 ∙ ap (λ bs. old.0 ++ bs) one.5 ∙ sym (append_assoc old.0 text (top_bits step.result.2 (n - l.taken - step.result.0))) ∙ ap (λ m. (old.0 ++ text) ++ top_bits step.result.2 m) sum,
            then_read c.args.k old.0 text c.args.values.now l.values _ c.args.from i (i + 1) l.auto.values old.2
                (one_read c.args.k one.0 one.1 _ v l.values i one.2 one.3 c.requires.k refl one.4 short),
          );
      fits = λ few j least h. elim (cases_lt j i) [
        | inl b ↦ rw (get_or-set_other l.values i j v (pos 0) (λ e. omega arith)) (inv.fits (omega (arith, few)) j least b)
        | inr b ↦ let e : j ≡ i = omega arith in rw (e, get_or-set_same l.values i v (pos 0) short) (step.ensures.fits (omega (arith, few)))
      ];
      next = λ n eight few le agrees.
          let sum : n - l.taken - step.result.0 ≡ n - (l.taken + step.result.0) = omega arith in
          rw sum at (step.ensures.next (n - l.taken) eight (omega (arith, few)) (omega (arith, le)) (inv.next n eight few (omega (arith, le)) agrees));
    })

pub returns-then-taken-word-clause-read : goal.returns-then-taken-word-clause-read
returns-then-taken-word-clause-read c =
    let l = c.loop-i in
    let all : l.i ≡ c.args.to = omega arith in
    rw all at (l.invariant.read c.args.word.now.count c.requires.few c.if-taken-word.true)
