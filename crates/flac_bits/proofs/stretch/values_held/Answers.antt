use Rattle.std.proofs.Common.{◌+◌, ◌<◌, ◌++◌, length, pos, refl, sym, ap, arith, ◌∙◌, append_assoc, below_more}
use Rattle.std.proofs.lemmas.List.{get_or-set_same, get_or-set_other}
use Rattle.flac_bits.specs.inner.Stretches.{top_bits}
use Rattle.flac_bits.proofs.Signs.{residual_kept}
use Rattle.flac_bits.proofs.Stretches.{one_read, then_read}
use Rattle.flac_bits.proofs.stretch.values_held.Goals as goal

pub loop-i-preserved : goal.loop-i-preserved
loop-i-preserved c =
    let i = c.loop-i.i in
    let inv = c.loop-i.invariant in
    let v = c.in-Some.value in
    let some = c.in-Some.ensures.some in
    let same = residual_kept v c.in-Some.ensures.fits in
    let short : i < length c.loop-i.values = omega (arith, c.loop-i-test.true, c.requires.to, c.loop-i.auto.values) in
    let last = get_or-set_same c.loop-i.values i v (pos 0) short in
    rw same (record {
      from = omega (arith, inv.from);
      within = omega (arith, c.loop-i-test.true);
      few = c.value.ensures.few;
      next = λ eight agrees. c.value.ensures.next eight (inv.next eight agrees);
      read = (
        inv.read.0 ++ _,
        inv.read.1 ∙ ap (λ bs. inv.read.0 ++ bs) some.5 ∙ sym (append_assoc inv.read.0 _ (top_bits c.value.new.self.word c.value.new.self.count)),
        then_read c.args.k inv.read.0 _ c.args.values.now c.loop-i.values _ c.args.from i (i + 1) c.loop-i.auto.values inv.read.2
            (one_read c.args.k some.0 some.1 _ v c.loop-i.values i some.2 some.3 c.requires.k refl some.4 short),
      );
      fits = λ before. below_more _ i (λ j h. rw (get_or-set_other c.loop-i.values i j v (pos 0) (λ e. omega arith)) (inv.fits before j h)) (rw last c.in-Some.ensures.fits);
    })
