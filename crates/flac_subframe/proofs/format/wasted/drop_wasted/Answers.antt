use Rattle.std.proofs.Common.{◌≡◌, ◌∙◌, refl, sym, ap, inl, inr, arith, ℤ, suc, ◌+◌, ◌+ℤ◌, ◌<◌, length, pos}
use Rattle.std.specs.Int.{int_shr}
use Rattle.std.proofs.lemmas.Bool.{cases_lt}
use Rattle.std.proofs.lemmas.List.{get_or_default}
use Rattle.flac_subframe.specs.format.Numbers.{sample_at}
use Rattle.flac_subframe.specs.format.Wasted.{times_power}
use Rattle.flac_subframe.proofs.lemmas.format.Powers.{all_times, none_wasted, even, silent, times_more}
use Rattle.flac_subframe.proofs.format.wasted.drop_wasted.Goals as goal

pub returns-then-not-all_even-clause-wasted : goal.returns-then-not-all_even-clause-wasted
returns-then-not-all_even-clause-wasted c =
    let k = c.loop-wasted.wasted in let s = c.args.samples.now in let t = c.loop-wasted.shortened in let i = c.loop-wasted.invariant in
    none_wasted k s t i.long i.so (λ j all. elim (cases_lt k j) [
      | inl b ↦ absurd (cc (c.all_even.ensures.odd (even k s t i.long i.so j b all), c.if-not-all_even.true))
      | inr b ↦ b
    ])

pub returns-then-not-all_even-clause-shortened : goal.returns-then-not-all_even-clause-shortened
returns-then-not-all_even-clause-shortened c =
    let i = c.loop-wasted.invariant in all_times c.loop-wasted.wasted c.args.samples.now c.loop-wasted.shortened i.long i.so

pub loop-wasted-preserved : goal.loop-wasted-preserved
loop-wasted-preserved c =
    let k = c.loop-wasted.wasted in let t = c.loop-wasted.shortened in let was = c.loop-wasted.invariant in
    record {
      long = c.halve.ensures.long ∙ was.long;
      so = λ i h.
          let h' : i < length t = omega arith in
          let x : ℤ = int_shr (sample_at t i) 1 in
          let twice : x +ℤ x ≡ sample_at t i = c.if-not-all_even.ensures.even refl i h' in
          let e : k + 1 ≡ suc k = omega arith in
          was.so i h ∙ rw (c.halve.ensures.half i h', e) (sym (times_more k x ∙ ap (times_power k) twice));
      fits = c.halve.ensures.fits;
    }

pub returns-clause-wasted : goal.returns-clause-wasted
returns-clause-wasted c =
    let s = c.args.samples.now in let t = c.loop-wasted.shortened in let was = c.loop-wasted.invariant in
    let e : c.loop-wasted.wasted ≡ c.args.bits = omega arith in
    let so = rw e at was.so in
    inl (λ i d h. get_or_default s i d (pos 0) h ∙ (silent c.args.bits s t was.long so c.requires.positive c.requires.fits i h).1, refl)

pub returns-clause-shortened : goal.returns-clause-shortened
returns-clause-shortened c =
    let s = c.args.samples.now in let t = c.loop-wasted.shortened in let was = c.loop-wasted.invariant in
    let e : c.loop-wasted.wasted ≡ c.args.bits = omega arith in
    let so = rw e at was.so in
    all_times 0 s t was.long (λ i h. let z = silent c.args.bits s t was.long so c.requires.positive c.requires.fits i h in z.1 ∙ sym (ap (times_power 0) z.0))
