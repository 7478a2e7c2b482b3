use Rattle.std.proofs.Common.{arith, refl, sym, inl, inr, ℕ, ◌≤◌, ◌<◌, length}
use Rattle.std.proofs.lemmas.Bool.{cases_lt}
use Rattle.flac_subframe.specs.format.Numbers.{sample_at}
use Rattle.flac_subframe.proofs.lemmas.format.Bounds.{fits_more}
use Rattle.flac_subframe.proofs.lemmas.format.Powers.{all_times, none_wasted, none_times, even}
use Rattle.flac_subframe.proofs.format.wasted.without_wasted.Goals as goal

some_bits : (n : ℕ) → 1 ≤ n → 0 < n
some_bits n h = omega arith

pub all_even-requires : goal.all_even-requires
all_even-requires c = λ k d h. fits_more c.args.bits _ c.requires.bits (c.requires.fits k d h)

pub drop_wasted-wasted-requires : goal.drop_wasted-wasted-requires
drop_wasted-wasted-requires c = record { positive = c.requires.positive; bits = c.requires.bits; fits = c.requires.fits; places = c.requires.places }

pub returns-then-not-all_even-clause-some : goal.returns-then-not-all_even-clause-some
returns-then-not-all_even-clause-some c = some_bits c.args.bits c.requires.positive

pub returns-then-not-all_even-clause-fits : goal.returns-then-not-all_even-clause-fits
returns-then-not-all_even-clause-fits c = λ k d h. fits_more c.args.bits _ c.requires.bits (c.requires.fits k d h)

pub returns-clause-wasted : goal.returns-clause-wasted
returns-clause-wasted c = c.drop_wasted-wasted.ensures.wasted

pub returns-clause-some : goal.returns-clause-some
returns-clause-some c = c.drop_wasted-wasted.ensures.some

pub returns-clause-shortened : goal.returns-clause-shortened
returns-clause-shortened c = c.drop_wasted-wasted.ensures.shortened

pub returns-then-not-all_even-clause-wasted : goal.returns-then-not-all_even-clause-wasted
returns-then-not-all_even-clause-wasted c =
    let s = c.args.samples.now in
    let so = λ (i : ℕ) (_ : i < length s). sym (none_times (sample_at s i)) in
    none_wasted 0 s s refl so (λ j all. elim (cases_lt 0 j) [
      | inl b ↦ absurd (cc (c.all_even.ensures.odd (even 0 s s refl so j b all), c.if-not-all_even.true))
      | inr b ↦ b
    ])

pub returns-then-not-all_even-clause-shortened : goal.returns-then-not-all_even-clause-shortened
returns-then-not-all_even-clause-shortened c =
    let s = c.args.samples.now in
    all_times 0 s s refl (λ i h. sym (none_times (sample_at s i)))
