-- The digits of a number, one after another.
use Rattle.std.proofs.Common.{◌≡◌, ◌<◌, ◌≤◌, ◌+◌, ℕ, List, length, drop, get_or, Some, None, refl, ◌∙◌}
use Rattle.std.proofs.lemmas.List.{at_drop_more, at_drop_all}
use Rattle.flac_report.specs.inner.Reading.{with_digit, number_after}

pub digit_more : (w : List ℕ) (i n m : ℕ) → i < length w → with_digit n (get_or w i 0) ≡ Some m → number_after n (drop i w) ≡ number_after m (drop (i + 1) w)
unfolding number_after
digit_more w i n m lt e = at_drop_more (number_after n) w i 0 lt ∙ rw (e, number_after) refl

pub digit_wrong : (w : List ℕ) (i n : ℕ) → i < length w → with_digit n (get_or w i 0) ≡ None → number_after n (drop i w) ≡ None
unfolding number_after
digit_wrong w i n lt e = at_drop_more (number_after n) w i 0 lt ∙ rw (e, number_after) refl

pub digits_end : (w : List ℕ) (i n : ℕ) → length w ≤ i → number_after n (drop i w) ≡ Some n
unfolding number_after
digits_end w i n end = at_drop_all (number_after n) w i end
