-- Left and right samples from those that they are kept as.
use Rattle.std.proofs.Common.{◌≡◌, ℕ, ◌<◌, ℤ, pos, negsuc, ◌≤ℤ◌, ◌<ℤ◌, ◌+ℤ◌, ◌-ℤ◌, Bool, true, false, nat_eq, nat_lt, List, [], ◌∷◌, length, get_or, refl, sym, ap, ◌∙◌, arith}
use Rattle.std.specs.Int.{int_shr}
use Rattle.std.specs.Simd.Lanes.{zip2}
use Rattle.std.proofs.lemmas.Int.{ints}
use Rattle.std.proofs.lemmas.Bool.Decides.{nat_tests}
use Rattle.std.proofs.lemmas.Simd.{length-zip2, get_or-zip2}
use Rattle.std.proofs.lemmas.List.{ext_get_or}
use Rattle.flac_frame.specs.Stereo.{sample_at, IsMiddle, KeptAs, left_of, right_of, joined, ChannelsAreJoined}

by_test : {R : Type 0} (b : Bool) → (b ≡ true → R) → (b ≡ false → R) → R
by_test true f g = f refl
by_test false f g = g refl

-- half, rounded down
pub half_low : (z : ℤ) → (int_shr z 1 +ℤ int_shr z 1) ≤ℤ z
half_low (pos a) = omega (arith, ints)
half_low (negsuc a) = omega (arith, ints)

pub half_high : (z : ℤ) → z <ℤ (int_shr z 1 +ℤ int_shr z 1 +ℤ pos 2)
half_high (pos a) = omega (arith, ints)
half_high (negsuc a) = omega (arith, ints)

-- ---- one pair of samples

middle_is : (a b : ℤ) → IsMiddle a (a -ℤ int_shr b 1 +ℤ b) (a -ℤ int_shr b 1)
middle_is a b =
    let both = a -ℤ int_shr b 1 +ℤ b +ℤ (a -ℤ int_shr b 1) in
    omega (arith, ints, half_low b, half_high b, half_low both, half_high both)

kept_is : (code : ℕ) (a b : ℤ) → KeptAs code a b (left_of code a b) (right_of code a b)
unfolding left_of right_of
kept_is code a b = record {
  left_side = λ e. rw e (refl, omega (arith, ints));
  side_right = λ e. rw e (omega (arith, ints), refl);
  middle_side = λ e. rw e (middle_is a b, omega (arith, ints));
}

kept_only : (code : ℕ) (a b l r : ℤ) → 7 < code → code < 11 → KeptAs code a b l r → (l ≡ left_of code a b) × (r ≡ right_of code a b)
unfolding left_of right_of
kept_only code a b l r low high k = by_test (nat_eq code 8)
    (λ t. let e : code ≡ 8 = grind (arith, nat_tests) in let h = k.left_side e in rw e (sym h.0, omega (arith, ints, h.0, h.1)))
    (λ f. by_test (nat_eq code 9)
    (λ t. let e : code ≡ 9 = grind (arith, nat_tests) in let h = k.side_right e in rw e (omega (arith, ints, h.0, h.1), sym h.1))
    (λ g. let e : code ≡ 10 = grind (arith, nat_tests) in let h = k.middle_side e in
    let m = h.0 in let s = h.1 in
    rw e (omega (arith, ints, m, s, half_low b, half_high b, half_low (l +ℤ r), half_high (l +ℤ r)), omega (arith, ints, m, s, half_low b, half_high b, half_low (l +ℤ r), half_high (l +ℤ r)))))

-- ---- two channels

zipped : (f : ℤ → ℤ → ℤ) (a b x : List ℤ) → length b ≡ length a → length x ≡ length a → ((k : ℕ) → k < length a → sample_at x k ≡ f (sample_at a k) (sample_at b k)) → x ≡ zip2 f a b
zipped f a b x long is each = ext_get_or (pos 0) x (zip2 f a b) (is ∙ sym (length-zip2 f a b (sym long)))
    (λ k h. each k (omega (arith, is, h)) ∙ sym (get_or-zip2 f a b k (pos 0) (pos 0) (pos 0) (omega (arith, is, h)) (omega (arith, is, long, h))))

pub zip_at : (f : ℤ → ℤ → ℤ) (a b : List ℤ) (i : ℕ) → length b ≡ length a → i < length a → sample_at (zip2 f a b) i ≡ f (sample_at a i) (sample_at b i)
zip_at f a b i long h = get_or-zip2 f a b i (pos 0) (pos 0) (pos 0) h (omega (arith, long, h))

-- ---- the law

not_below : (code : ℕ) → 7 < code → nat_lt code 8 ≡ false
not_below code h = grind (arith, nat_tests)

pub joined_two : (code : ℕ) (a b : List ℤ) → 7 < code → joined code (a ∷ b ∷ []) ≡ zip2 (left_of code) a b ∷ zip2 (right_of code) a b ∷ []
unfolding joined
joined_two code a b low = rw (not_below code low) refl

pub channels_joined : ChannelsAreJoined
channels_joined code a b l r low high long = (
  λ j.
      let left = zipped (left_of code) a b l long j.left_long (λ k h. (kept_only code _ _ _ _ low high (j.each k h)).0) in
      let right = zipped (right_of code) a b r long j.right_long (λ k h. (kept_only code _ _ _ _ low high (j.each k h)).1) in
      joined_two code a b low ∙ rw (← left, ← right) refl,
  λ e.
      let both = sym (joined_two code a b low) ∙ e in
      let left : zip2 (left_of code) a b ≡ l = ap (λ cs. get_or cs 0 []) both in
      let right : zip2 (right_of code) a b ≡ r = ap (λ cs. get_or cs 1 []) both in
      rw (← left, ← right) (record {
        left_long = length-zip2 (left_of code) a b (sym long);
        right_long = length-zip2 (right_of code) a b (sym long);
        each = λ k h. rw (zip_at (left_of code) a b k long h, zip_at (right_of code) a b k long h) (kept_is code (sample_at a k) (sample_at b k));
      }),
)
