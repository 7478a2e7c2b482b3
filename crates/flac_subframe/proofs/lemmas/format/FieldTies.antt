-- Ties of signed numbers, of lists and of Rice codes.
use Rattle.std.proofs.Common.{◌≡◌, ◌∙◌, ℕ, zero, suc, ◌-◌, ◌*◌, ◌%◌, ◌^◌, ◌≤◌, ◌<◌, refl, sym, ap, arith, Bool, ℤ, pos, negsuc, List, [], ◌∷◌, ◌++◌, length, flat_map, All, inl, inr}
use Rattle.std.proofs.lemmas.Int.{ints}
use Rattle.std.proofs.lemmas.Bool.{cases_lt, lt-ltb, le-ltb}
use Rattle.std.proofs.lemmas.Nat.{pow_pos}
use Rattle.std.proofs.Math.Nat.{mod-eq_of_lt, mod-lt, pow-suc}
use Rattle.std.proofs.lemmas.List.{append-nil}
use Rattle.std.proofs.lemmas.List.Elements.{All-nil, All-cons, All-head, All-tail}
use Rattle.flac_bits.specs.Bits.{unsigned}
use Rattle.flac_bits.specs.State.{Mark, past}
use Rattle.flac_bits.specs.Layout.{Layout}
use Rattle.flac_bits.specs.Lists.{list_of}
use Rattle.flac_bits.specs.inner.Forms.{Ties}
use Rattle.flac_bits.specs.Signed.{signed, signed_field, to_signed, modulo}
use Rattle.flac_bits.proofs.Ties.{ForSome, tie, each_tied, some_tied}
use Rattle.flac_subframe.specs.format.Spelling.{FitsWidth}

double : (n : ℕ) → 2 ^ suc n ≡ 2 * 2 ^ n
double n = rw pow-suc (omega arith)

less_one : (n : ℕ) → suc n - 1 ≡ n
less_one n = omega arith

modulo_is : (n v : ℕ) → v < 2 ^ n → modulo n (to_signed n v) ≡ v
modulo_is n v lt = elim (cases_lt v (2 ^ (n - 1))) [
  | inl b ↦ rw (lt-ltb v (2 ^ (n - 1)) b) (mod-eq_of_lt lt)
  | inr b ↦ let e : (2 ^ n - 1 - v) % 2 ^ n ≡ 2 ^ n - 1 - v = mod-eq_of_lt (omega arith) in rw (le-ltb v (2 ^ (n - 1)) b, e) (omega arith)
]

width_fits : (n v : ℕ) → v < 2 ^ n → FitsWidth n (to_signed n v)
width_fits zero v lt = let e : v ≡ 0 = omega arith in rw e refl
width_fits (suc n) v lt = elim (cases_lt v (2 ^ (suc n - 1))) [
  | inl b ↦ rw (lt-ltb v (2 ^ (suc n - 1)) b) (record { low = omega (arith, ints); high = omega (arith, ints, b) })
  | inr b ↦
      let e = ap (λ m. 2 ^ m) (less_one n) in
      rw (le-ltb v (2 ^ (suc n - 1)) b) (record { low = omega (arith, ints, b, e, double n, lt); high = omega (arith, ints) })
]

modulo_small : (n : ℕ) (z : ℤ) → modulo n z < 2 ^ n
modulo_small n (pos a) = mod-lt a (pow_pos n)
modulo_small n (negsuc a) = omega (arith, pow_pos n)

to_signed_is : (n : ℕ) (z : ℤ) → FitsWidth n z → to_signed n (modulo n z) ≡ z
to_signed_is zero z fit = rw fit refl
to_signed_is (suc n) (pos a) fit =
    let e = ap (λ m. 2 ^ m) (less_one n) in
    let small : a < 2 ^ (suc n - 1) = omega (arith, ints, fit.high) in
    let same : a % 2 ^ suc n ≡ a = mod-eq_of_lt (omega (arith, small, e, double n)) in
    rw (same, lt-ltb a (2 ^ (suc n - 1)) small) refl
to_signed_is (suc n) (negsuc a) fit =
    let e = ap (λ m. 2 ^ m) (less_one n) in
    let small : a < 2 ^ (suc n - 1) = omega (arith, ints, fit.low) in
    let same : a % 2 ^ suc n ≡ a = mod-eq_of_lt (omega (arith, small, e, double n)) in
    let above : 2 ^ (suc n - 1) ≤ 2 ^ suc n - 1 - a = omega (arith, small, e, double n) in
    let back : 2 ^ suc n - 1 - (2 ^ suc n - 1 - a) ≡ a = omega (arith, small, e, double n) in
    rw (same, le-ltb (2 ^ suc n - 1 - a) (2 ^ (suc n - 1)) above, back) refl

pub signed_tie : (n : ℕ) (m : Mark) → Ties (signed_field n) m (FitsWidth n) (signed n)
unfolding signed_field
signed_tie n m = tie (signed_field n) m (FitsWidth n) (signed n)
    (λ v lt. (width_fits n v lt, append-nil (unsigned n v) ∙ ap (unsigned n) (sym (modulo_is n v lt))))
    (λ z fit. (modulo n z, modulo_small n z, (append-nil (unsigned n (modulo n z)), to_signed_is n z fit)))

-- so many of what is valid
pub record Many {A : Type 0} (Valid : A → Type 0) (n : ℕ) (xs : List A) : Type 0 where
  pub many : length xs ≡ n
  pub each : All Valid xs

module _ {A : Type 0} (l : Layout A) (Valid : A → Type 0) (spelling : A → List Bool) (part : (m : Mark) → Ties l m Valid spelling) where
  nothing : (xs : List A) → Many Valid 0 xs → [] ≡ xs
  nothing [] v = refl
  nothing (x ∷ xs) v = absurd (omega (arith, v.many))

  pub list_tie : (n : ℕ) (m : Mark) → Ties (list_of n l) m (Many Valid n) (flat_map spelling)
  unfolding list_of
  list_tie zero m = tie (list_of 0 l) m (Many Valid 0) (flat_map spelling) (record { many = refl; each = All-nil Valid }, refl) (λ xs v. (ap (flat_map spelling) (nothing xs v), nothing xs v))
  list_tie (suc n) m = tie (list_of (suc n) l) m (Many Valid (suc n)) (flat_map spelling)
      (each_tied l m Valid spelling _ (part m) (λ x ok. each_tied (list_of n l) (past (spelling x) m) (Many Valid n) (flat_map spelling) _ (list_tie n (past (spelling x) m))
      (λ xs v. (record { many = omega (arith, v.many); each = All-cons Valid x xs ok v.each }, ap (λ t. spelling x ++ t) (append-nil (flat_map spelling xs))))))
      (go (λ k. list_tie n k))
    where
      go : ((k : Mark) → Ties (list_of n l) k (Many Valid n) (flat_map spelling)) → (ys : List A) → Many Valid (suc n) ys → ForSome (list_of (suc n) l) m (λ text zs. (text ≡ flat_map spelling ys) × (zs ≡ ys))
      go t [] v = absurd (omega (arith, v.many))
      go t (y ∷ ys) v = some_tied l m Valid spelling _ y (part m) (All-head Valid y ys v.each)
          (some_tied (list_of n l) (past (spelling y) m) (Many Valid n) (flat_map spelling) _ ys (t (past (spelling y) m))
          (record { many = omega (arith, v.many); each = All-tail Valid y ys v.each }) (ap (λ t. spelling y ++ t) (append-nil (flat_map spelling ys)), refl))
