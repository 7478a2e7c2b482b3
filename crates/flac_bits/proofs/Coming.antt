-- Bytes that come with a fence.
use Rattle.std.proofs.Common.{◌≡◌, ℕ, zero, suc, ◌+◌, ◌-◌, ◌<◌, ◌≤◌, true, false, nat_le, List, [], ◌∷◌, ◌++◌, length, take, drop, min, Option, Some, None, refl, sym, ap, ◌∙◌, arith, inl, inr}
use Rattle.std.proofs.lemmas.List.{drop_all, length-append, length-take, take-take, take_all, append-nil, take-append-drop}
use Rattle.std.proofs.lemmas.Bool.{eqb-true, eq-eqb}
use Rattle.std.proofs.lemmas.Bool.Decides.{nat_tests}
use Rattle.std.proofs.lemmas.Bool.{cases_lt}
use Rattle.std.specs.Prelude.{is_some}
use Rattle.flac_bits.specs.State.{After, short_of}
use Rattle.flac_bits.specs.Store.{Fence, allowed, forbidden, reached, reason_of, hides_late}
use Rattle.flac_bits.specs.inner.Store.{Came, seen, room_after}
use Rattle.flac_bits.specs.declared.why.Why.{Why}
use Rattle.flac_bits.specs.declared.why.Why.TheVariants.{Read}

-- a number of two lists that are joined
pub take_over : {A : Type 0} (n : ℕ) (xs ys : List A) → take n (xs ++ ys) ≡ take n xs ++ take (n - length xs) ys
take_over {A = A} n [] ys = let e : n - 0 ≡ n = omega arith in let k : take {A = A} n [] ≡ [] = none n in rw (k, e) refl
  where
    none : (n : ℕ) → take {A = A} n [] ≡ []
    none zero = refl
    none (suc n) = refl
take_over zero (x ∷ xs) ys = let e : 0 - length (x ∷ xs) ≡ 0 = omega arith in rw e refl
take_over (suc n) (x ∷ xs) ys = let e : suc n - length (x ∷ xs) ≡ n - length xs = omega arith in rw e (ap (λ zs. x ∷ zs) (take_over n xs ys))

pub drop_over : {A : Type 0} (n : ℕ) (xs ys : List A) → drop n (xs ++ ys) ≡ drop n xs ++ drop (n - length xs) ys
drop_over {A = A} n [] ys = let e : n - 0 ≡ n = omega arith in let k : drop {A = A} n [] ≡ [] = none n in rw (k, e) refl
  where
    none : (n : ℕ) → drop {A = A} n [] ≡ []
    none zero = refl
    none (suc n) = refl
drop_over zero (x ∷ xs) ys = let e : 0 - length (x ∷ xs) ≡ 0 = omega arith in rw e refl
drop_over (suc n) (x ∷ xs) ys = let e : suc n - length (x ∷ xs) ≡ n - length xs = omega arith in rw e (drop_over n xs ys)

pub same_test : (a b c d : ℕ) → (a ≤ b → c ≤ d) → (c ≤ d → a ≤ b) → nat_le a b ≡ nat_le c d
same_test a b c d f g = elim (cases_lt b a) [
  | inl lt ↦ elim (cases_lt d c) [ inl lt' ↦ lt-leb lt ∙ sym (lt-leb lt') | inr le ↦ absurd (omega (arith, lt, g le)) ]
  | inr le ↦ le-leb le ∙ sym (le-leb (f le))
]
  where
    le-leb : {a b : ℕ} → a ≤ b → nat_le a b ≡ true
    le-leb le = grind (arith, nat_tests)

    lt-leb : {a b : ℕ} → b < a → nat_le a b ≡ false
    lt-leb lt = grind (arith, nat_tests)

take_twice : (n r : ℕ) (xs : List ℕ) → take r (take n xs) ≡ take (min n r) xs
take_twice n r xs = elim (cases_lt n r) [
  | inl lt ↦ let m : min n r ≡ n = omega (arith, lt) in rw m (take_all r (take n xs) (omega (arith, length-take n xs, lt)))
  | inr le ↦ let m : min n r ≡ r = omega (arith, le) in rw m (take-take r n xs le)
]

drop_twice : (n r : ℕ) (xs : List ℕ) → n ≤ length xs → drop r (take n xs) ≡ drop (min n r) (take n xs)
drop_twice n r xs le = elim (cases_lt n r) [
  | inl lt ↦ let m : min n r ≡ n = omega (arith, lt) in rw m (drop_all r (take n xs) (omega (arith, length-take n xs, lt)) ∙ sym (drop_all n (take n xs) (omega (arith, length-take n xs))))
  | inr le' ↦ let m : min n r ≡ r = omega (arith, le') in rw m refl
]

-- n bytes came
pub came_is : (room : Option ℕ) (n : ℕ) (buf ys xs : List ℕ) → n ≤ length buf → xs ≡ take n buf ++ ys
    → Came (record { room = room; hidden = [] }) xs (take (seen room n) buf) (record { room = room_after room (seen room n); hidden = drop (seen room n) (take n buf) }) ys
came_is None n buf ys xs le is = record {
  left = is;
  fenced = sym (ap (λ zs. zs ++ []) (drop_all n (take n buf) (omega (arith, length-take n buf))));
  reached = refl;
}
came_is (Some room) n buf ys xs le is =
    let long : length (take n buf) ≡ n = omega (arith, length-take n buf, le) in
    let rest : room - length (take n buf) ≡ room - min n room = omega (arith, long) in
    let many : length xs ≡ n + length ys = omega (arith, ap (λ (zs : List ℕ). length zs) is, length-append (take n buf) ys, long) in
    record {
      left = ap (take room) is ∙ take_over room (take n buf) ys ∙ ap (λ zs. zs ++ take (room - length (take n buf)) ys) (take_twice n room buf) ∙ ap (λ k. take (min n room) buf ++ take k ys) rest;
      fenced = ap (drop room) is ∙ drop_over room (take n buf) ys ∙ ap (λ zs. zs ++ drop (room - length (take n buf)) ys) (drop_twice n room buf le) ∙ ap (λ k. drop (min n room) (take n buf) ++ drop k ys) rest;
      reached = same_test (room - min n room) (length ys) room (length xs) (λ le. omega (arith, le, many)) (λ le. omega (arith, le, many));
    }

-- if no more came, all is as it was
pub came_none : (room : Option ℕ) (ys xs : List ℕ) → xs ≡ ys → Came (record { room = room; hidden = [] }) xs [] (record { room = room; hidden = [] }) ys
came_none room ys xs is = record { left = ap (allowed room) is; fenced = ap (forbidden room) is; reached = ap (reached room) (sym is) }

-- bytes are hidden only if no more may come
pub hidden_none : (room : Option ℕ) (end filled : ℕ) (bytes : List ℕ) → (room ≡ Some 0 → ⊥) → hides_late room end filled ≡ true → filled ≤ length bytes → drop end (take filled bytes) ≡ []
hidden_none None end filled bytes more late le = drop_all end (take filled bytes) (omega (arith, length-take filled bytes, eqb-true end filled late))
hidden_none (Some zero) end filled bytes more late le = absurd (more refl)
hidden_none (Some (suc n)) end filled bytes more late le = drop_all end (take filled bytes) (omega (arith, length-take filled bytes, eqb-true end filled late))

-- so a fence that lets more come hides none
pub hides_none : (room : Option ℕ) (end filled : ℕ) (bytes : List ℕ) (fence : Fence) → record { room = room; hidden = drop end (take filled bytes) } ≡ fence → (fence.room ≡ Some 0 → ⊥)
    → hides_late room end filled ≡ true → filled ≤ length bytes → record { room = room; hidden = [] } ≡ fence
hides_none room end filled bytes fence is more late le =
    ap (λ xs. record { room = room; hidden = xs }) (sym (hidden_none room end filled bytes (λ e. more (sym (ap (λ (f : Fence). f.room) is) ∙ e)) late le)) ∙ is

-- if nothing is to come, nothing is before such a fence or past it, and the reason is that of the end
pub none_allowed : (room : Option ℕ) (coming : List ℕ) → coming ≡ [] → allowed room coming ≡ []
none_allowed None coming e = e
none_allowed (Some zero) coming e = refl
none_allowed (Some (suc n)) coming e = rw e refl

pub none_forbidden : (room : Option ℕ) (coming : List ℕ) → coming ≡ [] → forbidden room coming ≡ []
none_forbidden None coming e = refl
none_forbidden (Some zero) coming e = e
none_forbidden (Some (suc n)) coming e = rw e refl

pub ends_short : (room : Option ℕ) (coming : List ℕ) (after : After) → (room ≡ Some 0 → ⊥) → coming ≡ [] → reason_of (reached room coming) after ≡ short_of after.fails
ends_short None coming after more e = refl
ends_short (Some zero) coming after more e = absurd (more refl)
ends_short (Some (suc n)) coming after more e = let late : nat_le (suc n) 0 ≡ false = grind (arith, nat_tests) in rw (e, late) refl

pub foretold : (o : Option (ℕ × Why)) → is_some o ≡ true → short_of o ≡ Read
foretold None e = absurd cc
foretold (Some f) e = refl

pub not_foretold : (o : Option (ℕ × Why)) → o ≡ None → short_of o ≡ Read → ⊥
not_foretold o is e = let t : short_of None ≡ Read = ap short_of (sym is) ∙ e in absurd cc

-- so those past the fence are the hidden ones and all to come, or there are none of these
pub lifted_list : (room : Option ℕ) (end filled : ℕ) (bytes coming : List ℕ) → hides_late room end filled ≡ true → filled ≤ length bytes
    → allowed room coming ++ (drop end (take filled bytes) ++ forbidden room coming) ≡ drop end (take filled bytes) ++ coming
lifted_list None end filled bytes coming late le = let none = hidden_none None end filled bytes (λ e. absurd cc) late le in rw none (append-nil coming)
lifted_list (Some zero) end filled bytes coming late le = refl
lifted_list (Some (suc n)) end filled bytes coming late le = let none = hidden_none (Some (suc n)) end filled bytes (λ e. absurd cc) late le in rw none (take-append-drop (suc n) coming)

-- n bytes that came leave this room after them
pub late_after : (room : Option ℕ) (n : ℕ) → hides_late (room_after room (seen room n)) (seen room n) n ≡ true
late_after None n = eq-eqb n n refl
late_after (Some room) n = elim (cases_lt room n) [
  | inl lt ↦ let m : min n room ≡ room = omega (arith, lt) in let z : room - room ≡ 0 = omega arith in rw (m, z) refl
  | inr le ↦ let m : min n room ≡ n = omega (arith, le) in rw m (same (room - n))
]
  where
    same : (k : ℕ) → hides_late (Some k) n n ≡ true
    same zero = refl
    same (suc k) = eq-eqb n n refl

pub drop_end : (n : ℕ) (xs : List ℕ) → drop n (take n xs) ≡ []
drop_end n xs = drop_all n (take n xs) (omega (arith, length-take n xs))

pub seen_fits : (room : Option ℕ) (n : ℕ) → seen room n ≤ n
seen_fits None n = omega arith
seen_fits (Some room) n = omega arith
