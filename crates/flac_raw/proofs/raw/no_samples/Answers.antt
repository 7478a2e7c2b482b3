use Rattle.std.proofs.Common.{◌≡◌, ◌≤◌, ◌+◌, ◌∙◌, ℕ, zero, suc, List, [], ◌∷◌, ◌++◌, length, map, get_or, refl, ap, arith}
use Rattle.std.proofs.lemmas.List.{length_push}
use Rattle.std.proofs.lemmas.Result.{err_from_is_err_and}
use Rattle.flac_raw.proofs.raw.no_samples.Goals as goal

none_pushed : {A B : Type 0} (f : A → List B) (xs : List A) (x : A) → f x ≡ [] → ((c : ℕ) → get_or (map f xs) c [] ≡ []) → (c : ℕ) → get_or (map f (xs ++ x ∷ [])) c [] ≡ []
none_pushed f [] x none held zero = none
none_pushed f [] x none held (suc c) = refl
none_pushed f (y ∷ ys) x none held zero = held zero
none_pushed f (y ∷ ys) x none held (suc c) = none_pushed f ys x none (λ k. held (suc k)) c

-- one list more
one_more : {A B : Type 0} (f : A → List B) (xs ys : List A) (x : A) → ys ≡ xs ++ x ∷ [] → f x ≡ [] → ((c : ℕ) → get_or (map f xs) c [] ≡ []) → (c : ℕ) → get_or (map f ys) c [] ≡ []
one_more f xs ys x pushed none held c = ap (λ l. get_or (map f l) c []) pushed ∙ none_pushed f xs x none held c

longer : {A : Type 0} (xs ys : List A) (x : A) (n : ℕ) → ys ≡ xs ++ x ∷ [] → length xs ≡ n → length ys ≡ n + 1
longer xs ys x n pushed many = omega (arith, ap length pushed, length_push xs x, many)

no_lists : {A B : Type 0} (f : A → List B) (xs : List A) → xs ≡ [] → (c : ℕ) → get_or (map f xs) c [] ≡ []
no_lists f xs none c = ap (λ l. get_or (map f l) c []) none

all_pushed : (n k m : ℕ) → n ≡ k → m ≤ k → k ≤ m → n ≡ m
all_pushed n k m is all few = omega (arith, is, all, few)

pub loop-channel-init : goal.loop-channel-init
loop-channel-init c = record {
  many = ap length c.in_ok-lists.ensures.items;
  none = no_lists (λ v. v.items) c.in_ok-lists.lists.items c.in_ok-lists.ensures.items;
}

pub loop-channel-preserved : goal.loop-channel-preserved
loop-channel-preserved c = record {
  many = longer c.loop-channel.lists.items c.push.new.self.items _ c.loop-channel.channel c.in_ok-push.ensures.items c.loop-channel.invariant.many;
  none = one_more (λ v. v.items) c.loop-channel.lists.items c.push.new.self.items _ c.in_ok-push.ensures.items c.new.ensures.items c.loop-channel.invariant.none;
}

pub returns : goal.returns
returns c = record {
  many = all_pushed _ _ _ c.loop-channel.invariant.many c.loop-channel-test.false c.loop-channel.auto.channel-end;
  none = c.loop-channel.invariant.none;
  memory = tt;
}

pub returns-in_err-lists : goal.returns-in_err-lists
returns-in_err-lists c =
    let p = err_from_is_err_and c.from_residual.result c.from_residual.ensures.1 in
    rw (p.1, p.2) (record { many = tt; none = tt; memory = refl })

pub returns-in_err-push : goal.returns-in_err-push
returns-in_err-push c =
    let p = err_from_is_err_and c.from_residual-in_err-push.result c.from_residual-in_err-push.ensures.1 in
    rw (p.1, p.2) (record { many = tt; none = tt; memory = refl })
