-- Comments that are the same.
use Rattle.std.proofs.Common.{◌≡◌, ◌&&◌, Bool, true, false, nat_eq, ℕ, List, refl, subst}
use Rattle.std.specs.Cmp.Lexicographic.{pointwise, pointwise_decides, bytes_decides}
use Rattle.flac_meta.specs.declared.comments.Comments.{Comments}

and_first : (a b : Bool) → (a && b) ≡ true → a ≡ true
and_first true b h = refl
and_first false b h = h

and_second : (a b : Bool) → (a && b) ≡ true → b ≡ true
and_second true b h = h
and_second false b h = absurd cc

and_both : (a b : Bool) → a ≡ true → b ≡ true → (a && b) ≡ true
and_both a b p q = rw (p, q) refl

text_decides : (xs ys : List ℕ) → (pointwise nat_eq xs ys ≡ true → xs ≡ ys) × (xs ≡ ys → pointwise nat_eq xs ys ≡ true)
text_decides xs ys = bytes_decides xs ys

texts_decide : (xs ys : List (List ℕ)) → (pointwise (pointwise nat_eq) xs ys ≡ true → xs ≡ ys) × (xs ≡ ys → pointwise (pointwise nat_eq) xs ys ≡ true)
texts_decide xs ys = pointwise_decides bytes_decides xs ys

-- what a test of two comments says
abbrev are_equal : Comments → Comments → Bool
are_equal one other = pointwise nat_eq one.vendor other.vendor && pointwise (pointwise nat_eq) one.list other.list

same_fields : (one other : Comments) → one.vendor ≡ other.vendor → one.list ≡ other.list → one ≡ other
same_fields one other v l = λ i. record { vendor = v i; list = l i }

are_itself : (one : Comments) → are_equal one one ≡ true
are_itself one = and_both (pointwise nat_eq one.vendor one.vendor) (pointwise (pointwise nat_eq) one.list one.list) ((text_decides one.vendor one.vendor).1 refl) ((texts_decide one.list one.list).1 refl)

pub comments_decide : (one other : Comments) → (are_equal one other ≡ true → one ≡ other) × (one ≡ other → are_equal one other ≡ true)
comments_decide one other =
    let v = pointwise nat_eq one.vendor other.vendor in
    let l = pointwise (pointwise nat_eq) one.list other.list in (
      λ e. same_fields one other ((text_decides one.vendor other.vendor).0 (and_first v l e)) ((texts_decide one.list other.list).0 (and_second v l e)),
      λ e. subst (λ (c : Comments). are_equal one c ≡ true) e (are_itself one),
    )
