-- Lists of predictors: what is added to them, what they begin with, their orders, and how many blocks have one.
use Rattle.std.proofs.Common.{◌≡◌, ◌∙◌, sym, ap, subst, inl, inr, ℕ, suc, ◌+◌, ◌-◌, ◌*◌, ◌≤◌, ◌<◌, arith, Bool, true, false, cond, nat_eq, nat_lt, nat_le, List, [], ◌∷◌, ◌++◌, length, length-append, map, All, Vec, Global}
use Rattle.std.proofs.Math.Nat.{div-mul-le_self, mul-le-mul_right, suc-mul}
use Rattle.std.proofs.lemmas.Bool.{cases_Bool}
use Rattle.std.proofs.lemmas.Bool.Decides.{nat_tests}
use Rattle.std.proofs.lemmas.List.{append_assoc, append-nil, map-append}
use Rattle.std.proofs.lemmas.List.Elements.{All-nil, All-cons, All-append, All-map, All-push}
use Rattle.flac_header.specs.declared.subset.Profile.{Profile}
use Rattle.flac_header.specs.declared.subset.Profile.TheVariants.{Subset, Lax}
use Rattle.flac_subframe.specs.declared.format.linear.LinearPredictor.{LinearPredictor}
use Rattle.flac_subframe.specs.format.Bodies.{Chooses, order_of}
use Rattle.flac_subframe.specs.format.Handed.{coefficients_in, predictor_of, AreWithin}
use Rattle.flac_frame.specs.Audio.{Sound}
use Rattle.flac_frame.specs.Frame.{limits_at}
use Rattle.flac_native.specs.Given.{plane_lists}
use Rattle.flac_native.proofs.Predictors.{unmapped}
use Rattle.flac_predict.specs.Found.{IsPrefixOf, Extends, IsFoundAfter, lists_due, blocks_of}

-- ---- a list that grows

pub extends_none : (xs : List LinearPredictor) → Extends xs xs
extends_none xs = ([], sym (append-nil xs), All-nil (λ p. length (coefficients_in p) ≤ 12))

-- a list that is the same, and one to which a predictor of few coefficients was pushed
pub extends_same : (xs ys : List LinearPredictor) → ys ≡ xs → Extends xs ys
extends_same xs ys e = ([], e ∙ sym (append-nil xs), All-nil (λ p. length (coefficients_in p) ≤ 12))

pub extends_push : (xs ys : List LinearPredictor) (x : LinearPredictor) → ys ≡ xs ++ x ∷ [] → length (coefficients_in x) ≤ 12 → Extends xs ys
extends_push xs ys x e few = (x ∷ [], e, All-cons (λ p. length (coefficients_in p) ≤ 12) x [] few (All-nil (λ p. length (coefficients_in p) ≤ 12)))

pub extends_more : (xs ys zs : List LinearPredictor) → Extends xs ys → Extends ys zs → Extends xs zs
extends_more xs ys zs (first, e, few) (second, f, less) = (
  first ++ second,
  f ∙ ap (λ (l : List LinearPredictor). l ++ second) e ∙ append_assoc xs first second,
  All-append (λ p. length (coefficients_in p) ≤ 12) first second few less,
)

-- ---- orders

-- the same predictors have the same orders
pub same_orders : (limit : ℕ) (xs ys : List LinearPredictor) → map predictor_of ys ≡ map predictor_of xs → AreWithin limit xs → AreWithin limit ys
same_orders limit xs ys e h =
    let few : Chooses → Type 0 = λ c. order_of c ≤ limit in
    unmapped few predictor_of ys (subst (All few) (sym e) (All-map few predictor_of xs h))

at_least : (a b : ℕ) (ps : List LinearPredictor) → a ≤ b → AreWithin a ps → AreWithin b ps
at_least a b ps le h = λ i d lt. omega (arith, le, h i d lt)

either : (slow : Bool) → 12 ≤ cond slow 12 32
either true = omega arith
either false = omega arith

-- each profile allows order 12 at each rate
pub twelve : (p : Profile) (rate : ℕ) → 12 ≤ (limits_at p rate).linear
twelve Subset rate = either (nat_le rate 48000)
twelve Lax rate = omega arith

-- ---- a list for a block

-- what was added to a copy of those given begins with them
pub begins : (given copy list : List LinearPredictor) → map predictor_of copy ≡ map predictor_of given → Extends copy list → IsPrefixOf given list
begins given copy list same (more, e, few) =
    (map predictor_of more, ap (λ (l : List LinearPredictor). map predictor_of l) e ∙ map-append predictor_of copy more ∙ ap (λ l. l ++ map predictor_of more) same)

pub within : (p : Profile) (rate : ℕ) (given copy list : List LinearPredictor) → map predictor_of copy ≡ map predictor_of given → Extends copy list → AreWithin (limits_at p rate).linear given → AreWithin (limits_at p rate).linear list
within p rate given copy list same (more, e, few) h =
    let limit = (limits_at p rate).linear in
    subst (AreWithin limit) (sym e) (All-append (λ q. length (coefficients_in q) ≤ limit) copy more (same_orders limit given copy same h) (at_least 12 limit more (twelve p rate) few))

-- a list to which nothing was added yet, and one to which more was
pub found_none : (given copy : List LinearPredictor) → map predictor_of copy ≡ map predictor_of given → IsFoundAfter given copy
found_none given copy same = (copy, same, extends_none copy)

pub found_more : (given old new : List LinearPredictor) → IsFoundAfter given old → Extends old new → IsFoundAfter given new
found_more given old new (copy, same, before) more = (copy, same, extends_more copy old new before more)

-- ---- lists for planes and for frames

abbrev pub items : Vec LinearPredictor Global → List LinearPredictor
items l = l.items

abbrev pub lists_items : Vec (Vec LinearPredictor Global) Global → List (List LinearPredictor)
lists_items f = plane_lists f.items

-- lists that were added to, one by one
pub all_pushed : {X Y : Type 0} (f : X → Y) (P : Y → Type 0) (old new : List X) (x : X) → new ≡ old ++ x ∷ [] → All P (map f old) → P (f x) → All P (map f new)
all_pushed f P old new x e h one = subst (λ l. All P (map f l)) (sym e) (subst (All P) (sym (map-append f old (x ∷ []))) (All-push P (map f old) (f x) h one))

pub none_mapped : {X Y : Type 0} (f : X → Y) (P : Y → Type 0) (xs : List X) → xs ≡ [] → All P (map f xs)
none_mapped f P xs e = subst (λ l. All P (map f l)) (sym e) (All-nil P)

pub one_more : {X : Type 0} (old new : List X) (x : X) (n : ℕ) → new ≡ old ++ x ∷ [] → length old ≡ n → length new ≡ n + 1
one_more old new x n e many = ap (λ l. length l) e ∙ length-append old (x ∷ []) ∙ ap (λ k. k + 1) many

-- what is found after those given begins with them
begins_after : (given list : List LinearPredictor) → IsFoundAfter given list → IsPrefixOf given list
begins_after given list (copy, same, more) = begins given copy list same more

within_after : (p : Profile) (rate : ℕ) (given list : List LinearPredictor) → AreWithin (limits_at p rate).linear given → IsFoundAfter given list → AreWithin (limits_at p rate).linear list
within_after p rate given list few (copy, same, more) = within p rate given copy list same more few

pub all_begin : (given : List LinearPredictor) (lists : List (List LinearPredictor)) → All (IsFoundAfter given) lists → All (IsPrefixOf given) lists
all_begin given lists h = λ i d lt. begins_after given _ (h i d lt)

pub all_within : (p : Profile) (rate : ℕ) (given : List LinearPredictor) (lists : List (List LinearPredictor)) → AreWithin (limits_at p rate).linear given → All (IsFoundAfter given) lists → All (AreWithin (limits_at p rate).linear) lists
all_within p rate given lists few h = λ i d lt. within_after p rate given _ few (h i d lt)

-- how many lists a block has
pub due_none : (a : Sound) (size n : ℕ) → size < 64 → n ≡ 0 → n ≡ lists_due a size
due_none a size n few e = let short : nat_lt size 64 ≡ true = grind (arith, nat_tests) in rw short e

due_each : (channels n : ℕ) → (channels ≡ 2 → n ≡ 4) → ((channels ≡ 2 → ⊥) → n ≡ channels) → n ≡ cond (nat_eq channels 2) 4 channels
due_each channels n pair apart = elim (cases_Bool (nat_eq channels 2)) [
  | inl e ↦ let two : channels ≡ 2 = grind (arith, nat_tests) in rw e (pair two)
  | inr e ↦ let other : channels ≡ 2 → ⊥ = λ two. grind (arith, nat_tests) in rw e (apart other)
]

pub due_is : (a : Sound) (size n : ℕ) → 64 ≤ size → (length a.channels ≡ 2 → n ≡ 4) → ((length a.channels ≡ 2 → ⊥) → n ≡ length a.channels) → n ≡ lists_due a size
due_is a size n enough pair apart = let long : nat_lt size 64 ≡ false = grind (arith, nat_tests) in rw long (due_each (length a.channels) n pair apart)

-- a block begins before the end
pub starts : (b total number : ℕ) → 0 < b → number < blocks_of b total → number * b < total
starts b total number some h =
    let up : suc number * b ≤ blocks_of b total * b = mul-le-mul_right b h in
    omega (arith, some, suc-mul number b, up, div-mul-le_self (total + (b - 1)) b)
