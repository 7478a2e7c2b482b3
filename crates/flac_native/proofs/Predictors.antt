-- Linear predictors that can be tried.
use Rattle.std.proofs.Common.{◌≡◌, ℕ, ◌<◌, ◌≤◌, Bool, true, false, not, cond, ◌&&◌, nat_lt, nat_le, List, [], ◌∷◌, length, map, take, get_or, All, Vec, Global, IsTrue, ◌↔◌, Some, None, refl, sym, subst, inl, inr, Option, arith}
use Rattle.std.proofs.lemmas.Bool.{cases_Bool, not-false}
use Rattle.std.proofs.lemmas.Bool.Decides.{nat_tests}
use Rattle.std.proofs.lemmas.List.{take_all}
use Rattle.std.proofs.lemmas.List.Elements.{All-nil, All-cons, All-head, All-tail, All-map}
use Rattle.flac_header.specs.declared.subset.Profile.{Profile}
use Rattle.flac_header.specs.declared.subset.Profile.TheVariants.{Subset, Lax}
use Rattle.flac_subframe.specs.format.Handed.{coefficients_in, AreWithin}
use Rattle.flac_subframe.specs.declared.format.linear.LinearPredictor.{LinearPredictor}
use Rattle.flac_frame.specs.Encoding.{most_in}
use Rattle.flac_frame.specs.Frame.{limits_at}
use Rattle.flac_frame.specs.declared.setup.SetupFault.TheVariants.{PredictorOrder, TooManyPredictors}
use Rattle.flac_native.specs.Given.{orders_fit, predictors_fault, plane_lists}

-- ---- the orders

abbrev IsWithin : ℕ → LinearPredictor → Type 0
IsWithin n p = length (coefficients_in p) ≤ n

both : (a b : Bool) → (a && b) ≡ true → (a ≡ true) × (b ≡ true)
both true b e = (refl, e)
both false b e = absurd cc

joined : (a b : Bool) → a ≡ true → b ≡ true → (a && b) ≡ true
joined a b e f = rw (e, f) refl

at_most : (a n : ℕ) → nat_le a n ≡ true → a ≤ n
at_most a n e = grind (arith, nat_tests)

is_most : (a n : ℕ) → a ≤ n → nat_le a n ≡ true
is_most a n e = grind (arith, nat_tests)

orders_are : (n : ℕ) (ps : List LinearPredictor) → orders_fit n ps ≡ true → AreWithin n ps
orders_are n [] e = All-nil (IsWithin n)
orders_are n (p ∷ ps) e = let b = both (nat_le (length (coefficients_in p)) n) (orders_fit n ps) e in All-cons (IsWithin n) p ps (at_most (length (coefficients_in p)) n b.0) (orders_are n ps b.1)

orders_back : (n : ℕ) (ps : List LinearPredictor) → AreWithin n ps → orders_fit n ps ≡ true
orders_back n [] h = refl
orders_back n (p ∷ ps) h =
    joined (nat_le (length (coefficients_in p)) n) (orders_fit n ps) (is_most (length (coefficients_in p)) n (All-head (IsWithin n) p ps h)) (orders_back n ps (All-tail (IsWithin n) p ps h))

none_here : {A : Type 0} (b : Bool) (x : A) (rest : Option A) → cond b (Some x) rest ≡ None → (b ≡ false) × (rest ≡ None)
none_here true x rest e = absurd cc
none_here false x rest e = (refl, e)

-- what can be tried has orders that the profile allows
pub within : (profile : Profile) (rate : ℕ) (ps : List LinearPredictor) → predictors_fault profile rate ps ≡ None → AreWithin (limits_at profile rate).linear ps
unfolding predictors_fault
within profile rate ps e =
    let a = none_here (nat_lt 64 (length ps)) TooManyPredictors _ e in
    let b = none_here (not (orders_fit (limits_at profile rate).linear ps)) PredictorOrder None a.1 in
    orders_are (limits_at profile rate).linear ps (not-false _ b.0)

-- an empty list can always be tried
pub none_tried : (profile : Profile) (rate : ℕ) (ps : List LinearPredictor) → ps ≡ [] → predictors_fault profile rate ps ≡ None
unfolding predictors_fault
none_tried profile rate ps is = rw is refl

-- ---- the tests

module _ (profile : Profile) (rate : ℕ) (ps : List LinearPredictor) where
  pub too_many : 64 < length ps → Some TooManyPredictors ≡ predictors_fault profile rate ps
  unfolding predictors_fault
  too_many h = let e : nat_lt 64 (length ps) ≡ true = grind (arith, nat_tests) in rw e refl

  few_enough : length ps ≤ 64 → nat_lt 64 (length ps) ≡ false
  few_enough h = grind (arith, nat_tests)

  pub too_large : length ps ≤ 64 → (limit : ℕ) (r : Bool) → limit ≡ (limits_at profile rate).linear → IsTrue r ↔ AreWithin limit ps → r ≡ false → Some PredictorOrder ≡ predictors_fault profile rate ps
  unfolding predictors_fault
  too_large few limit r is test wrong = elim (cases_Bool (orders_fit (limits_at profile rate).linear ps)) [
    | inl e ↦
        let right : r ≡ true = test.1 (subst (λ n. AreWithin n ps) (sym is) (orders_are (limits_at profile rate).linear ps e)) in
        absurd cc
    | inr e ↦ let f : nat_lt 64 (length ps) ≡ false = few_enough few in rw (f, e) refl
  ]

  pub can_be_tried : length ps ≤ 64 → (limit : ℕ) (r : Bool) → limit ≡ (limits_at profile rate).linear → IsTrue r ↔ AreWithin limit ps → r ≡ true → None ≡ predictors_fault profile rate ps
  unfolding predictors_fault
  can_be_tried few limit r is test right =
      let e : orders_fit (limits_at profile rate).linear ps ≡ true = orders_back (limits_at profile rate).linear ps (subst (λ n. AreWithin n ps) is (test.0 right)) in
      let f : nat_lt 64 (length ps) ≡ false = few_enough few in
      rw (f, e) refl

-- ---- the partition orders

-- a profile allows the same partition orders at each rate
pub partition_is : (profile : Profile) (rate : ℕ) → (limits_at profile rate).partition ≡ most_in profile
partition_is Subset rate = refl
partition_is Lax rate = refl

-- ---- lists in vectors

abbrev pub predictors_of : Vec LinearPredictor Global → List LinearPredictor
predictors_of v = v.items

abbrev pub lists_of_frame : Vec (Vec LinearPredictor Global) Global → List (List LinearPredictor)
lists_of_frame f = plane_lists f.items

-- what holds of all that vectors hold holds of each vector
module _ {X Y : Type 0} (P : Y → Type 0) (f : X → Y) where
  pub unmapped : (xs : List X) → All P (map f xs) → All (λ x. P (f x)) xs
  unmapped [] h = All-nil (λ x. P (f x))
  unmapped (x ∷ xs) h = All-cons (λ x. P (f x)) x xs (All-head P (f x) (map f xs) h) (unmapped xs (All-tail P (f x) (map f xs) h))

  pub all_taken : (xs : List X) (i : ℕ) → length xs ≤ i → All (λ x. P (f x)) (take i xs) → All P (map f xs)
  all_taken xs i over all = All-map P f xs (subst (All (λ x. P (f x))) (take_all i xs over) all)

  pub one_taken : (xs : List X) (i : ℕ) (x : X) → All P (map f xs) → i < length xs → x ≡ get_or xs i x → P (f x)
  one_taken xs i x all lt is = subst (λ y. P (f y)) (sym is) (unmapped xs all i x lt)
