-- A loop that reads a list.
use Rattle.std.proofs.Common.{◌≡◌, ℕ, suc, ◌+◌, ◌-◌, ◌<◌, ◌≤◌, List, [], ◌∷◌, ◌++◌, Result, Ok, Err, refl, sym, ap, ◌∙◌, arith, append_assoc}
use Rattle.std.proofs.lemmas.List.{append-nil}
use Rattle.flac_bits.specs.State.{Cursor}
use Rattle.flac_bits.specs.Layout.{Layout, run, and_then, Reason}
use Rattle.flac_bits.specs.Lists.{list_of, after}

and_then_after : {A : Type 0} (r : Result (List A × Cursor) Reason) (front : List A) (x : A) → and_then (and_then r (λ xs d. Ok (x ∷ xs, d))) (after front) ≡ and_then r (after (front ++ x ∷ []))
unfolding after
and_then_after (Ok (xs, d)) front x = ap (λ ys. okay (ys, d)) (sym (append_assoc front (x ∷ []) xs))
  where
    okay : {B : Type 0} → B × Cursor → Result (B × Cursor) Reason
    okay y = Ok y
and_then_after (Err e) front x = refl

and_then_and_then : {A B C : Type 0} (r : Result (A × Cursor) Reason) (f : A → Cursor → Result (B × Cursor) Reason) (g : B → Cursor → Result (C × Cursor) Reason) → and_then (and_then r f) g ≡ and_then r (λ x d. and_then (f x d) g)
and_then_and_then (Ok x) f g = refl
and_then_and_then (Err e) f g = refl

same_then : {A B : Type 0} (r : Result (A × Cursor) Reason) (f g : A → Cursor → Result (B × Cursor) Reason) → ((x : A) (d : Cursor) → f x d ≡ g x d) → and_then r f ≡ and_then r g
same_then (Ok x) f g h = h x.0 x.1
same_then (Err e) f g h = refl

-- one more is read
pub list_more : {A : Type 0} (n i : ℕ) (l : Layout A) (c : Cursor) (front : List A) → i < n
    → and_then (run (list_of (n - i) l) c) (after front) ≡ and_then (run l c) (λ x d. and_then (run (list_of (n - (i + 1)) l) d) (after (front ++ x ∷ [])))
unfolding list_of
list_more n i l c front lt =
    let k : n - i ≡ suc (n - (i + 1)) = omega arith in
    rw k (and_then_and_then (run l c) (λ x d. and_then (run (list_of (n - (i + 1)) l) d) (λ xs d'. Ok (x ∷ xs, d'))) (after front)
    ∙ same_then (run l c) _ _ (λ x d. and_then_after (run (list_of (n - (i + 1)) l) d) front x))

pub list_end : {A : Type 0} (n i : ℕ) (l : Layout A) (c : Cursor) (front : List A) → n ≤ i → and_then (run (list_of (n - i) l) c) (after front) ≡ Ok (front, c)
unfolding list_of after
list_end n i l c front le =
    let k : n - i ≡ 0 = omega arith in
    rw k (ap (λ ys. okay (ys, c)) (append-nil front))
  where
    okay : {B : Type 0} → B × Cursor → Result (B × Cursor) Reason
    okay y = Ok y

pub list_start : {A : Type 0} (r : Result (List A × Cursor) Reason) → and_then r (after []) ≡ r
unfolding after
list_start (Ok x) = refl
list_start (Err e) = refl
