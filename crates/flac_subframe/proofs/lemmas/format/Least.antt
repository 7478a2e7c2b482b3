-- The least of a family, of two families, and of lists of parts.
use Rattle.std.proofs.Common.{◌≡◌, ◌⊎◌, inl, inr, ℕ, ◌+◌, ◌≤◌, arith, List, ◌∷◌}
use Rattle.flac_subframe.specs.format.Least.{IsLeast}

-- the lesser of two is the least of both families
pub least_left : {A : Type 0} (M N : A → Type 0) (cost : A → ℕ) (a b : A) → IsLeast M cost a → IsLeast N cost b → cost a ≤ cost b → IsLeast (λ x. M x ⊎ N x) cost a
least_left M N cost a b p q h = record { member = inl p.member; least = λ x m. elim m [ inl w ↦ p.least x w | inr w ↦ omega (arith, q.least x w) ] }

pub least_right : {A : Type 0} (M N : A → Type 0) (cost : A → ℕ) (a b : A) → IsLeast M cost a → IsLeast N cost b → cost b ≤ cost a → IsLeast (λ x. M x ⊎ N x) cost b
least_right M N cost a b p q h = record { member = inr q.member; least = λ x m. elim m [ inl w ↦ omega (arith, p.least x w) | inr w ↦ q.least x w ] }

-- the least of a sum with independent parts is the sum of the leasts
pub least_pair : {A B : Type 0} (M : A → Type 0) (N : B → Type 0) (c : A → ℕ) (d : B → ℕ) (a : A) (b : B) → IsLeast M c a → IsLeast N d b → IsLeast (λ (x : A × B). M x.0 × N x.1) (λ (x : A × B). c x.0 + d x.1) (a, b)
least_pair M N c d a b p q = record { member = (p.member, q.member); least = λ x m. omega (arith, p.least x.0 m.0, q.least x.1 m.1) }

-- the same for a list of parts: its first part, and the rest
pub least_cons : {A : Type 0} (M : A → Type 0) (N L : List A → Type 0) (c : A → ℕ) (d e : List A → ℕ) (a : A) (as' : List A) →
    ((x : A) (xs : List A) → M x → N xs → L (x ∷ xs)) → ((ys : List A) → L ys → (x : A) × (xs : List A) × (ys ≡ x ∷ xs) × M x × N xs) →
    ((x : A) (xs : List A) → e (x ∷ xs) ≡ c x + d xs) → IsLeast M c a → IsLeast N d as' → IsLeast L e (a ∷ as')
least_cons M N L c d e a as' make split sum p q = record {
  member = make a as' p.member q.member;
  least = λ ys m. let s = split ys m in
      let is : ys ≡ s.0 ∷ s.1 = s.2 in
      rw is (rw (sum, sum) (omega (arith, p.least s.0 s.3, q.least s.1 s.4)));
}
