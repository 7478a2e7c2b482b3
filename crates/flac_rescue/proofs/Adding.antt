-- What calls one after another add.
use Rattle.std.proofs.Common.{◌≡◌, List, ◌++◌, ℕ, ap, ◌∙◌, append_assoc}

pub more : (old v w a b : List ℕ) → v ≡ old ++ a → w ≡ v ++ b → w ≡ old ++ (a ++ b)
more old v w a b e f = f ∙ ap (λ (l : List ℕ). l ++ b) e ∙ append_assoc old a b
