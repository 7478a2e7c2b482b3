-- Cutting bytes into pieces.
use Rattle.std.proofs.Common.{◌≡◌, ◌<◌, ◌++◌, ◌∷◌, [], ℕ, Bool, true, List, length, take, drop, refl, sym, ap, ◌∙◌, append_assoc, arith}
use Rattle.std.specs.Prelude.{◌==◌}
use Rattle.std.proofs.lemmas.Bool.{eqb-true}
use Rattle.std.proofs.lemmas.List.{append-nil}
use Rattle.flac_wave.specs.Cuts.{AreCuts, piece_len}

-- these were cut off, and what is cut of the rest completes them
pub record CutSoFar (old now : List (List ℕ)) (bytes rest : List ℕ) : Type 0 where
  pub done : List (List ℕ)
  pub pieces : now ≡ old ++ done
  pub completes : (ps : List (List ℕ)) → AreCuts ps rest → AreCuts (done ++ ps) bytes

pub cut_first : (old : List (List ℕ)) (bytes : List ℕ) → CutSoFar old old bytes bytes
cut_first old bytes = record { done = []; pieces = sym (append-nil old); completes = λ ps h. h }

pub cut_next : (old now new : List (List ℕ)) (bytes rest more p : List ℕ) → CutSoFar old now bytes rest → 0 < length rest → p ≡ take (piece_len rest) rest → more ≡ drop (piece_len rest) rest → new ≡ now ++ p ∷ [] → CutSoFar old new bytes more
cut_next old now new bytes rest more p s some is left push = record {
  done = s.done ++ p ∷ [];
  pieces = push ∙ ap (λ l. l ++ p ∷ []) s.pieces ∙ append_assoc old s.done (p ∷ []);
  completes = λ ps h. rw (append_assoc s.done (p ∷ []) ps) (s.completes (p ∷ ps) (some, is, rw (← left) h));
}

pub cut_last : (old now : List (List ℕ)) (bytes rest : List ℕ) → CutSoFar old now bytes rest → rest ≡ [] → (ps : List (List ℕ)) × (now ≡ old ++ ps) × AreCuts ps bytes
cut_last old now bytes rest s none = (s.done, s.pieces, rw (append-nil s.done) at (s.completes [] none))

-- a slice that is empty
pub empty_rest : (xs : List ℕ) (b : Bool) → b ≡ (length xs == 0) → b ≡ true → xs ≡ []
empty_rest [] b is e = refl
empty_rest (x ∷ xs) b is e = absurd (omega (arith, eqb-true (length (x ∷ xs)) 0 (sym is ∙ e)))
