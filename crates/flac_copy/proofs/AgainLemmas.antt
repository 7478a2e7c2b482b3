-- Bytes that are given again.
use Rattle.std.proofs.Common.{◌≡◌, ℕ, ◌+◌, Bool, true, false, not, List, [], ◌∷◌, ◌++◌, length, take, drop, refl, ap, sym, ◌∙◌}
use Rattle.std.proofs.lemmas.List.{drop-drop}
use Rattle.flac_bits.specs.declared.source.Source as source
use Rattle.flac_copy.specs.Again.{HoldsMore, SaysOver}
use Rattle.flac_copy.specs.declared.again.Again.{Again}

-- n of the bytes that are held were copied to the front of a buffer
pub given_again : (given n : ℕ) (held left buf : List ℕ) → left ≡ drop given held → left ≡ take n buf ++ drop n left
    → drop given held ≡ take n buf ++ drop (given + n) held
given_again given n held left buf is copied =
    sym is ∙ copied ∙ ap (λ k. take n buf ++ drop n k) is ∙ ap (λ k. take n buf ++ k) (drop-drop n given held)

no_items : (xs : List ℕ) → length xs ≡ 0 → xs ≡ []
no_items [] e = refl
no_items (x ∷ xs) e = absurd cc

-- no byte was held, and further bytes were pulled, or there are none
pub over_of : {S : Type 0} (g : source.Ghosts S) (old new : Again S) (more : Bool) → HoldsMore g old new more → length old.held.items ≡ 0 → new.given ≡ old.given → SaysOver g old new (not more)
over_of g old new true h none given = (h.0, given, λ is. absurd cc)
over_of g old new false h none given = (h.0, given, λ is known. ap (λ l. l ++ g.coming old.source) (no_items old.held.items none) ∙ h.1 known)
