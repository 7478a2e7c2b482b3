-- A plan with the predictors that were found.
use Rattle.std.proofs.Common.{◌≡◌, ◌↔◌, ℕ, List, Option, Some, None, refl, subst, Bool, true}
use Rattle.flac_meta.specs.declared.block.Block.{Block}
use Rattle.flac_native.specs.Given.{Cut, with_found}
use Rattle.flac_ogg.specs.RoundTrip.{is_no_ogg, is_repeated}
use Rattle.flac_predict.specs.declared.search.Search.{Search}
use Rattle.flac_c.specs.Encoded.{IsSearched}

abbrev searched_by : Search → Option Search
searched_by s = Some s

pub none_sought : (s : Search) → searched_by s ≡ None → ⊥
none_sought s e = absurd cc

-- the container is refused for the same reasons
module _ (effort : ℕ) (plan tried : Cut) (s : IsSearched effort plan tried) (n : Option ℕ) (l : List Block) where
  same_ogg : (m : Option ℕ) → is_no_ogg m (with_found plan s.found) l ≡ is_no_ogg m plan l
  same_ogg None = refl
  same_ogg (Some k) = refl

  same_table : (m : Option ℕ) → is_repeated m (with_found plan s.found) l ≡ is_repeated m plan l
  same_table None = refl
  same_table (Some k) = refl

  pub mapping_same : {X : Type 0} → (X ↔ (is_no_ogg n tried l ≡ true)) → X ↔ (is_no_ogg n plan l ≡ true)
  mapping_same {X} h = subst (λ (b : Bool). X ↔ (b ≡ true)) (same_ogg n) (subst (λ (p : Cut). X ↔ (is_no_ogg n p l ≡ true)) s.is h)

  pub repeated_same : {X : Type 0} → (X ↔ (is_repeated n tried l ≡ true)) → X ↔ (is_repeated n plan l ≡ true)
  repeated_same {X} h = subst (λ (b : Bool). X ↔ (b ≡ true)) (same_table n) (subst (λ (p : Cut). X ↔ (is_repeated n p l ≡ true)) s.is h)
