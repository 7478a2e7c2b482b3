-- Files with what an older report has of them.
use Rattle.std.proofs.Common.{◌≡◌, ◌∷◌, ℕ, Bool, true, false, List, [], cond, map, refl, ap, ◌∙◌, sym}
use Rattle.std.proofs.lemmas.Map.Text.{is_eq-slice_cmp}
use Rattle.std.specs.BTreeMap.{is_at}
use Rattle.std.specs.BTreeSet.{insert_key}
use Rattle.std.specs.Cmp.Lexicographic.{slice_cmp}
use Rattle.std.specs.Ordering.{match_ordering, nat_cmp}
use Rattle.std.specs.declared.cmp.Ordering.{Ordering}
use Rattle.std.specs.declared.cmp.Ordering.TheVariants.{Less, Equal, Greater}
use Rattle.std.specs.Set.{remove_key}
use Rattle.std.specs.Str.{bytes_eq}
use Rattle.std.specs.Prelude.{String}
use Rattle.std.specs.String.{string_bytes, string_cmp}
use Rattle.flac_shelf.specs.Listed.{Listed}
use Rattle.flac_shelf.specs.Records.{with_path, without, without_all}

-- two functions that are equal on each file
same_map : (f h : Listed → Listed) → ((x : Listed) → h x ≡ f x) → (files : List Listed) → map f files ≡ map h files
same_map f h same [] = refl
same_map f h same (x ∷ xs) = ap (λ y. y ∷ map f xs) (sym (same x)) ∙ ap (λ ys. h x ∷ ys) (same_map f h same xs)

pub compared_next : (f h : Listed → Listed) → ((x : Listed) → h x ≡ f x) → (there : Bool) (files more : List Listed) (at : Listed) → files ≡ cond there (at ∷ more) [] → map f files ≡ cond there (h at ∷ map h more) []
compared_next f h same true files more at is = ap (map f) is ∙ same_map f h same (at ∷ more)
compared_next f h same false files more at is = ap (map f) is

-- no file comes after the last
pub compared_over : (f : Listed → Listed) (more : List Listed) → more ≡ [] → map f more ≡ []
compared_over f more none = ap (map f) none

-- a file that comes is taken out of the paths that are left
pub gone_next : (there : Bool) (files more : List Listed) (at : Listed) (path : List ℕ) (was left : List (List ℕ)) → there ≡ true → files ≡ cond there (at ∷ more) [] → path ≡ at.path → left ≡ without path was
    → without_all more left ≡ without_all files was
gone_next true files more at path was left holds is same met = ap (without_all more) (met ∙ ap (λ p. without p was) same) ∙ sym (ap (λ fs. without_all fs was) is)
gone_next false files more at path was left holds is same met = absurd cc

pub gone_over : (there : Bool) (files more : List Listed) (at : Listed) (left : List (List ℕ)) → there ≡ false → files ≡ cond there (at ∷ more) [] → more ≡ [] → without_all more left ≡ without_all files left
gone_over true files more at left fails is none = absurd cc
gone_over false files more at left fails is none = ap (λ fs. without_all fs left) none ∙ sym (ap (λ fs. without_all fs left) is)

module _ {Y : Type 0} (path : List ℕ) where
  removed_step : (k : String Y) (ks : List (String Y)) (rest : List (List ℕ)) (kept : List (String Y)) → map string_bytes kept ≡ rest → (b : Bool)
      → map string_bytes (cond b ks (k ∷ kept)) ≡ cond b (map string_bytes ks) (string_bytes k ∷ rest)
  removed_step k ks rest kept is true = refl
  removed_step k ks rest kept is false = ap (λ l. string_bytes k ∷ l) is

  -- a path that is removed from a set
  pub removed : (ks : List (String Y)) → map string_bytes (remove_key (is_at (λ k. slice_cmp nat_cmp path (string_bytes k))) ks) ≡ without path (map string_bytes ks)
  removed [] = refl
  removed (k ∷ ks) =
      removed_step k ks (without path (map string_bytes ks)) _ (removed ks) (is_at (λ j. slice_cmp nat_cmp path (string_bytes j)) k)
      ∙ ap (λ b. cond b (map string_bytes ks) (string_bytes k ∷ without path (map string_bytes ks))) (is_eq-slice_cmp path (string_bytes k))

module _ {Y : Type 0} (k : String Y) where
  added_step : (x : String Y) (xs more : List (String Y)) (rest : List (List ℕ)) → map string_bytes more ≡ rest → (o : Ordering)
      → map string_bytes (match_ordering o (k ∷ x ∷ xs) (x ∷ xs) (x ∷ more))
      ≡ match_ordering o (string_bytes k ∷ string_bytes x ∷ map string_bytes xs) (string_bytes x ∷ map string_bytes xs) (string_bytes x ∷ rest)
  added_step x xs more rest is Less = refl
  added_step x xs more rest is Equal = refl
  added_step x xs more rest is Greater = ap (λ l. string_bytes x ∷ l) is

  -- a path that is added to a set
  pub added : (xs : List (String Y)) → map string_bytes (insert_key string_cmp xs k) ≡ with_path (string_bytes k) (map string_bytes xs)
  added [] = refl
  added (x ∷ xs) = added_step x xs _ _ (added xs) (string_cmp k x)
