-- Which parts of an input are the bytes of a native stream.
use Rattle.std.proofs.Common.{◌≡◌, ℕ, zero, suc, ◌+◌, ◌≤◌, ◌<◌, Bool, true, false, List, [], ◌∷◌, ◌++◌, Option, length, drop, get_or, refl, sym, ap, subst, ◌∙◌, append_assoc, arith}
use Rattle.std.specs.Prelude.{cond, nat_eq, min}
use Rattle.std.specs.List.{sum}
use Rattle.std.proofs.lemmas.List.{append-nil}
use Rattle.flac_whole_pages.specs.Standing.{between, Stands}
use Rattle.flac_whole_pages.specs.Found.{FoundIn, AreInOrder}
use Rattle.flac_whole_pages.specs.Left.{begins_flac, body_of, gap_of, has_frames, first_part, parts_after, native_parts}
use Rattle.flac_whole_pages.specs.Parts.{AreInside}
use Rattle.flac_whole_pages.specs.inner.Adding.{AreStanding, no_page}
use Rattle.flac_whole_pages.specs.declared.page_at.WholePage.{WholePage}
use Rattle.flac_whole_pages.specs.declared.part.Part.{Part}
use Rattle.flac_whole_pages.proofs.Founds.{found_are_in_order}
use Rattle.flac_whole_pages.proofs.Lists.{item_at, drop_past, if_true, if_false}

-- ---- pages that stand

pub standing_at : (bytes : List ℕ) (i : ℕ) (pages : List WholePage) → i < length pages → AreStanding bytes (drop i pages) → Stands bytes (get_or pages i no_page) × AreStanding bytes (drop (i + 1) pages)
standing_at bytes i pages h s = subst (λ (l : List WholePage). AreStanding bytes l) (item_at pages i no_page h) s

pub standing_from : (bytes : List ℕ) (i : ℕ) (pages : List WholePage) → AreStanding bytes pages → AreStanding bytes (drop i pages)
standing_from bytes zero pages s = s
standing_from bytes (suc i) [] s = tt
standing_from bytes (suc i) (p ∷ more) s = standing_from bytes i more s.1

-- ---- the first page

module _ (bytes : List ℕ) (pages : List WholePage) (i : ℕ) (h : i < length pages) where
  pub not_first : begins_flac bytes (get_or pages i no_page) ≡ false → native_parts bytes (drop i pages) ≡ native_parts bytes pages → native_parts bytes (drop (i + 1) pages) ≡ native_parts bytes pages
  unfolding native_parts
  not_first other so_far =
      let p : WholePage = get_or pages i no_page in
      sym (if_false (begins_flac bytes p) (first_part p ∷ parts_after bytes p.serial false p.end (drop (i + 1) pages)) (native_parts bytes (drop (i + 1) pages)) other)
      ∙ ap (λ (l : List WholePage). native_parts bytes l) (sym (item_at pages i no_page h)) ∙ so_far

  pub first_is : begins_flac bytes (get_or pages i no_page) ≡ true → native_parts bytes (drop i pages) ≡ native_parts bytes pages
      → first_part (get_or pages i no_page) ∷ parts_after bytes (get_or pages i no_page).serial false (get_or pages i no_page).end (drop (i + 1) pages) ≡ native_parts bytes pages
  unfolding native_parts
  first_is begins so_far =
      let p : WholePage = get_or pages i no_page in
      sym (if_true (begins_flac bytes p) (first_part p ∷ parts_after bytes p.serial false p.end (drop (i + 1) pages)) (native_parts bytes (drop (i + 1) pages)) begins)
      ∙ ap (λ (l : List WholePage). native_parts bytes l) (sym (item_at pages i no_page h)) ∙ so_far

pub none_first : (bytes : List ℕ) (pages : List WholePage) (i : ℕ) → length pages ≤ i → native_parts bytes (drop i pages) ≡ native_parts bytes pages → [] ≡ native_parts bytes pages
unfolding native_parts
none_first bytes pages i past so_far = ap (λ (l : List WholePage). native_parts bytes l) (sym (drop_past pages i past)) ∙ so_far

-- ---- one page more

module _ (bytes : List ℕ) (serial : ℕ) (frames : Bool) (from : ℕ) (pages : List WholePage) (i : ℕ) where
  pub page_more : (next : Bool) (old mid new whole : List Part) → i < length pages
      → mid ≡ old ++ gap_of frames from (get_or pages i no_page).at → new ≡ mid ++ body_of serial (get_or pages i no_page) → next ≡ has_frames bytes serial frames (get_or pages i no_page)
      → old ++ parts_after bytes serial frames from (drop i pages) ≡ whole
      → new ++ parts_after bytes serial next (get_or pages i no_page).end (drop (i + 1) pages) ≡ whole
  unfolding parts_after
  page_more next old mid new whole h gap body is so_far =
      let p : WholePage = get_or pages i no_page in
      let rest : Bool → List Part = λ k. parts_after bytes serial k p.end (drop (i + 1) pages) in
      let g : List Part = gap_of frames from p.at in
      let b : List Part = body_of serial p in
      ap (λ k. new ++ rest k) is ∙ ap (λ (l : List Part). l ++ rest (has_frames bytes serial frames p)) (body ∙ ap (λ (l : List Part). l ++ b) gap)
      ∙ append_assoc (old ++ g) b (rest (has_frames bytes serial frames p)) ∙ append_assoc old g (b ++ rest (has_frames bytes serial frames p))
      ∙ ap (λ (l : List WholePage). old ++ parts_after bytes serial frames from l) (sym (item_at pages i no_page h)) ∙ so_far

  pub page_ends : (old new whole : List Part) → length pages ≤ i → new ≡ old ++ gap_of frames from (length bytes) → old ++ parts_after bytes serial frames from (drop i pages) ≡ whole → new ≡ whole
  unfolding parts_after
  page_ends old new whole past gap so_far = gap ∙ ap (λ (l : List WholePage). old ++ parts_after bytes serial frames from l) (sym (drop_past pages i past)) ∙ so_far

-- ---- inside

module _ (bytes : List ℕ) where
  ordered_stand : (from : ℕ) (pages : List WholePage) → AreInOrder bytes from pages → AreStanding bytes pages
  ordered_stand from [] o = tt
  ordered_stand from (p ∷ more) o = (o.1, ordered_stand p.end more o.2)

  pub found_stand : (from : ℕ) (cut : Option ℕ) (pages : List WholePage) → FoundIn bytes from cut pages → AreStanding bytes pages
  found_stand from cut pages found = ordered_stand from pages (found_are_in_order bytes from cut pages found)

  by_test : {A : Type 0} → (t : Bool) (xs ys : A) (P : A → Type 0) → P xs → P ys → P (cond t xs ys)
  by_test true xs ys P p q = p
  by_test false xs ys P p q = q

  inside_append : (xs ys : List Part) → AreInside (length bytes) xs → AreInside (length bytes) ys → AreInside (length bytes) (xs ++ ys)
  inside_append [] ys a b = b
  inside_append (x ∷ xs) ys a b = (a.0, a.1, inside_append xs ys a.2 b)

  one_inside : (q : Part) → q.start ≤ q.end → q.end ≤ length bytes → AreInside (length bytes) (q ∷ [])
  one_inside q a b = (a, b, tt)

  gap_inside : (frames : Bool) (from to : ℕ) → from ≤ to → to ≤ length bytes → AreInside (length bytes) (gap_of frames from to)
  gap_inside true from to a b = (a, b, tt)
  gap_inside false from to a b = tt

  body_inside : (serial : ℕ) (p : WholePage) → Stands bytes p → AreInside (length bytes) (body_of serial p)
  body_inside serial p s =
      let body : p.end ≡ p.body + sum (between (p.at + 27) p.body bytes) = s.stated.end in
      by_test (nat_eq p.serial serial) (record { start = p.body; end = p.end } ∷ []) [] (λ (l : List Part). AreInside (length bytes) l)
      (one_inside (record { start = p.body; end = p.end }) (omega (arith, body)) s.stated.inside) tt

  after_inside : (serial : ℕ) (frames : Bool) (from : ℕ) (pages : List WholePage) → from ≤ length bytes → AreInOrder bytes from pages → AreInside (length bytes) (parts_after bytes serial frames from pages)
  unfolding parts_after
  after_inside serial frames from [] most o = gap_inside frames from (length bytes) most (omega arith)
  after_inside serial frames from (p ∷ more) most o =
      let long = o.1.stated.long in
      let inside = o.1.stated.inside in
      inside_append (gap_of frames from p.at) (body_of serial p ++ parts_after bytes serial (has_frames bytes serial frames p) p.end more)
      (gap_inside frames from p.at o.0 (omega (arith, long, inside)))
      (inside_append (body_of serial p) (parts_after bytes serial (has_frames bytes serial frames p) p.end more) (body_inside serial p o.1)
      (after_inside serial (has_frames bytes serial frames p) p.end more inside o.2))

  ordered_inside : (from : ℕ) (pages : List WholePage) → AreInOrder bytes from pages → AreInside (length bytes) (native_parts bytes pages)
  unfolding native_parts
  ordered_inside from [] o = tt
  ordered_inside from (p ∷ more) o =
      by_test (begins_flac bytes p) (first_part p ∷ parts_after bytes p.serial false p.end more) (native_parts bytes more) (λ (l : List Part). AreInside (length bytes) l)
      (omega arith, o.1.stated.inside, after_inside p.serial false p.end more o.1.stated.inside o.2) (ordered_inside p.end more o.2)

  pub parts_inside : (from : ℕ) (cut : Option ℕ) (pages : List WholePage) → FoundIn bytes from cut pages → AreInside (length bytes) (native_parts bytes pages)
  parts_inside from cut pages found = ordered_inside from pages (found_are_in_order bytes from cut pages found)
