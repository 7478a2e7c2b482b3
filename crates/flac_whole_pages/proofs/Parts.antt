-- Where the bytes of parts are in the input.
use Rattle.std.proofs.Common.{◌≡◌, ℕ, zero, suc, ◌+◌, ◌-◌, ◌<◌, ◌≤◌, List, [], ◌∷◌, length, take, drop, get_or, refl, sym, ap, subst, ◌∙◌, add-one, arith}
use Rattle.std.specs.Prelude.{nat_lt}
use Rattle.std.proofs.lemmas.Bool.{lt-ltb, le-ltb}
use Rattle.flac_whole_pages.specs.Parts.{size_of, sizes, place_of, AreInside, AreReached}
use Rattle.flac_whole_pages.specs.declared.part.Part.{Part}
use Rattle.flac_whole_pages.proofs.Lists.{item_at, drop_past, if_true, if_false}

abbrev pub no_part : Part
no_part = record { start = 0; end = 0 }

-- ---- one part

module _ (end at : ℕ) (q : Part) (more : List Part) where
  in_part : at < size_of q → place_of end (q ∷ more) at ≡ q.start + at
  unfolding place_of
  in_part h = if_true (nat_lt at (size_of q)) (q.start + at) (place_of end more (at - size_of q)) (lt-ltb at (size_of q) h)

  past_part : size_of q ≤ at → place_of end (q ∷ more) at ≡ place_of end more (at - size_of q)
  unfolding place_of
  past_part h = if_false (nat_lt at (size_of q)) (q.start + at) (place_of end more (at - size_of q)) (le-ltb at (size_of q) h)

-- ---- from a part on

sizes_next : (parts : List Part) (i : ℕ) → i < length parts → sizes (take (suc i) parts) ≡ sizes (take i parts) + size_of (get_or parts i no_part)
unfolding sizes
sizes_next [] i h = absurd (omega (arith, h))
sizes_next (q ∷ more) zero h = omega arith
sizes_next (q ∷ more) (suc i) h = let e = sizes_next more i (omega (arith, h)) in omega (arith, e)

pub sizes_more : (parts : List Part) (i : ℕ) → i < length parts → sizes (take (i + 1) parts) ≡ sizes (take i parts) + size_of (get_or parts i no_part)
sizes_more parts i h = rw add-one (sizes_next parts i h)

pub place_from : (end : ℕ) (parts : List Part) (i at : ℕ) → sizes (take i parts) ≤ at → place_of end (drop i parts) (at - sizes (take i parts)) ≡ place_of end parts at
unfolding sizes
place_from end parts zero at h = let same : at - 0 ≡ at = omega arith in ap (λ k. place_of end parts k) same
place_from end [] (suc i) at h = let same : at - 0 ≡ at = omega arith in ap (λ k. place_of end [] k) same
place_from end (q ∷ more) (suc i) at h =
    let rest : ℕ = sizes (take i more) in
    let within : rest ≤ at - size_of q = omega (arith, h) in
    let same : at - (size_of q + rest) ≡ (at - size_of q) - rest = omega arith in
    ap (λ k. place_of end (drop i more) k) same ∙ place_from end more i (at - size_of q) within ∙ sym (past_part end at q more (omega (arith, h)))

pub inside_from : (end : ℕ) (parts : List Part) (i : ℕ) → AreInside end parts → AreInside end (drop i parts)
inside_from end parts zero h = h
inside_from end [] (suc i) h = tt
inside_from end (q ∷ more) (suc i) h = inside_from end more i h.2

pub inside_at : (end : ℕ) (parts : List Part) (i : ℕ) → i < length parts → AreInside end (drop i parts)
    → ((get_or parts i no_part).start ≤ (get_or parts i no_part).end) × ((get_or parts i no_part).end ≤ end) × AreInside end (drop (i + 1) parts)
inside_at end parts i h w = subst (λ (l : List Part). AreInside end l) (item_at parts i no_part h) w

module _ (end at : ℕ) (parts : List Part) (i before : ℕ) (h : i < length parts) where
  pub place_here : place_of end (drop i parts) (at - before) ≡ place_of end parts at → at - before < size_of (get_or parts i no_part)
      → (get_or parts i no_part).start + (at - before) ≡ place_of end parts at
  place_here so_far here =
      sym (in_part end (at - before) (get_or parts i no_part) (drop (i + 1) parts) here)
      ∙ ap (λ (l : List Part). place_of end l (at - before)) (sym (item_at parts i no_part h)) ∙ so_far

  pub place_later : place_of end (drop i parts) (at - before) ≡ place_of end parts at → size_of (get_or parts i no_part) ≤ at - before
      → place_of end (drop (i + 1) parts) (at - (before + size_of (get_or parts i no_part))) ≡ place_of end parts at
  place_later so_far later =
      let q : Part = get_or parts i no_part in
      let same : at - (before + size_of q) ≡ (at - before) - size_of q = omega arith in
      ap (λ k. place_of end (drop (i + 1) parts) k) same ∙ sym (past_part end (at - before) q (drop (i + 1) parts) later)
      ∙ ap (λ (l : List Part). place_of end l (at - before)) (sym (item_at parts i no_part h)) ∙ so_far

pub place_none : (end at : ℕ) (parts : List Part) (i k : ℕ) → length parts ≤ i → place_of end (drop i parts) k ≡ place_of end parts at → end ≡ place_of end parts at
unfolding place_of
place_none end at parts i k past so_far = ap (λ (l : List Part). place_of end l k) (sym (drop_past parts i past)) ∙ so_far

pub none_reached : (parts : List Part) → AreReached parts (record { index = 0; before = 0 })
unfolding sizes
none_reached parts = record { index = omega arith; before = refl }
