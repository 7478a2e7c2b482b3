-- The streams of an input.
use Rattle.std.proofs.Common.{◌≡◌, ◌<◌, ◌≤◌, ◌+◌, ℕ, zero, suc, ◌∷◌, [], ◌++◌, Bool, true, false, List, length, take, drop, Option, Some, None, inl, inr, append_assoc, refl, sym, ap, ◌∙◌, arith}
use Rattle.std.specs.Prelude.{cond, nat_le}
use Rattle.std.specs.List.{concat, sum}
use Rattle.std.proofs.lemmas.Bool.{cases_lt, and_parts}
use Rattle.std.proofs.lemmas.List.{length-append, length-drop, length-take-le, take-append-drop, append-nil, drop-append-le, get_or-take}
use Rattle.std.proofs.Math.Seq.{drop-length, take-append_seam, drop-append_seam}
use Rattle.flac_around.specs.EmptyPackets.{page_length, begins_page, count_at}
use Rattle.flac_around.specs.Stands.{end_past}
use Rattle.flac_around.specs.inner.Pages.{IsLead}
use Rattle.flac_around.proofs.EmptyPages.{begins_front}
use Rattle.flac_around.specs.Chains.{has_page, is_marked_last, end_of, place_in, up_to, past, first_link, later_links, is_over, links_in, links, ends_whole}
use Rattle.flac_around.proofs.ChainEnds.{further, end_least, no_page, lead_end, at_most, not_at_most}

linked : (n : ℕ) (bytes : List ℕ) → links_in (suc n) bytes ≡ first_link bytes ∷ cond (is_over (later_links bytes)) [] (links_in n (later_links bytes))
unfolding links_in
linked n bytes = refl

differ : true ≡ false → ⊥
differ e = absurd cc

-- ---- they are all

none_left : (bytes : List ℕ) → is_over bytes ≡ true → bytes ≡ []
none_left [] e = refl
none_left (x ∷ xs) e = let f : suc (length xs) ≡ 0 = grind (arith, e) in absurd (omega (arith, f))

no_more : (bytes : List ℕ) → length bytes ≡ 0 → is_over bytes ≡ true
no_more [] e = refl
no_more (x ∷ xs) e = absurd (omega (arith, e))

-- each has a byte at least
shorter : (bytes : List ℕ) (place : Option ℕ) → ((k : ℕ) → place ≡ Some k → 27 ≤ k) → 0 < length bytes → length (past place bytes) < length bytes
shorter bytes None least some = omega (arith, ap length (drop-length bytes), some)
shorter bytes (Some k) least some = omega (arith, length-drop k bytes, least k refl, some)

pub fewer : (bytes : List ℕ) → 0 < length bytes → length (later_links bytes) < length bytes
fewer bytes some =
    let least : (k : ℕ) → end_of bytes ≡ Some k → 27 ≤ k = λ k e. omega (arith, end_least bytes k e) in
    shorter bytes (end_of bytes) least some

later_of_none : (bytes : List ℕ) → length bytes ≡ 0 → length (later_links bytes) ≡ 0
later_of_none bytes none = omega (arith, length-drop (place_in (end_of bytes) bytes) bytes, none)

choose : (b : Bool) (front : List ℕ) (later : List ℕ) (others : List (List ℕ)) → (b ≡ true → later ≡ []) → (b ≡ false → concat others ≡ later) → concat (front ∷ cond b [] others) ≡ front ++ later
choose true front later others none more = ap (λ l. front ++ l) (sym (none refl))
choose false front later others none more = ap (λ l. front ++ l) (more refl)

all_in : (n : ℕ) (bytes : List ℕ) → length bytes < n → concat (links_in n bytes) ≡ bytes
all_in zero bytes few = absurd (omega (arith, few))
all_in (suc n) bytes few =
    let later = later_links bytes in
    let more : is_over later ≡ false → concat (links_in n later) ≡ later = λ over. all_in n later (within over) in
    ap concat (linked n bytes)
    ∙ choose (is_over later) (first_link bytes) later (links_in n later) (none_left later) more
    ∙ take-append-drop (place_in (end_of bytes) bytes) bytes
  where
    within : is_over (later_links bytes) ≡ false → length (later_links bytes) < n
    within over = elim (cases_lt 0 (length bytes)) [
      | inl some ↦ omega (arith, few, fewer bytes some)
      | inr none ↦ absurd (differ (sym (no_more (later_links bytes) (later_of_none bytes (omega (arith, none)))) ∙ over))
    ]

pub joined : (bytes : List ℕ) → concat (links bytes) ≡ bytes
joined bytes = all_in (suc (length bytes)) bytes (omega arith)

-- ---- one alone

pub alone : (bytes : List ℕ) → later_links bytes ≡ [] → links bytes ≡ bytes ∷ []
alone bytes none =
    let all : first_link bytes ≡ bytes = sym (append-nil (first_link bytes)) ∙ ap (λ l. first_link bytes ++ l) (sym none) ∙ take-append-drop (place_in (end_of bytes) bytes) bytes in
    linked (length bytes) bytes
    ∙ ap (λ l. first_link bytes ∷ cond (is_over l) [] (links_in (length bytes) l)) none
    ∙ ap (λ l. l ∷ []) all

-- ---- whatever follows

none_some : {X : Type 0} (k : ℕ) → None ≡ Some k → X
none_some k e = absurd cc

further_some : {X : Type 0} (a k : ℕ) (place : Option ℕ) → further a place ≡ Some k → ((j : ℕ) → place ≡ Some j → X) → X
further_some a k None e back = none_some k e
further_some a k (Some j) e back = back j refl

-- in the segments of a page
body_more : (s : ℕ) (last : Bool) (rest more : List ℕ) (j : ℕ) → ((k : ℕ) → end_of (drop s rest) ≡ Some k → end_of (drop s rest ++ more) ≡ Some k) → end_past s last rest ≡ Some j → end_past s last (rest ++ more) ≡ Some j
body_more s last rest more j back is = elim (cases_lt (length rest) s) [
  | inl lt ↦ none_some j (sym (ap (λ b. choice b (length rest) rest) (not_at_most s (length rest) lt)) ∙ is)
  | inr le ↦
      let now : nat_le s (length rest) ≡ true = at_most s (length rest) le in
      let then : nat_le s (length (rest ++ more)) ≡ true = at_most s (length (rest ++ more)) (omega (arith, le, length-append rest more)) in
      let was : ended last (end_of (drop s rest)) ≡ Some j = sym (ap (λ b. choice b (length rest) rest) now) ∙ is in
      ap (λ b. choice b (length (rest ++ more)) (rest ++ more)) then
      ∙ ap (λ l. ended last (end_of l)) (drop-append-le s rest more le)
      ∙ by_last last was
]
  where
    ended : Bool → Option ℕ → Option ℕ
    ended l later = cond l (Some s) (further s later)

    choice : Bool → ℕ → List ℕ → Option ℕ
    choice b n bytes = cond b (ended last (end_of (drop s bytes))) None

    by_last : (l : Bool) → ended l (end_of (drop s rest)) ≡ Some j → ended l (end_of (drop s rest ++ more)) ≡ Some j
    by_last true e = e
    by_last false e = further_some s j (end_of (drop s rest)) e (λ k f. ap (further s) (back k f) ∙ ap (further s) (sym f) ∙ e)

page_is : (front : List ℕ) (k : ℕ) → end_of front ≡ Some k → has_page front ≡ true
page_is front k is = go (has_page front) refl
  where
    go : (b : Bool) → has_page front ≡ b → has_page front ≡ true
    go true e = e
    go false e = none_some k (sym (no_page front e) ∙ is)

at_most_is : (a b : ℕ) → nat_le a b ≡ true → a ≤ b
at_most_is a b e = grind (arith, e)

pub end_stays : (n : ℕ) (front more : List ℕ) (k : ℕ) → length front ≤ n → end_of front ≡ Some k → end_of (front ++ more) ≡ Some k
end_stays zero front more k few is =
    let page = and_parts (begins_page front) (nat_le (page_length front) (length front)) (page_is front k is) in
    absurd (omega (arith, few, at_most_is (page_length front) (length front) page.1))
end_stays (suc n) front more k few is =
    let page = and_parts (begins_page front) (nat_le (page_length front) (length front)) (page_is front k is) in
    let size : page_length front ≤ length front = at_most_is (page_length front) (length front) page.1 in
    let m = 27 + count_at front in
    let lead = take m front in
    let rest = drop m front in
    let split : lead ++ rest ≡ front = take-append-drop m front in
    let long : length lead ≡ m = length-take-le m front (omega (arith, size)) in
    let count : count_at lead ≡ count_at front = get_or-take m front 26 0 (omega arith) in
    let is_lead : IsLead lead = record { begins = sym (begins_front lead rest (omega (arith, long))) ∙ ap begins_page split ∙ page.0; count = omega (arith, long, count) } in
    let s = sum (drop 27 lead) in
    let was : further (length lead) (end_past s (is_marked_last lead) rest) ≡ Some k = sym (lead_end lead rest is_lead) ∙ ap end_of split ∙ is in
    let less : length (drop s rest) ≤ n = omega (arith, few, size, length-drop s rest, length-drop m front) in
    further_some (length lead) k (end_past s (is_marked_last lead) rest) was (λ j e.
    ap (λ l. end_of (l ++ more)) (sym split) ∙ ap end_of (append_assoc lead rest more) ∙ lead_end lead (rest ++ more) is_lead
    ∙ ap (further (length lead)) (body_more s (is_marked_last lead) rest more j (λ i f. end_stays n (drop s rest) more i less f) e)
    ∙ ap (further (length lead)) (sym e) ∙ was)

pub whole_first : (front more : List ℕ) → ends_whole front → (first_link (front ++ more) ≡ front) × (later_links (front ++ more) ≡ more)
whole_first front more is =
    let e = end_stays (length front) front more (length front) (omega arith) is in
    (ap (λ p. up_to p (front ++ more)) e ∙ take-append_seam front more, ap (λ p. past p (front ++ more)) e ∙ drop-append_seam front more)
