-- The pages at the start of an input.
use Rattle.std.proofs.Common.{◌≡◌, ◌<◌, ◌≤◌, ◌+◌, ℕ, zero, suc, ◌∷◌, [], ◌++◌, append_assoc, Bool, true, false, List, length, take, drop, refl, sym, ap, ◌∙◌, arith}
use Rattle.std.specs.Prelude.{◌&&◌, ◌||◌, cond, nat_lt, eqb}
use Rattle.std.specs.List.{starts_with, sum}
use Rattle.std.proofs.lemmas.List.{length-append, length-drop, take_at, drop_at, drop-append-le, get_or_append_left, take-append-le}
use Rattle.flac_around.specs.EmptyPackets.{Page, count_at, lacing_at, page_at, page_length, page_bytes, check_of, begins_page, is_cut, is_page, given_for, leaves_out, trimmed_in, trimmed_from}
use Rattle.flac_around.specs.inner.Pages.{page_of, IsLead, IsPlain, GivesPage}

differ : true ≡ false → ⊥
differ e = absurd cc

-- ---- one turn

abbrev turn : (cut page : Bool) → (none front bytes : List ℕ) → List ℕ
turn cut page none front bytes = cond cut none (cond page front bytes)

abbrev front_in : ℕ → (fails left_out : Bool) → List ℕ → List ℕ
front_in n fails left_out bytes = page_bytes (given_for left_out (page_at bytes)) ++ trimmed_in n fails (leaves_out left_out (page_at bytes)) (drop (page_length bytes) bytes)

turned : (n : ℕ) (fails left_out : Bool) (bytes : List ℕ) → trimmed_in (suc n) fails left_out bytes ≡ turn (is_cut bytes) (is_page bytes) (cond fails [] bytes) (front_in n fails left_out bytes) bytes
unfolding trimmed_in
turned n fails left_out bytes = refl

no_turn : (fails left_out : Bool) (bytes : List ℕ) → trimmed_in 0 fails left_out bytes ≡ bytes
unfolding trimmed_in
no_turn fails left_out bytes = refl

none_left : (bytes : List ℕ) → length bytes ≡ 0 → bytes ≡ []
none_left [] e = refl
none_left (x ∷ xs) e = absurd (omega (arith, e))

or_true : (a b : Bool) → a ≡ true → a || b ≡ true
or_true true b e = refl
or_true false b e = absurd (differ (sym e))

below : (a b : ℕ) → a < b → nat_lt a b ≡ true
below a b lt = grind (arith, lt)

not_below : (a b : ℕ) → b ≤ a → nat_lt a b ≡ false
not_below a b le = grind (arith, le)

pub cut_short : (bytes : List ℕ) → length bytes < 27 → is_cut bytes ≡ true
cut_short bytes few = or_true (nat_lt (length bytes) 27) _ (below (length bytes) 27 few)

-- ---- turns enough

abbrev none_of : (fails : Bool) → List ℕ
none_of fails = cond fails [] []

either_none : (fails : Bool) → none_of fails ≡ []
either_none true = refl
either_none false = refl

nothing : (n : ℕ) (fails left_out : Bool) → trimmed_in n fails left_out [] ≡ []
nothing zero fails left_out = no_turn fails left_out []
nothing (suc n) fails left_out = turned n fails left_out [] ∙ either_none fails

enough : (n m : ℕ) (fails left_out : Bool) (bytes : List ℕ) → length bytes ≤ n → length bytes ≤ m → trimmed_in n fails left_out bytes ≡ trimmed_in m fails left_out bytes
enough zero m fails left_out bytes few less =
    let none = none_left bytes (omega (arith, few)) in
    ap (trimmed_in 0 fails left_out) none ∙ nothing 0 fails left_out ∙ sym (ap (trimmed_in m fails left_out) none ∙ nothing m fails left_out)
enough (suc n) zero fails left_out bytes few less =
    let none = none_left bytes (omega (arith, less)) in
    ap (trimmed_in (suc n) fails left_out) none ∙ nothing (suc n) fails left_out ∙ sym (ap (trimmed_in 0 fails left_out) none ∙ nothing 0 fails left_out)
enough (suc n) (suc m) fails left_out bytes few less =
    let rest = drop (page_length bytes) bytes in
    let long : 27 ≤ page_length bytes = omega arith in
    let one : length rest ≤ n = omega (arith, length-drop (page_length bytes) bytes, few, long) in
    let two : length rest ≤ m = omega (arith, length-drop (page_length bytes) bytes, less, long) in
    turned n fails left_out bytes
    ∙ ap (λ l. turn (is_cut bytes) (is_page bytes) (cond fails [] bytes) (page_bytes (given_for left_out (page_at bytes)) ++ l) bytes) (enough n m fails (leaves_out left_out (page_at bytes)) rest one two)
    ∙ sym (turned m fails left_out bytes)

-- ---- what begins with no page

from_one : (n : ℕ) (fails left_out : Bool) (bytes : List ℕ) → length bytes ≡ suc n → trimmed_from fails left_out bytes ≡ turn (is_cut bytes) (is_page bytes) (cond fails [] bytes) (front_in n fails left_out bytes) bytes
from_one n fails left_out bytes e = ap (λ k. trimmed_in k fails left_out bytes) e ∙ turned n fails left_out bytes

pub cut_plain : (fails : Bool) (bytes : List ℕ) → is_cut bytes ≡ true → fails ≡ false → IsPlain fails bytes
cut_plain fails bytes cut none left_out = go (length bytes) refl
  where
    go : (n : ℕ) → length bytes ≡ n → trimmed_from fails left_out bytes ≡ bytes
    go zero e = ap (λ k. trimmed_in k fails left_out bytes) e ∙ no_turn fails left_out bytes
    go (suc n) e = from_one n fails left_out bytes e ∙ ap (λ b. turn b (is_page bytes) (cond fails [] bytes) (front_in n fails left_out bytes) bytes) cut ∙ ap (λ b. cond b [] bytes) none

pub none_plain : (fails : Bool) (bytes : List ℕ) → is_cut bytes ≡ false → is_page bytes ≡ false → IsPlain fails bytes
none_plain fails bytes cut page left_out = go (length bytes) refl
  where
    go : (n : ℕ) → length bytes ≡ n → trimmed_from fails left_out bytes ≡ bytes
    go zero e = ap (λ k. trimmed_in k fails left_out bytes) e ∙ no_turn fails left_out bytes
    go (suc n) e = from_one n fails left_out bytes e ∙ ap (λ b. turn b (is_page bytes) (cond fails [] bytes) (front_in n fails left_out bytes) bytes) cut ∙ ap (λ b. cond b (front_in n fails left_out bytes) bytes) page

-- an error in place of the end cuts it
pub cut_gone : (left_out : Bool) (bytes : List ℕ) → is_cut bytes ≡ true → trimmed_from true left_out bytes ≡ []
cut_gone left_out bytes cut = go (length bytes) refl
  where
    go : (n : ℕ) → length bytes ≡ n → trimmed_from true left_out bytes ≡ []
    go zero e = ap (λ k. trimmed_in k true left_out bytes) e ∙ no_turn true left_out bytes ∙ none_left bytes e
    go (suc n) e = from_one n true left_out bytes e ∙ ap (λ b. turn b (is_page bytes) [] (front_in n true left_out bytes) bytes) cut

-- ---- a page at the start

page_turn : (fails left_out : Bool) (bytes : List ℕ) → is_cut bytes ≡ false → is_page bytes ≡ true
    → trimmed_from fails left_out bytes ≡ page_bytes (given_for left_out (page_at bytes)) ++ trimmed_from fails (leaves_out left_out (page_at bytes)) (drop (page_length bytes) bytes)
page_turn fails left_out bytes cut page = go (length bytes) refl
  where
    go : (n : ℕ) → length bytes ≡ n → trimmed_from fails left_out bytes ≡ page_bytes (given_for left_out (page_at bytes)) ++ trimmed_from fails (leaves_out left_out (page_at bytes)) (drop (page_length bytes) bytes)
    go zero e = absurd (differ (sym (cut_short bytes (omega (arith, e))) ∙ cut))
    go (suc n) e =
        let rest = drop (page_length bytes) bytes in
        let long : 27 ≤ page_length bytes = omega arith in
        let few : length rest ≤ n = omega (arith, length-drop (page_length bytes) bytes, e, long) in
        from_one n fails left_out bytes e
        ∙ ap (λ b. turn b (is_page bytes) (cond fails [] bytes) (front_in n fails left_out bytes) bytes) cut
        ∙ ap (λ b. cond b (front_in n fails left_out bytes) bytes) page
        ∙ ap (λ l. page_bytes (given_for left_out (page_at bytes)) ++ l) (enough n (length rest) fails (leaves_out left_out (page_at bytes)) rest few (omega arith))

-- ---- the bytes before its segments

pub begins_front : (xs ys : List ℕ) → 5 ≤ length xs → begins_page (xs ++ ys) ≡ begins_page xs
begins_front [] ys le = absurd (omega (arith, le))
begins_front (a ∷ []) ys le = absurd (omega (arith, le))
begins_front (a ∷ b ∷ []) ys le = absurd (omega (arith, le))
begins_front (a ∷ b ∷ c ∷ []) ys le = absurd (omega (arith, le))
begins_front (a ∷ b ∷ c ∷ d ∷ []) ys le = absurd (omega (arith, le))
begins_front (a ∷ b ∷ c ∷ d ∷ e ∷ xs) ys le = refl

pub count_front : (xs ys : List ℕ) → 27 ≤ length xs → count_at (xs ++ ys) ≡ count_at xs
count_front xs ys le = get_or_append_left xs ys 0 26 (omega (arith, le))

-- what is at the start of an input that begins with them
pub record HasLead (lead rest : List ℕ) : Type 0 where
  pub begins : begins_page (lead ++ rest) ≡ true
  pub count : count_at (lead ++ rest) ≡ count_at lead
  pub lacing : lacing_at (lead ++ rest) ≡ drop 27 lead
  pub size : page_length (lead ++ rest) ≡ length lead + sum (drop 27 lead)
  pub long : 27 ≤ length lead

pub has_lead : (lead rest : List ℕ) → IsLead lead → HasLead lead rest
has_lead lead rest is =
    let long : 27 ≤ length lead = omega (arith, is.count) in
    let count = count_front lead rest long in
    let few : length (drop 27 lead) ≡ count_at lead = omega (arith, length-drop 27 lead, is.count) in
    let lacing = ap (λ n. take n (drop 27 (lead ++ rest))) count ∙ ap (take (count_at lead)) (drop-append-le 27 lead rest long) ∙ take_at (drop 27 lead) rest (count_at lead) few in
    record {
      begins = begins_front lead rest (omega (arith, long)) ∙ is.begins;
      count = count;
      lacing = lacing;
      size = ap (λ n. 27 + n + sum (lacing_at (lead ++ rest))) count ∙ ap (λ l. 27 + count_at lead + sum l) lacing ∙ ap (λ n. n + sum (drop 27 lead)) (sym is.count);
      long = long;
    }

-- the input ends inside its segments
pub segments_cut : (lead rest : List ℕ) → IsLead lead → length rest < sum (drop 27 lead) → is_cut (lead ++ rest) ≡ true
segments_cut lead rest is few =
    let h = has_lead lead rest is in
    let short : length (lead ++ rest) < page_length (lead ++ rest) = omega (arith, h.size, length-append lead rest, few) in
    ap (λ b. nat_lt (length (lead ++ rest)) 27 || (b && nat_lt (length (lead ++ rest)) (page_length (lead ++ rest)))) h.begins
    ∙ ap (λ b. nat_lt (length (lead ++ rest)) 27 || b) (below _ _ short) ∙ last (nat_lt (length (lead ++ rest)) 27)
  where
    last : (a : Bool) → a || true ≡ true
    last true = refl
    last false = refl

-- it does not
pub segments_there : (lead rest : List ℕ) → IsLead lead → sum (drop 27 lead) ≤ length rest → is_cut (lead ++ rest) ≡ false
segments_there lead rest is many =
    let h = has_lead lead rest is in
    let whole : page_length (lead ++ rest) ≤ length (lead ++ rest) = omega (arith, h.size, length-append lead rest, many) in
    let some : 27 ≤ length (lead ++ rest) = omega (arith, h.long, length-append lead rest) in
    ap (λ b. b || (begins_page (lead ++ rest) && nat_lt (length (lead ++ rest)) (page_length (lead ++ rest)))) (not_below _ 27 some)
    ∙ ap (λ b. begins_page (lead ++ rest) && b) (not_below _ _ whole) ∙ last (begins_page (lead ++ rest))
  where
    last : (a : Bool) → a && false ≡ false
    last true = refl
    last false = refl

-- the input ends before them
pub lead_cut : (front rest : List ℕ) → length front ≡ 27 → begins_page front ≡ true → length rest < count_at front → is_cut (front ++ rest) ≡ true
lead_cut front rest long begins few =
    let count = count_front front rest (omega (arith, long)) in
    let short : length (front ++ rest) < page_length (front ++ rest) = omega (arith, count, length-append front rest, few, long) in
    ap (λ b. nat_lt (length (front ++ rest)) 27 || (b && nat_lt (length (front ++ rest)) (page_length (front ++ rest)))) (begins_front front rest (omega (arith, long)) ∙ begins)
    ∙ ap (λ b. nat_lt (length (front ++ rest)) 27 || b) (below _ _ short) ∙ last (nat_lt (length (front ++ rest)) 27)
  where
    last : (a : Bool) → a || true ≡ true
    last true = refl
    last false = refl

-- no page is at the start
pub no_front : (fails : Bool) (front rest : List ℕ) → length front ≡ 27 → begins_page front ≡ false → IsPlain fails (front ++ rest)
no_front fails front rest long none =
    let begins = begins_front front rest (omega (arith, long)) ∙ none in
    let some : 27 ≤ length (front ++ rest) = omega (arith, long, length-append front rest) in
    none_plain fails (front ++ rest)
    (ap (λ b. b || (begins_page (front ++ rest) && nat_lt (length (front ++ rest)) (page_length (front ++ rest)))) (not_below _ 27 some) ∙ ap (λ b. b && nat_lt (length (front ++ rest)) (page_length (front ++ rest))) begins)
    (ap (λ b. b && starts_with eqb (page_at (front ++ rest)).check (check_of (page_at (front ++ rest)))) begins)

-- ---- all of it

abbrev made : (fields check lacing body : List ℕ) → Page
made fields check lacing body = record { fields = fields; check = check; lacing = lacing; body = body }

same_page : {a b c d e f g h : List ℕ} → a ≡ e → b ≡ f → c ≡ g → d ≡ h → made a b c d ≡ made e f g h
same_page p q r s = rw (p, q, r, s) refl

pub page_there : (lead body later : List ℕ) → IsLead lead → length body ≡ sum (drop 27 lead) → page_at (lead ++ (body ++ later)) ≡ page_of lead body
page_there lead body later is whole =
    let rest = body ++ later in
    let h = has_lead lead rest is in
    let before : 27 + count_at (lead ++ rest) ≡ length lead = omega (arith, h.count, is.count) in
    let few : 4 ≤ length (drop 22 lead) = omega (arith, length-drop 22 lead, h.long) in
    same_page
    (take-append-le 22 lead rest (omega (arith, h.long)))
    (ap (take 4) (drop-append-le 22 lead rest (omega (arith, h.long))) ∙ take-append-le 4 (drop 22 lead) rest few)
    h.lacing
    (ap (λ n. take (sum (lacing_at (lead ++ rest))) (drop n (lead ++ rest))) before ∙ ap (take (sum (lacing_at (lead ++ rest)))) (drop_at lead rest (length lead) refl) ∙ ap (λ l. take (sum l) rest) h.lacing ∙ take_at body later (sum (drop 27 lead)) whole)

abbrev right : Page → Bool
right p = starts_with eqb p.check (check_of p)

is_there : (lead body later : List ℕ) → IsLead lead → length body ≡ sum (drop 27 lead) → is_page (lead ++ (body ++ later)) ≡ right (page_of lead body)
is_there lead body later is whole =
    ap (λ b. b && right (page_at (lead ++ (body ++ later)))) (has_lead lead (body ++ later) is).begins ∙ ap right (page_there lead body later is whole)

long_enough : (body later : List ℕ) (n : ℕ) → length body ≡ n → n ≤ length (body ++ later)
long_enough body later n e = omega (arith, length-append body later, e)

-- its checksum is right
pub page_given : (fails : Bool) (lead body later : List ℕ) → IsLead lead → length body ≡ sum (drop 27 lead) → starts_with eqb (take 4 (drop 22 lead)) (check_of (page_of lead body)) ≡ true → GivesPage fails (page_of lead body) (lead ++ (body ++ later)) later
page_given fails lead body later is whole good left_out =
    let bytes = lead ++ (body ++ later) in
    let there = page_there lead body later is whole in
    let h = has_lead lead (body ++ later) is in
    let past : drop (page_length bytes) bytes ≡ later =
    ap (λ n. drop n bytes) (h.size ∙ ap (λ n. length lead + n) (sym whole) ∙ sym (length-append lead body)) ∙ ap (drop (length (lead ++ body))) (sym (append_assoc lead body later)) ∙ drop_at (lead ++ body) later (length (lead ++ body)) refl in
    page_turn fails left_out bytes (segments_there lead (body ++ later) is (long_enough body later _ whole)) (is_there lead body later is whole ∙ good)
    ∙ ap (λ p. page_bytes (given_for left_out p) ++ trimmed_from fails (leaves_out left_out p) (drop (page_length bytes) bytes)) there
    ∙ ap (λ l. page_bytes (given_for left_out (page_of lead body)) ++ trimmed_from fails (leaves_out left_out (page_of lead body)) l) past

-- it is wrong
pub page_wrong : (fails : Bool) (lead body later : List ℕ) → IsLead lead → length body ≡ sum (drop 27 lead) → starts_with eqb (take 4 (drop 22 lead)) (check_of (page_of lead body)) ≡ false → IsPlain fails (lead ++ (body ++ later))
page_wrong fails lead body later is whole bad =
    none_plain fails (lead ++ (body ++ later)) (segments_there lead (body ++ later) is (long_enough body later _ whole)) (is_there lead body later is whole ∙ bad)
