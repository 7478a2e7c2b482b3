-- Where the first stream of a chain ends.
use Rattle.std.proofs.Common.{◌≡◌, ◌<◌, ◌≤◌, ◌+◌, ◌/◌, ◌%◌, ℕ, zero, suc, ◌∷◌, [], ◌++◌, Bool, true, false, nat_eq, List, length, drop, Option, Some, None, inl, inr, refl, sym, ap, ◌∙◌, arith}
use Rattle.std.specs.Prelude.{◌&&◌, cond, nat_le, nat_lt, option_map}
use Rattle.std.specs.List.{sum}
use Rattle.std.proofs.lemmas.Bool.{cases_lt}
use Rattle.std.proofs.lemmas.List.{length-append, length-drop, get_or_append_left}
use Rattle.std.proofs.Math.Seq.{drop-append-add}
use Rattle.flac_around.specs.EmptyPackets.{begins_page, page_length, count_at}
use Rattle.flac_around.specs.Chains.{has_page, is_marked_last, end_in, end_of}
use Rattle.flac_around.specs.Stands.{end_past}
use Rattle.flac_around.specs.inner.Pages.{IsLead}
use Rattle.flac_around.specs.inner.Standing.{IsFurther, lead_size}
use Rattle.flac_around.proofs.EmptyPages.{has_lead}

-- ---- one page

abbrev pub further : ℕ → Option ℕ → Option ℕ
further n place = option_map (λ k. n + k) place

abbrev pub turn : (page last : Bool) → ℕ → Option ℕ → Option ℕ
turn page last n later = cond page (cond last (Some n) (further n later)) None

turned : (n : ℕ) (bytes : List ℕ) → end_in (suc n) bytes ≡ turn (has_page bytes) (is_marked_last bytes) (page_length bytes) (end_in n (drop (page_length bytes) bytes))
unfolding end_in
turned n bytes = refl

no_turn : (bytes : List ℕ) → end_in 0 bytes ≡ None
unfolding end_in
no_turn bytes = refl

none_left : (bytes : List ℕ) → length bytes ≡ 0 → bytes ≡ []
none_left [] e = refl
none_left (x ∷ xs) e = absurd (omega (arith, e))

nothing : (n : ℕ) → end_in n [] ≡ None
nothing zero = no_turn []
nothing (suc n) = turned n []

enough : (n m : ℕ) (bytes : List ℕ) → length bytes ≤ n → length bytes ≤ m → end_in n bytes ≡ end_in m bytes
enough zero m bytes few less =
    let none = none_left bytes (omega (arith, few)) in
    ap (end_in 0) none ∙ nothing 0 ∙ sym (ap (end_in m) none ∙ nothing m)
enough (suc n) zero bytes few less =
    let none = none_left bytes (omega (arith, less)) in
    ap (end_in (suc n)) none ∙ nothing (suc n) ∙ sym (ap (end_in 0) none ∙ nothing 0)
enough (suc n) (suc m) bytes few less =
    let rest = drop (page_length bytes) bytes in
    let long : 27 ≤ page_length bytes = omega arith in
    let one : length rest ≤ n = omega (arith, length-drop (page_length bytes) bytes, few, long) in
    let two : length rest ≤ m = omega (arith, length-drop (page_length bytes) bytes, less, long) in
    turned n bytes ∙ ap (turn (has_page bytes) (is_marked_last bytes) (page_length bytes)) (enough n m rest one two) ∙ sym (turned m bytes)

-- after the page at the start, or nowhere
pub page_turn : (bytes : List ℕ) → end_of bytes ≡ turn (has_page bytes) (is_marked_last bytes) (page_length bytes) (end_of (drop (page_length bytes) bytes))
page_turn bytes = go (length bytes) refl
  where
    go : (n : ℕ) → length bytes ≡ n → end_of bytes ≡ turn (has_page bytes) (is_marked_last bytes) (page_length bytes) (end_of (drop (page_length bytes) bytes))
    go zero e = let none = none_left bytes e in ap (λ l. end_in (length l) l) none ∙ nothing 0 ∙ sym (ap (λ l. turn (has_page l) (is_marked_last l) (page_length l) (end_of (drop (page_length l) l))) none)
    go (suc n) e =
        let rest = drop (page_length bytes) bytes in
        let long : 27 ≤ page_length bytes = omega arith in
        let few : length rest ≤ n = omega (arith, length-drop (page_length bytes) bytes, e, long) in
        ap (λ k. end_in k bytes) e ∙ turned n bytes ∙ ap (turn (has_page bytes) (is_marked_last bytes) (page_length bytes)) (enough n (length rest) rest few (omega arith))

-- no page is at the start
pub no_page : (bytes : List ℕ) → has_page bytes ≡ false → end_of bytes ≡ None
no_page bytes none = page_turn bytes ∙ ap (λ b. turn b (is_marked_last bytes) (page_length bytes) (end_of (drop (page_length bytes) bytes))) none

pub no_pattern : (bytes : List ℕ) → begins_page bytes ≡ false → end_of bytes ≡ None
no_pattern bytes none = no_page bytes (ap (λ b. b && nat_le (page_length bytes) (length bytes)) none)

or_short : (b : Bool) (m n : ℕ) → n < m → b && nat_le m n ≡ false
or_short true m n lt = grind (arith, lt)
or_short false m n lt = refl

pub short_page : (bytes : List ℕ) → length bytes < page_length bytes → end_of bytes ≡ None
short_page bytes few = no_page bytes (or_short (begins_page bytes) (page_length bytes) (length bytes) few)

-- ---- the end is after the page at the start

none_some : {X : Type 0} (k : ℕ) → None ≡ Some k → X
none_some k e = absurd cc

some_same : (a b : ℕ) → Some a ≡ Some b → a ≡ b
some_same a b e = cc

turn_least : (page last : Bool) (n k : ℕ) (later : Option ℕ) → turn page last n later ≡ Some k → n ≤ k
turn_least true true n k later e = omega (arith, some_same n k e)
turn_least true false n k None e = none_some k e
turn_least true false n k (Some m) e = omega (arith, some_same (n + m) k e)
turn_least false last n k later e = none_some k e

pub end_least : (bytes : List ℕ) (k : ℕ) → end_of bytes ≡ Some k → page_length bytes ≤ k
end_least bytes k e = turn_least (has_page bytes) (is_marked_last bytes) (page_length bytes) k (end_of (drop (page_length bytes) bytes)) (sym (page_turn bytes) ∙ e)

-- ---- after the bytes before its segments

further_add : (a b : ℕ) (later : Option ℕ) → further (a + b) later ≡ further a (further b later)
further_add a b None = refl
further_add a b (Some m) = let e : a + b + m ≡ a + (b + m) = omega arith in ap Some e

pub split_turn : (page last : Bool) (a b : ℕ) (later : Option ℕ) → turn page last (a + b) later ≡ further a (cond page (cond last (Some b) (further b later)) None)
split_turn true true a b later = refl
split_turn true false a b later = further_add a b later
split_turn false last a b later = refl

pub not_at_most : (a b : ℕ) → b < a → nat_le a b ≡ false
not_at_most a b lt = grind (arith, lt)

pub at_most : (a b : ℕ) → a ≤ b → nat_le a b ≡ true
at_most a b le = grind (arith, le)

pub same_test : (a b c : ℕ) → nat_le (a + b) (a + c) ≡ nat_le b c
same_test a b c = elim (cases_lt c b) [
  | inl lt ↦ not_at_most (a + b) (a + c) (omega (arith, lt)) ∙ sym (not_at_most b c lt)
  | inr le ↦ at_most (a + b) (a + c) (omega (arith, le)) ∙ sym (at_most b c le)
]

pub lead_end : (lead coming : List ℕ) → IsLead lead → IsFurther (length lead) (end_of (lead ++ coming)) (end_past (sum (drop 27 lead)) (is_marked_last lead) coming)
lead_end lead coming is =
    let bytes = lead ++ coming in
    let h = has_lead lead coming is in
    let s = sum (drop 27 lead) in
    let page : has_page bytes ≡ nat_le s (length coming) =
    ap (λ b. b && nat_le (page_length bytes) (length bytes)) h.begins ∙ ap (λ n. nat_le n (length bytes)) h.size ∙ ap (nat_le (length lead + s)) (length-append lead coming) ∙ same_test (length lead) s (length coming) in
    let last : is_marked_last bytes ≡ is_marked_last lead = ap (λ v. nat_eq (v / 4 % 2) 1) (get_or_append_left lead coming 0 5 (omega (arith, h.long))) in
    let rest : drop (page_length bytes) bytes ≡ drop s coming = ap (λ n. drop n bytes) h.size ∙ drop-append-add lead coming s in
    page_turn bytes
    ∙ ap (λ b. turn b (is_marked_last bytes) (page_length bytes) (end_of (drop (page_length bytes) bytes))) page
    ∙ ap (λ b. turn (nat_le s (length coming)) b (page_length bytes) (end_of (drop (page_length bytes) bytes))) last
    ∙ ap (λ n. turn (nat_le s (length coming)) (is_marked_last lead) n (end_of (drop (page_length bytes) bytes))) h.size
    ∙ ap (λ l. turn (nat_le s (length coming)) (is_marked_last lead) (length lead + s) (end_of l)) rest
    ∙ split_turn (nat_le s (length coming)) (is_marked_last lead) (length lead) s (end_of (drop s coming))

size_then : (seen : List ℕ) → 27 ≤ length seen → lead_size seen ≡ 27 + count_at seen
size_then seen long = let e : nat_lt (length seen) 27 ≡ false = grind (arith, long) in ap (λ b. cond b 27 (27 + count_at seen)) e

pub whole_size : (seen : List ℕ) → length seen ≡ lead_size seen → 27 ≤ length seen → length seen ≡ 27 + count_at seen
whole_size seen e long = e ∙ size_then seen long

-- they are no more than the page has
pub lead_within : (seen coming : List ℕ) → length seen ≤ lead_size seen → length seen ≤ page_length (seen ++ coming)
lead_within seen coming few = elim (cases_lt (length seen) 27) [
  | inl short ↦ omega (arith, short)
  | inr long ↦ omega (arith, few, size_then seen long, get_or_append_left seen coming 0 26 (omega (arith, long)))
]
