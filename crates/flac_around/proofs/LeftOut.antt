-- What is given in the place of a page.
use Rattle.std.proofs.Common.{◌≡◌, ◌<◌, ◌≤◌, ◌+◌, ◌-◌, ◌%◌, ℕ, zero, suc, [], ◌∷◌, ◌++◌, append_assoc, Bool, true, false, nat_eq, List, length, take, drop, get_or, set, refl, sym, ap, ◌∙◌, arith}
use Rattle.std.specs.Prelude.{cond, ◌&&◌, ◌||◌, not, nat_lt}
use Rattle.std.proofs.Math.Seq.{drop-cons, take-length}
use Rattle.std.proofs.lemmas.Bool.{and_parts}
use Rattle.std.proofs.lemmas.Grind.{take-set_at}
use Rattle.std.proofs.lemmas.List.{length-drop, length-take-le, drop_at, take-append-le, take-append-drop, take-take, drop-take, get_or-take, drop-drop, append-nil}
use Rattle.flac_around.specs.EmptyPackets.{Page, count_at, page_bytes, check_of, checked, kept, kept_of, without_empty, one_empty, given_for, leaves_out}
use Rattle.flac_around.specs.inner.Pages.{page_of, IsLead}
use Rattle.flac_around.proofs.PageChecks.{all_taken}

-- ---- a page by its parts

abbrev made : (fields lacing body : List ℕ) → Page
made fields lacing body = record { fields = fields; check = []; lacing = lacing; body = body }

by_parts : (p : Page) → page_bytes (checked p) ≡ page_bytes (checked (made p.fields p.lacing p.body))
unfolding check_of
by_parts p = refl

same_parts : (p q : Page) → p.fields ≡ q.fields → p.lacing ≡ q.lacing → p.body ≡ q.body → page_bytes (checked p) ≡ page_bytes (checked q)
same_parts p q a b c =
    by_parts p ∙ ap (λ l. page_bytes (checked (made l p.lacing p.body))) a ∙ ap (λ l. page_bytes (checked (made q.fields l p.body))) b ∙ ap (λ l. page_bytes (checked (made q.fields q.lacing l))) c ∙ sym (by_parts q)

-- it is what was read
pub page_whole : (lead body : List ℕ) → IsLead lead → page_bytes (page_of lead body) ≡ lead ++ body
page_whole lead body is =
    let long : 26 < length lead = omega (arith, is.count) in
    let lacing = drop 27 lead in
    let count : length lacing ≡ count_at lead = omega (arith, length-drop 27 lead, is.count) in
    let past : drop 4 (drop 22 lead) ≡ count_at lead ∷ lacing = drop-drop 4 22 lead ∙ drop-cons lead 26 0 long in
    ap (λ n. take 22 lead ++ (take 4 (drop 22 lead) ++ (n ∷ (lacing ++ body)))) count
    ∙ ap (λ l. take 22 lead ++ (take 4 (drop 22 lead) ++ (l ++ body))) (sym past)
    ∙ ap (λ l. take 22 lead ++ l) (sym (append_assoc (take 4 (drop 22 lead)) (drop 4 (drop 22 lead)) body) ∙ ap (λ l. l ++ body) (take-append-drop 4 (drop 22 lead)))
    ∙ sym (append_assoc (take 22 lead) (drop 22 lead) body) ∙ ap (λ l. l ++ body) (take-append-drop 22 lead)

-- ---- how many lacing values are kept

pub kept_is : (lead body : List ℕ) (k : ℕ) → k ≡ kept (nat_eq (get_or lead 5 0 % 2) 1) (take (length lead - 27) (drop 27 lead)) → k ≡ kept_of (page_of lead body)
kept_is lead body k is =
    is ∙ ap (kept (nat_eq (get_or lead 5 0 % 2) 1)) (all_taken 27 lead) ∙ ap (λ v. kept (nat_eq (v % 2) 1) (drop 27 lead)) (sym (get_or-take 22 lead 5 0 (omega arith)))

-- ---- a packet comes after empty ones that were left out

pub one_given : (left_out : Bool) (lead body page : List ℕ) (k : ℕ) → 28 ≤ length lead → k ≡ kept_of (page_of lead body) → left_out && not (nat_eq k 0) ≡ true → page ≡ page_bytes (checked (page_of (take 28 (set lead 27 0)) []))
    → page ++ [] ≡ page_bytes (given_for left_out (page_of lead body))
one_given left_out lead body page k long is after e =
    let p : Page = page_of lead body in
    let put : take 28 (set lead 27 0) ≡ take 27 lead ++ 0 ∷ [] = take-set_at lead 27 28 0 refl (omega (arith, long)) in
    let front : length (take 27 lead) ≡ 27 = length-take-le 27 lead (omega (arith, long)) in
    let fields : take 22 (take 28 (set lead 27 0)) ≡ take 22 lead = ap (take 22) put ∙ take-append-le 22 (take 27 lead) (0 ∷ []) (omega (arith, front)) ∙ take-take 22 27 lead (omega arith) in
    let lacing : drop 27 (take 28 (set lead 27 0)) ≡ 0 ∷ [] = ap (drop 27) put ∙ drop_at (take 27 lead) (0 ∷ []) 27 front in
    append-nil page ∙ e ∙ same_parts (page_of (take 28 (set lead 27 0)) []) (record p { lacing = 0 ∷ []; body = [] }) fields lacing refl
    ∙ ap (λ b. page_bytes (cond b (one_empty p) (without_empty p))) (sym (ap (λ n. left_out && not (nat_eq n 0)) (sym is) ∙ after))

-- one is kept then
pub some_kept : (left_out : Bool) (k : ℕ) → left_out && not (nat_eq k 0) ≡ true → 0 < k
some_kept left_out zero both = absurd (differ (and_parts left_out false both).1)
  where
    differ : false ≡ true → ⊥
    differ e = absurd cc
some_kept left_out (suc k) both = omega arith

pub left_before : (left_out other : Bool) (p : Page) → left_out && other ≡ true → true ≡ leaves_out left_out p
left_before left_out other p both = ap (λ b. b || nat_lt (kept_of p) (length p.lacing)) (sym ((and_parts left_out other both).0))

-- ---- no packet does

at_end : (left_out : Bool) (p : Page) (k : ℕ) → k ≡ kept_of p → left_out && not (nat_eq k 0) ≡ false → page_bytes (given_for left_out p) ≡ page_bytes (without_empty p)
at_end left_out p k is none = ap (λ b. page_bytes (cond b (one_empty p) (without_empty p))) (ap (λ n. left_out && not (nat_eq n 0)) (sym is) ∙ none)

or_not : (a : Bool) → a || false ≡ a
or_not true = refl
or_not false = refl

or_so : (a : Bool) → a || true ≡ true
or_so true = refl
or_so false = refl

same_number : (n : ℕ) → nat_eq n n ≡ true
same_number n = grind arith

not_less : (n : ℕ) → nat_lt n n ≡ false
not_less n = grind arith

other_number : (a b : ℕ) → a < b → nat_eq a b ≡ false
other_number a b lt = grind (arith, lt)

less : (a b : ℕ) → a < b → nat_lt a b ≡ true
less a b lt = grind (arith, lt)

-- all lacing values are kept
pub all_given : (left_out : Bool) (lead body : List ℕ) (k : ℕ) → IsLead lead → k ≡ kept_of (page_of lead body) → left_out && not (nat_eq k 0) ≡ false → k ≡ length lead - 27
    → take (length lead) lead ++ take (length body) body ≡ page_bytes (given_for left_out (page_of lead body))
all_given left_out lead body k is_lead is none all =
    let p : Page = page_of lead body in
    let same : kept_of p ≡ length p.lacing = sym is ∙ all ∙ sym (length-drop 27 lead) in
    ap (λ l. l ++ take (length body) body) (take-length lead) ∙ ap (λ l. lead ++ l) (take-length body) ∙ sym (page_whole lead body is_lead)
    ∙ ap (λ b. page_bytes (cond b p (checked (record p { lacing = take (kept_of p) p.lacing })))) (sym (ap (λ n. nat_eq n (length p.lacing)) same ∙ same_number (length p.lacing)))
    ∙ sym (at_end left_out p k is none)

pub none_left_out : (left_out : Bool) (lead body : List ℕ) (k : ℕ) → k ≡ kept_of (page_of lead body) → k ≡ length lead - 27 → left_out ≡ leaves_out left_out (page_of lead body)
none_left_out left_out lead body k is all =
    let n = length (drop 27 lead) in
    sym (ap (λ m. left_out || nat_lt m n) (sym is ∙ all ∙ sym (length-drop 27 lead)) ∙ ap (λ b. left_out || b) (not_less n) ∙ or_not left_out)

-- some are not
pub some_given : (left_out : Bool) (lead body new : List ℕ) (k : ℕ) → k ≡ kept_of (page_of lead body) → left_out && not (nat_eq k 0) ≡ false → k < length lead - 27 → new ++ body ≡ page_bytes (checked (page_of (take (27 + k) lead) body))
    → new ++ take (length body) body ≡ page_bytes (given_for left_out (page_of lead body))
some_given left_out lead body new k is none few e =
    let p : Page = page_of lead body in
    let more : k < length p.lacing = omega (arith, few, length-drop 27 lead) in
    let fields : take 22 (take (27 + k) lead) ≡ take 22 lead = take-take 22 (27 + k) lead (omega arith) in
    ap (λ l. new ++ l) (take-length body) ∙ e
    ∙ same_parts (page_of (take (27 + k) lead) body) (record p { lacing = take k p.lacing }) fields (drop-take 27 k lead) refl
    ∙ ap (λ n. page_bytes (checked (record p { lacing = take n p.lacing }))) is
    ∙ ap (λ b. page_bytes (cond b p (checked (record p { lacing = take (kept_of p) p.lacing })))) (sym (ap (λ n. nat_eq n (length p.lacing)) (sym is) ∙ other_number k (length p.lacing) more))
    ∙ sym (at_end left_out p k is none)

pub some_left_out : (left_out : Bool) (lead body : List ℕ) (k : ℕ) → k ≡ kept_of (page_of lead body) → k < length lead - 27 → true ≡ leaves_out left_out (page_of lead body)
some_left_out left_out lead body k is few =
    let n = length (drop 27 lead) in
    sym (ap (λ m. left_out || nat_lt m n) (sym is) ∙ ap (λ b. left_out || b) (less k n (omega (arith, few, length-drop 27 lead))) ∙ or_so left_out)
