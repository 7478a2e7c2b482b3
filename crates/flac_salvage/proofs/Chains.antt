-- The chain that is chosen is the best one.
use Rattle.std.proofs.Common.{◌≡◌, ◌⊎◌, inl, inr, ℕ, zero, suc, ◌+◌, ◌<◌, ◌≤◌, Bool, true, false, ◌&&◌, List, [], ◌∷◌, ◌++◌, append_assoc, length, drop, get_or, set, refl, sym, ap, subst, ◌∙◌, add-one, drop-cons, get_or-set_same, get_or-set_other, arith}
use Rattle.std.specs.Prelude.{cond, nat_le, nat_eq, max, ⊤}
use Rattle.std.proofs.lemmas.Bool.Decides.{nat_tests}
use Rattle.std.proofs.lemmas.Bool.{cases_lt}
use Rattle.std.proofs.lemmas.List.{append-nil}
use Rattle.flac_salvage.specs.declared.find.WholeFrame.{WholeFrame}
use Rattle.flac_salvage.specs.Chain.{end_of, samples_of, Rise, IsPart, IsBest, fits, chain}
use Rattle.flac_salvage.specs.inner.Values.{most_with, IsMost, AreMost}
use Rattle.flac_salvage.specs.declared.chain.Most.{Most}

by_test : {A : Type 0} → (t : Bool) (xs ys : A) (P : A → Type 0) → (t ≡ true → P xs) → (t ≡ false → P ys) → P (cond t xs ys)
by_test true xs ys P p q = p refl
by_test false xs ys P p q = q refl

fit_facts : (limit from : ℕ) (f : WholeFrame) → fits limit from f ≡ true → (from ≤ f.first) × (f.first + f.size ≤ limit)
fit_facts limit from f e = (grind (arith, nat_tests), grind (arith, nat_tests))

fit_is : (limit from : ℕ) (f : WholeFrame) → from ≤ f.first → f.first + f.size ≤ limit → fits limit from f ≡ true
fit_is limit from f a b = grind (arith, nat_tests)

fit_not : (limit from : ℕ) (f : WholeFrame) → fits limit from f ≡ true → (f.first < from → ⊥) × (limit < f.first + f.size → ⊥)
fit_not limit from f e = (λ h. absurd (omega (arith, (fit_facts limit from f e).0, h)), λ h. absurd (omega (arith, (fit_facts limit from f e).1, h)))

both : (s t : Bool) → (s && t) ≡ true → (s ≡ true) × (t ≡ true)
both true true e = (refl, refl)
both true false e = absurd cc
both false t e = absurd cc

no_more : (s : Bool) (a b : ℕ) → (s && nat_le a b) ≡ false → s ≡ true → b < a
no_more s a b e h = grind (arith, nat_tests)

no_less : (a b : ℕ) → nat_le a b ≡ true → a ≤ b
no_less a b e = grind (arith, nat_tests)

later : (some all : List WholeFrame) (g : WholeFrame) → IsPart some all → IsPart some (g ∷ all)
later [] all g p = tt
later (f ∷ some) all g p = inr p

-- the test whether a frame is taken
abbrev takes : (limit from : ℕ) → WholeFrame → List WholeFrame → Bool
takes limit from f more = fits limit from f && nat_le (samples_of (chain limit from more)) (samples_of (f ∷ chain limit (end_of f) more))

took : (limit from : ℕ) (f : WholeFrame) (more : List WholeFrame) → takes limit from f more ≡ true → (fits limit from f ≡ true) × (samples_of (chain limit from more) ≤ samples_of (f ∷ chain limit (end_of f) more))
took limit from f more t =
    let parts = both (fits limit from f) (nat_le (samples_of (chain limit from more)) (samples_of (f ∷ chain limit (end_of f) more))) t in
    (parts.0, no_less (samples_of (chain limit from more)) (samples_of (f ∷ chain limit (end_of f) more)) parts.1)

untaken : (limit from : ℕ) (f : WholeFrame) (more : List WholeFrame) → takes limit from f more ≡ false → fits limit from f ≡ true → samples_of (f ∷ chain limit (end_of f) more) < samples_of (chain limit from more)
untaken limit from f more t fit = no_more (fits limit from f) (samples_of (chain limit from more)) (samples_of (f ∷ chain limit (end_of f) more)) t fit

pub chain_part : (limit from : ℕ) (xs : List WholeFrame) → IsPart (chain limit from xs) xs
unfolding chain
chain_part limit from [] = tt
chain_part limit from (f ∷ more) = by_test (takes limit from f more) (f ∷ chain limit (end_of f) more) (chain limit from more) (λ (l : List WholeFrame). IsPart l (f ∷ more))
    (λ e. inl (refl, chain_part limit (end_of f) more)) (λ e. later (chain limit from more) more f (chain_part limit from more))

pub chain_rises : (limit from : ℕ) (xs : List WholeFrame) → Rise limit from (chain limit from xs)
unfolding chain
chain_rises limit from [] = tt
chain_rises limit from (f ∷ more) = by_test (takes limit from f more) (f ∷ chain limit (end_of f) more) (chain limit from more) (λ (l : List WholeFrame). Rise limit from l)
    (λ e. let facts = fit_facts limit from f (took limit from f more e).0 in (facts.0, (facts.1, chain_rises limit (end_of f) more))) (λ e. chain_rises limit from more)

samples_more : (f : WholeFrame) (more : List WholeFrame) → samples_of (f ∷ more) ≡ f.size + samples_of more
unfolding samples_of
samples_more f more = refl

samples_none : samples_of [] ≡ 0
unfolding samples_of
samples_none = refl

pub chain_most : (limit from : ℕ) (xs other : List WholeFrame) → IsPart other xs → Rise limit from other → samples_of other ≤ samples_of (chain limit from xs)
unfolding chain
chain_most limit from [] [] p r = let e = samples_none in omega (arith, e)
chain_most limit from [] (k ∷ o) p r = absurd p
chain_most limit from (f ∷ more) [] p r = let e = samples_none in omega (arith, e)
chain_most limit from (f ∷ more) (k ∷ o) (inl (e, p)) r =
    let same : k.size ≡ f.size = ap (λ (w : WholeFrame). w.size) e in
    let h : samples_of o ≤ samples_of (chain limit (end_of f) more) = chain_most limit (end_of f) more o p (subst (λ (w : WholeFrame). Rise limit (end_of w) o) e r.1.1) in
    let left : samples_of (k ∷ o) ≡ k.size + samples_of o = samples_more k o in
    let right : samples_of (f ∷ chain limit (end_of f) more) ≡ f.size + samples_of (chain limit (end_of f) more) = samples_more f (chain limit (end_of f) more) in
    let fit : fits limit from f ≡ true = subst (λ (w : WholeFrame). fits limit from w ≡ true) e (fit_is limit from k r.0 r.1.0) in
    by_test (takes limit from f more) (f ∷ chain limit (end_of f) more) (chain limit from more) (λ (l : List WholeFrame). samples_of (k ∷ o) ≤ samples_of l)
    (λ t. omega (arith, same, h, left, right)) (λ t. let less = untaken limit from f more t fit in omega (arith, same, h, left, right, less))
chain_most limit from (f ∷ more) (k ∷ o) (inr p) r =
    let h : samples_of (k ∷ o) ≤ samples_of (chain limit from more) = chain_most limit from more (k ∷ o) p r in
    by_test (takes limit from f more) (f ∷ chain limit (end_of f) more) (chain limit from more) (λ (l : List WholeFrame). samples_of (k ∷ o) ≤ samples_of l)
    (λ t. let some = (took limit from f more t).1 in omega (arith, h, some)) (λ t. h)

pub chain_is_best : (limit from : ℕ) (xs : List WholeFrame) → IsBest limit from xs (chain limit from xs)
chain_is_best limit from xs = record { part = chain_part limit from xs; rise = chain_rises limit from xs; most = chain_most limit from xs }

part_less : (some all : List WholeFrame) → IsPart some all → samples_of some ≤ samples_of all
part_less [] all p = let e = samples_none in omega (arith, e)
part_less (f ∷ some) [] p = absurd p
part_less (f ∷ some) (g ∷ all) (inl (e, p)) =
    let h = part_less some all p in
    let same : f.size ≡ g.size = ap (λ (w : WholeFrame). w.size) e in
    omega (arith, h, same, samples_more f some, samples_more g all)
part_less (f ∷ some) (g ∷ all) (inr p) = let h = part_less (f ∷ some) all p in omega (arith, h, samples_more g all)

-- frames that rise are chosen
pub rising_is_chain : (limit from : ℕ) (xs : List WholeFrame) → Rise limit from xs → chain limit from xs ≡ xs
unfolding chain
rising_is_chain limit from [] r = refl
rising_is_chain limit from (f ∷ more) r =
    let same : chain limit (end_of f) more ≡ more = rising_is_chain limit (end_of f) more r.1.1 in
    let fewer : samples_of (chain limit from more) ≤ samples_of more = part_less (chain limit from more) more (chain_part limit from more) in
    let fit : fits limit from f ≡ true = fit_is limit from f r.0 r.1.0 in
    let all : samples_of (chain limit (end_of f) more) ≡ samples_of more = ap samples_of same in
    by_test (takes limit from f more) (f ∷ chain limit (end_of f) more) (chain limit from more) (λ (l : List WholeFrame). l ≡ f ∷ more)
    (λ t. ap (λ (l : List WholeFrame). f ∷ l) same)
    (λ t. let less = untaken limit from f more t fit in absurd (omega (arith, fewer, all, less, samples_more f (chain limit (end_of f) more))))

weaker : (limit to from : ℕ) (xs : List WholeFrame) → to ≤ from → Rise limit from xs → Rise limit to xs
weaker limit to from [] h r = tt
weaker limit to from (f ∷ more) h r = (let a = r.0 in omega (arith, a, h), r.1)

pub most_from : (limit from : ℕ) (xs : List WholeFrame) → samples_of (chain limit from xs) ≤ samples_of (chain limit 0 xs)
most_from limit from xs = chain_most limit 0 xs (chain limit from xs) (chain_part limit from xs) (weaker limit 0 from (chain limit from xs) (omega arith) (chain_rises limit from xs))

room_of : (limit from : ℕ) (xs : List WholeFrame) → from ≤ limit → Rise limit from xs → from + samples_of xs ≤ limit
room_of limit from [] h r = let e = samples_none in omega (arith, h, e)
room_of limit from (f ∷ more) h r =
    let a = r.0 in let b = r.1.0 in
    let rest = room_of limit (end_of f) more b r.1.1 in
    omega (arith, a, b, rest, samples_more f more)

pub room : (limit from : ℕ) (xs : List WholeFrame) → from ≤ limit → from + samples_of (chain limit from xs) ≤ limit
room limit from xs h = room_of limit from (chain limit from xs) h (chain_rises limit from xs)

-- ---- how many samples

with_in : (limit : ℕ) (f : WholeFrame) (more : List WholeFrame) → end_of f ≤ limit → most_with limit (f ∷ more) ≡ f.size + samples_of (chain limit (end_of f) more)
unfolding most_with
with_in limit f more h = by_test (nat_le (end_of f) limit) (samples_of (f ∷ chain limit (end_of f) more)) 0 (λ k. k ≡ f.size + samples_of (chain limit (end_of f) more))
    (λ e. samples_more f (chain limit (end_of f) more)) (λ e. absurd (let l : limit < end_of f = grind (arith, nat_tests) in omega (arith, h, l)))

with_out : (limit : ℕ) (f : WholeFrame) (more : List WholeFrame) → limit < end_of f → most_with limit (f ∷ more) ≡ 0
unfolding most_with
with_out limit f more h = by_test (nat_le (end_of f) limit) (samples_of (f ∷ chain limit (end_of f) more)) 0 (λ k. k ≡ 0)
    (λ e. absurd (let l : end_of f ≤ limit = no_less (end_of f) limit e in omega (arith, h, l))) (λ e. refl)

-- a frame that may come next
pub step_in : (limit from : ℕ) (f : WholeFrame) (more : List WholeFrame) → from ≤ f.first → samples_of (chain limit from (f ∷ more)) ≡ max (samples_of (chain limit from more)) (most_with limit (f ∷ more))
unfolding chain
step_in limit from f more h = by_test (takes limit from f more) (f ∷ chain limit (end_of f) more) (chain limit from more) (λ (l : List WholeFrame). samples_of l ≡ max (samples_of (chain limit from more)) (most_with limit (f ∷ more)))
    (λ t. let facts = took limit from f more t in let fit = (fit_facts limit from f facts.0).1 in let e = with_in limit f more fit in let some = facts.1 in omega (arith, e, some, samples_more f (chain limit (end_of f) more)))
    (λ t. not_taken t (cases_lt limit (end_of f)))
  where
    not_taken : takes limit from f more ≡ false → ((limit < end_of f) ⊎ (end_of f ≤ limit)) → samples_of (chain limit from more) ≡ max (samples_of (chain limit from more)) (most_with limit (f ∷ more))
    not_taken t (inl out) = let e = with_out limit f more out in omega (arith, e)
    not_taken t (inr fit) = let less = untaken limit from f more t (fit_is limit from f h fit) in let e = with_in limit f more fit in omega (arith, e, less, samples_more f (chain limit (end_of f) more))

-- one that may not
pub step_out : (limit from : ℕ) (f : WholeFrame) (more : List WholeFrame) → f.first < from → chain limit from (f ∷ more) ≡ chain limit from more
unfolding chain
step_out limit from f more h = by_test (takes limit from f more) (f ∷ chain limit (end_of f) more) (chain limit from more) (λ (l : List WholeFrame). l ≡ chain limit from more)
    (λ t. absurd ((fit_not limit from f (took limit from f more t).0).0 h)) (λ t. refl)

-- ---- frames from an index on

abbrev pub zero_frame : WholeFrame
zero_frame = record { at = 0; bytes = 0; first = 0; size = 0 }

abbrev pub zero_most : Most
zero_most = record { first = 0; any = 0 }

pub drop_past : (xs : List WholeFrame) (k : ℕ) → length xs ≤ k → drop k xs ≡ []
drop_past [] zero h = refl
drop_past [] (suc k) h = refl
drop_past (x ∷ xs) zero h = absurd (omega (arith, h))
drop_past (x ∷ xs) (suc k) h = drop_past xs k (omega (arith, h))

pub frame_at : (xs : List WholeFrame) (i : ℕ) → i < length xs → drop i xs ≡ get_or xs i zero_frame ∷ drop (i + 1) xs
frame_at xs i h = rw (add-one, drop-cons xs i zero_frame) refl

pub rise_on : (limit from i : ℕ) (xs : List WholeFrame) → i < length xs → fits limit from (get_or xs i zero_frame) ≡ true → Rise limit (end_of (get_or xs i zero_frame)) (drop (i + 1) xs) → Rise limit from (drop i xs)
rise_on limit from i xs h fit r =
    let facts = fit_facts limit from (get_or xs i zero_frame) fit in
    subst (λ (l : List WholeFrame). Rise limit from l) (sym (frame_at xs i h)) (facts.0, (facts.1, r))

pub all_are_chain : (limit from i : ℕ) (xs : List WholeFrame) → length xs ≤ i → (Rise limit from (drop i xs) → Rise limit 0 xs) → chain limit 0 xs ≡ xs
all_are_chain limit from i xs past rises = rising_is_chain limit 0 xs (rises (subst (λ (l : List WholeFrame). Rise limit from l) (sym (drop_past xs i past)) tt))

pub top_ends : (limit from i top t : ℕ) (xs : List WholeFrame) → length xs ≤ i → max top (samples_of (chain limit from (drop i xs))) ≡ t → top ≡ t
unfolding chain
top_ends limit from i top t xs past e =
    let none : samples_of (chain limit from (drop i xs)) ≡ 0 = ap (λ (l : List WholeFrame). samples_of (chain limit from l)) (drop_past xs i past) ∙ samples_none in
    omega (arith, none, e)

pub top_stays : (limit from top t : ℕ) (xs : List WholeFrame) (m : Most) → IsMost limit xs m → m.any ≤ top → max top (samples_of (chain limit from xs)) ≡ t → top ≡ t
top_stays limit from top t xs m is less e = let a = is.any in let b = most_from limit from xs in omega (arith, a, b, less, e)

pub top_rises : (limit from i top new t : ℕ) (xs : List WholeFrame) (m : Most) → i < length xs → IsMost limit (drop i xs) m
    → (from ≤ (get_or xs i zero_frame).first → new ≡ max top m.first) → ((get_or xs i zero_frame).first < from → new ≡ top)
    → max top (samples_of (chain limit from (drop i xs))) ≡ t → max new (samples_of (chain limit from (drop (i + 1) xs))) ≡ t
top_rises limit from i top new t xs m h is may not e = by_case (cases_lt (get_or xs i zero_frame).first from)
  where
    f : WholeFrame
    f = get_or xs i zero_frame

    is_first : m.first ≡ most_with limit (f ∷ drop (i + 1) xs)
    is_first = is.first ∙ ap (λ (l : List WholeFrame). most_with limit l) (frame_at xs i h)

    here : samples_of (chain limit from (drop i xs)) ≡ samples_of (chain limit from (f ∷ drop (i + 1) xs))
    here = ap (λ (l : List WholeFrame). samples_of (chain limit from l)) (frame_at xs i h)

    by_case : ((f.first < from) ⊎ (from ≤ f.first)) → max new (samples_of (chain limit from (drop (i + 1) xs))) ≡ t
    by_case (inl early) =
        let a : new ≡ top = not early in
        let b : samples_of (chain limit from (f ∷ drop (i + 1) xs)) ≡ samples_of (chain limit from (drop (i + 1) xs)) = ap samples_of (step_out limit from f (drop (i + 1) xs) early) in
        omega (arith, a, b, here, e)
    by_case (inr late) =
        let a : new ≡ max top m.first = may late in
        let b = step_in limit from f (drop (i + 1) xs) late in
        omega (arith, a, b, here, is_first, e)

pub none_with : (limit i : ℕ) (xs : List WholeFrame) → i < length xs → fits limit 0 (get_or xs i zero_frame) ≡ false → 0 ≡ most_with limit (drop i xs)
none_with limit i xs h no_fit =
    let f : WholeFrame = get_or xs i zero_frame in
    let long : limit < f.first + f.size = grind (arith, nat_tests) in
    sym (ap (λ (l : List WholeFrame). most_with limit l) (frame_at xs i h) ∙ with_out limit f (drop (i + 1) xs) long)

pub some_with : (limit i rest : ℕ) (xs : List WholeFrame) → i < length xs → fits limit 0 (get_or xs i zero_frame) ≡ true
    → rest ≡ samples_of (chain limit (end_of (get_or xs i zero_frame)) (drop (i + 1) xs))
    → ((get_or xs i zero_frame).size + rest ≤ limit) × ((get_or xs i zero_frame).size + rest ≡ most_with limit (drop i xs))
some_with limit i rest xs h fit is =
    let f : WholeFrame = get_or xs i zero_frame in
    let facts = fit_facts limit 0 f fit in
    let within = room limit (end_of f) (drop (i + 1) xs) facts.1 in
    let e : most_with limit (drop i xs) ≡ f.size + samples_of (chain limit (end_of f) (drop (i + 1) xs)) = ap (λ (l : List WholeFrame). most_with limit l) (frame_at xs i h) ∙ with_in limit f (drop (i + 1) xs) facts.1 in
    (omega (arith, within, is), omega (arith, e, is))

pub one_before : (limit j i any first : ℕ) (xs : List WholeFrame) (ms : List Most) → j + 1 ≡ i → i ≤ length xs → length ms ≡ length xs → AreMost limit xs i ms
    → any ≡ samples_of (chain limit 0 (drop i xs)) → first ≡ most_with limit (drop j xs)
    → AreMost limit xs j (set ms j (record { first = first; any = max any first })) × (max any first ≡ samples_of (chain limit 0 (drop j xs)))
one_before limit j i any first xs ms next within same known is_any is_first = (λ k from below. each k from below (cases_lt j k), top)
  where
    f : WholeFrame
    f = get_or xs j zero_frame

    new : Most
    new = record { first = first; any = max any first }

    split : drop j xs ≡ f ∷ drop (j + 1) xs
    split = frame_at xs j (omega (arith, next, within))

    after : samples_of (chain limit 0 (drop (j + 1) xs)) ≡ samples_of (chain limit 0 (drop i xs))
    after = ap (λ k. samples_of (chain limit 0 (drop k xs))) next

    whole : samples_of (chain limit 0 (drop j xs)) ≡ samples_of (chain limit 0 (f ∷ drop (j + 1) xs))
    whole = ap (λ (l : List WholeFrame). samples_of (chain limit 0 l)) split

    with_is : most_with limit (drop j xs) ≡ most_with limit (f ∷ drop (j + 1) xs)
    with_is = ap (λ (l : List WholeFrame). most_with limit l) split

    top : max any first ≡ samples_of (chain limit 0 (drop j xs))
    top = let b = step_in limit 0 f (drop (j + 1) xs) (omega arith) in omega (arith, b, after, whole, with_is, is_any, is_first)

    here : IsMost limit (drop j xs) new
    here = record { first = is_first; any = top }

    each : (k : ℕ) → j ≤ k → k < length xs → ((j < k) ⊎ (k ≤ j)) → IsMost limit (drop k xs) (get_or (set ms j new) k zero_most)
    each k from below (inl more) = subst (λ (m : Most). IsMost limit (drop k xs) m) (sym (get_or-set_other ms j k new zero_most (λ e. absurd (omega (arith, e, more))))) (known k (omega (arith, more, next)) below)
    each k from below (inr less) =
        let e : j ≡ k = omega (arith, from, less) in
        subst (λ n. IsMost limit (drop n xs) (get_or (set ms j new) n zero_most)) e
        (subst (λ (m : Most). IsMost limit (drop j xs) m) (sym (get_or-set_same ms j new zero_most (omega (arith, same, next, within)))) here)

pub none_most : (limit i : ℕ) (xs : List WholeFrame) (ms : List Most) → length xs ≤ i → AreMost limit xs i ms × (0 ≡ samples_of (chain limit 0 (drop i xs)))
unfolding chain
none_most limit i xs ms past = (
  λ k from below. absurd (omega (arith, from, below, past)),
  sym (ap (λ (l : List WholeFrame). samples_of (chain limit 0 l)) (drop_past xs i past) ∙ samples_none),
)

equal_test : (a b : ℕ) → nat_eq a b ≡ true → a ≡ b
equal_test a b e = grind (arith, nat_tests)

pub is_next : (limit from i left : ℕ) (xs : List WholeFrame) (m : Most) → i < length xs → IsMost limit (drop i xs) m → left ≡ samples_of (chain limit from (drop i xs))
    → (fits limit from (get_or xs i zero_frame) && nat_eq m.first left) ≡ true
    → (chain limit from (drop i xs) ≡ get_or xs i zero_frame ∷ chain limit (end_of (get_or xs i zero_frame)) (drop (i + 1) xs))
    × (left ≡ (get_or xs i zero_frame).size + samples_of (chain limit (end_of (get_or xs i zero_frame)) (drop (i + 1) xs)))
unfolding chain
is_next limit from i left xs m h is is_left test = (split_chain ∙ chosen, omega (arith, is_first, equal, e))
  where
    f : WholeFrame
    f = get_or xs i zero_frame

    more : List WholeFrame
    more = drop (i + 1) xs

    parts : (fits limit from f ≡ true) × (nat_eq m.first left ≡ true)
    parts = both (fits limit from f) (nat_eq m.first left) test

    fit : (from ≤ f.first) × (f.first + f.size ≤ limit)
    fit = fit_facts limit from f parts.0

    equal : m.first ≡ left
    equal = equal_test m.first left parts.1

    is_first : m.first ≡ most_with limit (f ∷ more)
    is_first = is.first ∙ ap (λ (l : List WholeFrame). most_with limit l) (frame_at xs i h)

    e : most_with limit (f ∷ more) ≡ f.size + samples_of (chain limit (end_of f) more)
    e = with_in limit f more fit.1

    split_chain : chain limit from (drop i xs) ≡ chain limit from (f ∷ more)
    split_chain = ap (λ (l : List WholeFrame). chain limit from l) (frame_at xs i h)

    whole : left ≡ samples_of (chain limit from (f ∷ more))
    whole = is_left ∙ ap samples_of split_chain

    chosen : chain limit from (f ∷ more) ≡ f ∷ chain limit (end_of f) more
    chosen = by_test (takes limit from f more) (f ∷ chain limit (end_of f) more) (chain limit from more) (λ (l : List WholeFrame). left ≡ samples_of l → l ≡ f ∷ chain limit (end_of f) more)
        (λ t s. refl)
        (λ t s. let less = untaken limit from f more t parts.0 in absurd (omega (arith, less, s, equal, is_first, e, samples_more f (chain limit (end_of f) more)))) whole

pub is_not_next : (limit from i left : ℕ) (xs : List WholeFrame) (m : Most) → i < length xs → IsMost limit (drop i xs) m → left ≡ samples_of (chain limit from (drop i xs))
    → (fits limit from (get_or xs i zero_frame) && nat_eq m.first left) ≡ false
    → chain limit from (drop i xs) ≡ chain limit from (drop (i + 1) xs)
unfolding chain
is_not_next limit from i left xs m h is is_left test = split_chain ∙ skipped
  where
    f : WholeFrame
    f = get_or xs i zero_frame

    more : List WholeFrame
    more = drop (i + 1) xs

    is_first : m.first ≡ most_with limit (f ∷ more)
    is_first = is.first ∙ ap (λ (l : List WholeFrame). most_with limit l) (frame_at xs i h)

    split_chain : chain limit from (drop i xs) ≡ chain limit from (f ∷ more)
    split_chain = ap (λ (l : List WholeFrame). chain limit from l) (frame_at xs i h)

    whole : left ≡ samples_of (chain limit from (f ∷ more))
    whole = is_left ∙ ap samples_of split_chain

    differ : (fit : fits limit from f ≡ true) → m.first ≡ left → ⊥
    differ fit same = both_true (fits limit from f) (nat_eq m.first left) test fit (same_test m.first left same)
      where
        both_true : (s t : Bool) → (s && t) ≡ false → s ≡ true → t ≡ true → ⊥
        both_true s t e a b = absurd cc

        same_test : (a b : ℕ) → a ≡ b → nat_eq a b ≡ true
        same_test a b e = grind (arith, nat_tests)

    skipped : chain limit from (f ∷ more) ≡ chain limit from more
    skipped = by_test (takes limit from f more) (f ∷ chain limit (end_of f) more) (chain limit from more) (λ (l : List WholeFrame). left ≡ samples_of l → l ≡ chain limit from more)
        (λ t s. let fit = (took limit from f more t).0 in
        let e = with_in limit f more (fit_facts limit from f fit).1 in
        absurd (differ fit (omega (arith, is_first, e, s, samples_more f (chain limit (end_of f) more)))))
        (λ t s. refl) whole

pub one_more : (limit from to i : ℕ) (xs old new whole : List WholeFrame) (f : WholeFrame) → old ++ chain limit from (drop i xs) ≡ whole → new ≡ old ++ f ∷ [] → to ≡ end_of f
    → chain limit from (drop i xs) ≡ f ∷ chain limit (end_of f) (drop (i + 1) xs) → new ++ chain limit to (drop (i + 1) xs) ≡ whole
one_more limit from to i xs old new whole f so_far is to_is split =
    ap (λ (l : List WholeFrame). l ++ chain limit to (drop (i + 1) xs)) is ∙ append_assoc old (f ∷ []) (chain limit to (drop (i + 1) xs)) ∙ ap (λ k. old ++ f ∷ chain limit k (drop (i + 1) xs)) to_is
    ∙ ap (λ (l : List WholeFrame). old ++ l) (sym split) ∙ so_far

pub no_more_kept : (limit from to i : ℕ) (xs old new whole : List WholeFrame) → old ++ chain limit from (drop i xs) ≡ whole → new ≡ old → to ≡ from
    → chain limit from (drop i xs) ≡ chain limit from (drop (i + 1) xs) → new ++ chain limit to (drop (i + 1) xs) ≡ whole
no_more_kept limit from to i xs old new whole so_far is to_is same =
    ap (λ (l : List WholeFrame). l ++ chain limit to (drop (i + 1) xs)) is ∙ ap (λ k. old ++ chain limit k (drop (i + 1) xs)) to_is ∙ ap (λ (l : List WholeFrame). old ++ l) (sym same) ∙ so_far

pub all_kept : (limit from i : ℕ) (xs kept whole : List WholeFrame) → length xs ≤ i → kept ++ chain limit from (drop i xs) ≡ whole → kept ≡ whole
unfolding chain
all_kept limit from i xs kept whole past e = sym (append-nil kept) ∙ ap (λ (l : List WholeFrame). kept ++ l) (sym (ap (λ (l : List WholeFrame). chain limit from l) (drop_past xs i past))) ∙ e
