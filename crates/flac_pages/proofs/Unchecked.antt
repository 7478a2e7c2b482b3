-- Pages are the same pages, whatever the checks of their bits are.
use Rattle.std.proofs.Common.{◌≡◌, ℕ, zero, suc, ◌+◌, ◌*◌, Bool, true, false, cond, List, [], ◌∷◌, length, Option, Some, Result, Ok, Err, refl, sym, ap, subst, ◌∙◌, ◌<◌, ◌^◌}
use Rattle.std.specs.Prelude.{⊤}
use Rattle.std.specs.List.{sum}
use Rattle.flac_bits.specs.Bits.{bit_value}
use Rattle.flac_bits.specs.State.{Mark, Cursor, step, fresh}
use Rattle.flac_bits.specs.Layout.{Layout, done, bind, bits, unary, judge, refuse, mark, Rule, Reason, because, next_bit, number_from, number_at, and_then, unless_broken, run}
use Rattle.flac_bits.specs.Lists.{list_of}
use Rattle.flac_bits.specs.LittleEndian.{little_32, little_64}
use Rattle.flac_bits.specs.Unchecked.{begun_anew}
use Rattle.flac_bits.proofs.Readings.{at_}
use Rattle.flac_bits.proofs.Unchecked.{strip_fresh}
use Rattle.flac_bits.specs.declared.why.Why.{Why}
use Rattle.flac_pages.specs.declared.page.Before.{Before}
use Rattle.flac_pages.specs.Page.{Page, page_after, head_after, is_last, after_page}
use Rattle.flac_pages.specs.Pages.{Stop, Run, closed, broken, one, none, between, page_or_end, next_page, went_on, pages_in, pages_of, pages_after, end_fault}
use Rattle.flac_pages.specs.Packets.{Place, ahead, to_come, fault_of, stop_of, page_index}
use Rattle.flac_pages.specs.inner.Packets.{only_fault}
use Rattle.flac_pages.proofs.Anew.{anew_is, anew_err}
use Rattle.flac_pages.proofs.Turns.{good_turn}
use Rattle.flac_pages.proofs.Stepping.{ahead_is, turned, refused}

-- the same bits are to come, and they run short for the same reason
abbrev pub alike : Cursor → Cursor → Type 0
alike c d = (c.left ≡ d.left) × (c.mark.short ≡ d.mark.short)

-- the same is read, to where the same bits are to come
abbrev pub Same : {A : Type 0} → Result (A × Cursor) Reason → Result (A × Cursor) Reason → Type 0
Same (Ok x) (Ok y) = (x.0 ≡ y.0) × alike x.1 y.1
Same (Ok x) (Err e) = ⊥
Same (Err e) (Ok y) = ⊥
Same (Err e) (Err f) = e ≡ f

-- a layout gives the same at both marks, whatever is to come
abbrev Agrees : {A : Type 0} → Layout A → Type 0
Agrees l = (t : List Bool) (m k : Mark) → m.short ≡ k.short → Same (run l (at_ t m)) (run l (at_ t k))

-- fields and rules alone: no check is asked for
abbrev pub Plain : {A : Type 0} → Layout A → Type 0
Plain (done x) = ⊤
Plain (bind {A = A} l f) = Plain l × ((x : A) → Plain (f x))
Plain (bits n) = ⊤
Plain (unary limit) = ⊥
Plain (judge rules) = ⊤
Plain (refuse why) = ⊤
Plain mark = ⊥

plain_number : (n v : ℕ) (t : List Bool) (m k : Mark) → m.short ≡ k.short → Same (number_from n v (at_ t m)) (number_from n v (at_ t k))
unfolding number_from next_bit
plain_number zero v t m k e = (refl, (refl, e))
plain_number (suc n) v [] m k e = ap because e
plain_number (suc n) v (b ∷ t) m k e = plain_number n (2 * v + bit_value b) t (step b m) (step b k) e

plain_rules : {X : Type 0} (rules : List Rule) (r s : Result (X × Cursor) Reason) → Same r s → Same (unless_broken rules r) (unless_broken rules s)
plain_rules [] r s same = same
plain_rules (rule ∷ rules) r s same = go rule.broken (plain_rules rules r s same)
  where
    go : (b : Bool) → Same (unless_broken rules r) (unless_broken rules s) → Same (cond b (Err (because rule.why)) (unless_broken rules r)) (cond b (Err (because rule.why)) (unless_broken rules s))
    go true others = refl
    go false others = others

moved : {A B : Type 0} (f : A → Layout B) (x y : A × Cursor) → x.0 ≡ y.0 → x.1.left ≡ y.1.left → Same (run (f x.0) x.1) (run (f x.0) (at_ x.1.left y.1.mark)) → Same (run (f x.0) x.1) (run (f y.0) y.1)
moved f x y same left runs =
    let there : Same (run (f x.0) x.1) (run (f x.0) y.1) = subst (λ (t : List Bool). Same (run (f x.0) x.1) (run (f x.0) (at_ t y.1.mark))) left runs in
    subst (λ a. Same (run (f x.0) x.1) (run (f a) y.1)) same there

then_same : {A B : Type 0} (f : A → Layout B) (r s : Result (A × Cursor) Reason) → Same r s → ((x : A) → Agrees (f x)) → Same (and_then r (λ x d. run (f x) d)) (and_then s (λ x d. run (f x) d))
then_same f (Ok x) (Ok y) same more = moved f x y same.0 same.1.0 (more x.0 x.1.left x.1.mark y.1.mark same.1.1)
then_same f (Ok x) (Err w) same more = absurd same
then_same f (Err w) (Ok y) same more = absurd same
then_same f (Err w) (Err v) same more = same

plain_run : {A : Type 0} (l : Layout A) → Plain l → Agrees l
unfolding number_at
plain_run (done x) p t m k e = (refl, (refl, e))
plain_run (bind l f) p t m k e = then_same f (run l (at_ t m)) (run l (at_ t k)) (plain_run l p.0 t m k e) (λ x. plain_run (f x) (p.1 x))
plain_run (bits n) p t m k e = plain_number n 0 t m k e
plain_run (unary limit) p t m k e = absurd p
plain_run (judge rules) p t m k e = plain_rules rules (Ok (tt, at_ t m)) (Ok (tt, at_ t k)) (refl, (refl, e))
plain_run (refuse why) p t m k e = refl
plain_run mark p t m k e = absurd p

plain_list : {A : Type 0} (n : ℕ) (l : Layout A) → Plain l → Plain (list_of n l)
unfolding list_of
plain_list zero l p = tt
plain_list (suc n) l p = (p, λ x. (plain_list n l p, λ xs. tt))

plain_32 : Plain little_32
unfolding little_32
plain_32 = (tt, λ a. (tt, λ b. (tt, λ c. (tt, λ d. tt))))

plain_64 : Plain little_64
unfolding little_64
plain_64 = (plain_32, λ low. (plain_32, λ high. tt))

plain_head : (first : ℕ) → Plain (head_after first)
unfolding head_after
plain_head first = (tt, λ pattern. (tt, λ _. (tt, λ version. (tt, λ _. (tt, λ flags. (plain_64, λ granule. (plain_32, λ serial. (plain_32, λ sequence. (plain_32, λ sum. tt)))))))))

plain_page : (before : Option Before) (first : ℕ) → Plain (page_after before first)
unfolding page_after
plain_page before first = (plain_head first, λ head. (tt, λ count. (plain_list count (bits 8) tt, λ lacing. (plain_list (sum lacing) (bits 8) tt, λ body. (tt, λ _. tt)))))

-- ---- pages

plain_next : (before : Option Before) (t : List Bool) (m k : Mark) → m.short ≡ k.short → Same (next_page before (at_ t m)) (next_page before (at_ t k))
unfolding next_page number_at
plain_next before t m k e = go (number_at 8 (at_ t m)) (number_at 8 (at_ t k)) (plain_number 8 0 t m k e)
  where
    go : (r s : Result (ℕ × Cursor) Reason) → Same r s → Same (page_or_end before r) (page_or_end before s)
    go (Ok x) (Ok y) same = moved (page_after before) x y same.0 same.1.0 (plain_run (page_after before x.0) (plain_page before x.0) x.1.left x.1.mark y.1.mark same.1.1)
    go (Ok x) (Err w) same = absurd same
    go (Err w) (Ok y) same = absurd same
    go (Err w) (Err v) same = ap (λ (r : Reason). because (between r.why)) same

stops_alike : Stop → Stop → Type 0
stops_alike (closed c) (closed d) = alike c d
stops_alike (closed c) (broken v) = ⊥
stops_alike (broken w) (closed d) = ⊥
stops_alike (broken w) (broken v) = w ≡ v

abbrev runs_alike : Run → Run → Type 0
runs_alike r s = (r.pages ≡ s.pages) × stops_alike r.stop s.stop

-- all pages, in n turns at most, are the same at both marks
abbrev PagesAgree : ℕ → Type 0
PagesAgree n = (before : Option Before) (t : List Bool) (m k : Mark) → m.short ≡ k.short → runs_alike (pages_in n before (at_ t m)) (pages_in n before (at_ t k))

abbrev more_in : ℕ → Option Before → Page → Cursor → Run
more_in n before p d = cond (is_last p.head.flags) (none (closed d)) (pages_in n (Some (after_page before p)) d)

more_same : (n : ℕ) (before : Option Before) (b : Bool) (p : Page) (t : List Bool) (m k : Mark) → m.short ≡ k.short → PagesAgree n
    → runs_alike (one p (cond b (none (closed (at_ t m))) (pages_in n (Some (after_page before p)) (at_ t m)))) (one p (cond b (none (closed (at_ t k))) (pages_in n (Some (after_page before p)) (at_ t k))))
unfolding stops_alike
more_same n before true p t m k e others = (refl, (refl, e))
more_same n before false p t m k e others = let rest = others (Some (after_page before p)) t m k e in (ap (λ qs. p ∷ qs) rest.0, rest.1)

turn_same : (n : ℕ) (before : Option Before) (r s : Result (Page × Cursor) Reason) → Same r s → PagesAgree n → runs_alike (went_on r (more_in n before)) (went_on s (more_in n before))
unfolding stops_alike
turn_same n before (Ok x) (Ok y) same others =
    let there = subst (λ (t : List Bool). runs_alike (went_on (Ok x) (more_in n before)) (went_on (Ok (x.0, at_ t y.1.mark)) (more_in n before))) same.1.0 (more_same n before (is_last x.0.head.flags) x.0 x.1.left x.1.mark y.1.mark same.1.1 others) in
    subst (λ (p : Page). runs_alike (went_on (Ok x) (more_in n before)) (went_on (Ok (p, y.1)) (more_in n before))) same.0 there
turn_same n before (Ok x) (Err w) same others = absurd same
turn_same n before (Err w) (Ok y) same others = absurd same
turn_same n before (Err w) (Err v) same others = (refl, ap (λ (r : Reason). r.why) same)

plain_pages : (n : ℕ) → PagesAgree n
unfolding pages_in stops_alike
plain_pages zero before t m k e = (refl, (refl, e))
plain_pages (suc n) before t m k e = turn_same n before (next_page before (at_ t m)) (next_page before (at_ t k)) (plain_next before t m k e) (plain_pages n)

plain_after_pages : (b : Bool) (before : Option Before) (t : List Bool) (m k : Mark) → m.short ≡ k.short → runs_alike (pages_after b before (at_ t m)) (pages_after b before (at_ t k))
unfolding pages_of stops_alike
plain_after_pages true before t m k e = (refl, (refl, e))
plain_after_pages false before t m k e = plain_pages (length t + 1) before t m k e

same_fault : (n : ℕ) (r s : Stop) → stops_alike r s → fault_of n r ≡ fault_of n s
unfolding stops_alike
same_fault n (closed c) (closed d) e = refl
same_fault n (closed c) (broken v) e = absurd e
same_fault n (broken w) (closed d) e = absurd e
same_fault n (broken w) (broken v) e = ap (λ (k : Why). fault_of n (broken k)) e

same_stop : (n : ℕ) (r s : Stop) → stops_alike r s → stop_of n r ≡ stop_of n s
unfolding stops_alike end_fault
same_stop n (closed c) (closed d) e = rw (e.0, e.1) refl
same_stop n (closed c) (broken v) e = absurd e
same_stop n (broken w) (closed d) e = absurd e
same_stop n (broken w) (broken v) e = ap (λ (k : Why). stop_of n (broken k)) e

-- what good pages give does not depend on the checks
ahead_same : (old new : Place) → new.lacing ≡ old.lacing → new.body ≡ old.body → new.count ≡ old.count → runs_alike (to_come new) (to_come old) → ahead new ≡ ahead old
unfolding ahead
ahead_same old new l b n runs =
    let fault = ap (λ k. fault_of (k + length (to_come new).pages) (to_come new).stop) n ∙ ap (λ (ps : List Page). fault_of (old.count + length ps) (to_come new).stop) (runs.0) ∙ same_fault (old.count + length (to_come old).pages) (to_come new).stop (to_come old).stop (runs.1) in
    let stop = ap (λ k. stop_of (k + length (to_come new).pages) (to_come new).stop) n ∙ ap (λ (ps : List Page). stop_of (old.count + length ps) (to_come new).stop) (runs.0) ∙ same_stop (old.count + length (to_come old).pages) (to_come new).stop (to_come old).stop (runs.1) in
    ahead_is _ _ _ _ _ _ _ _ (rw (l, runs.0) refl) (rw (b, runs.0) refl) fault stop

-- ---- a page after which the checks begin anew

anew_alike : (c d : Cursor) → c ≡ record d { mark = fresh d.mark } → alike c d
anew_alike c d e = (ap (λ (k : Cursor). k.left) e, ap (λ (k : Cursor). k.mark.short) e ∙ ap (λ (m : Mark). m.short) (strip_fresh d.mark))

-- the next page: what good pages give stays
pub turned_anew : (old new : Place) (p : Page) → old.lacing ≡ [] → old.body ≡ [] → old.last ≡ false → begun_anew (next_page old.before old.cursor) ≡ Ok (p, new.cursor)
    → new.lacing ≡ p.lacing → new.body ≡ p.body → new.last ≡ is_last p.head.flags → new.before ≡ Some (after_page old.before p) → new.count ≡ page_index (old.count + 1) → ahead new ≡ ahead old
turned_anew old new p l b la next nl nb nla nf nc =
    let read = anew_is (next_page old.before old.cursor) p new.cursor next in
    let mid : Place = record new { cursor = read.0 } in
    let same = anew_alike new.cursor read.0 read.2 in
    let runs : runs_alike (to_come new) (to_come mid) = subst (λ (t : List Bool). runs_alike (to_come new) (pages_after new.last new.before (at_ t read.0.mark))) same.0 (plain_after_pages new.last new.before new.cursor.left new.cursor.mark read.0.mark same.1) in
    ahead_same mid new refl refl refl runs ∙ turned old mid p l b la read.1 nl nb nla nf nc

-- and it is the first of the pages to come
pub turned_first : (old : Place) (last : Bool) (before : Option Before) (c : Cursor) (p : Page) → old.last ≡ false → begun_anew (next_page old.before old.cursor) ≡ Ok (p, c) → last ≡ is_last p.head.flags → before ≡ Some (after_page old.before p)
    → (to_come old).pages ≡ p ∷ (pages_after last before c).pages
turned_first old last before c p la next nla nf =
    let read = anew_is (next_page old.before old.cursor) p c next in
    let same = anew_alike c read.0 read.2 in
    let runs : runs_alike (pages_after last before c) (pages_after last before read.0) = subst (λ (t : List Bool). runs_alike (pages_after last before c) (pages_after last before (at_ t read.0.mark))) same.0 (plain_after_pages last before c.left c.mark read.0.mark same.1) in
    let turn : pages_of old.before old.cursor ≡ one p (pages_after last before read.0) = good_turn old.before old.cursor p read.0 read.1 ∙ rw (nla, nf) refl in
    ap (λ b. (pages_after b old.before old.cursor).pages) la ∙ ap (λ (r : Run). r.pages) turn ∙ ap (λ ps. p ∷ ps) (sym runs.0)

pub refused_anew : (old : Place) (why : Why) → old.count < 2 ^ 64 → old.lacing ≡ [] → old.body ≡ [] → old.last ≡ false → begun_anew (next_page old.before old.cursor) ≡ Err (because why) → ahead old ≡ only_fault (old.count, why)
refused_anew old why small l b la next = refused old why small l b la (anew_err (next_page old.before old.cursor) (because why) next)
