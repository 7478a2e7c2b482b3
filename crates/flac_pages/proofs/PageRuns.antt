-- The pages that reading gives are the good pages that the input begins with.
use Rattle.std.proofs.Common.{◌≡◌, ℕ, zero, suc, ◌<◌, ◌≤◌, Bool, true, false, List, [], ◌∷◌, ◌++◌, length, Option, Some, Result, Ok, Err, refl, sym, ap, subst, ◌∙◌, arith, append_assoc, length-append, inl, inr}
use Rattle.std.proofs.lemmas.List.{append-nil}
use Rattle.flac_bits.specs.Bits.{unsigned}
use Rattle.flac_bits.specs.State.{Mark, Cursor, past}
use Rattle.flac_bits.specs.Layout.{bits, run, number_at, and_then, Reason, because}
use Rattle.flac_bits.specs.Meaning.{Spells, Shows, IsCut}
use Rattle.flac_bits.specs.declared.why.Why.{Why}
use Rattle.flac_bits.proofs.Readings.{at_, past-append}
use Rattle.flac_bits.proofs.Meaning.{again, shown, cut_short, takes, refuses, past-short, why_is}
use Rattle.flac_pages.specs.declared.page.Before.{Before}
use Rattle.flac_pages.specs.Page.{Page, page, page_after, is_last, after_page}
use Rattle.flac_pages.specs.Pages.{GoodPages, Run, Stop, closed, broken, one, none, between, page_or_end, next_page, pages_of, pages_after}
use Rattle.flac_pages.specs.Runs.{left_by, IsNoPage, EndsSo, IsRun, PagesAreRuns}
use Rattle.flac_pages.proofs.Turns.{is_page, shorter, good_turn, bad_turn}

abbrev run_of : List Page → Stop → Run
run_of pages stop = record { pages = pages; stop = stop }

-- ---- one page

-- a page is the next one
page_next : (before : Option Before) (c d : Cursor) (p : Page) → run (page before) c ≡ Ok (p, d) → next_page before c ≡ Ok (p, d)
unfolding next_page page
page_next before c d p e = go (number_at 8 c) e
  where
    go : (r : Result (ℕ × Cursor) Reason) → and_then r (λ x k. run (page_after before x) k) ≡ Ok (p, d) → page_or_end before r ≡ Ok (p, d)
    go (Ok x) e = e
    go (Err w) e = absurd cc

-- the first byte, and what is after it
abbrev page_at : Option Before → Result (ℕ × Cursor) Reason → Result (Page × Cursor) Reason
page_at before r = page_or_end before r

pub no_page_read : (before : Option Before) (m : Mark) (left : List Bool) (why : Why) → IsNoPage before m left why → next_page before (at_ left m) ≡ Err (because why)
unfolding next_page page
no_page_read before m left why (inl (front, rest, split, inl shows)) = absurd shows
no_page_read before m left why (inl (front, rest, split, inr (x, part, more, parts, spelled, shows))) =
    let all : left ≡ part ++ (more ++ rest) = split ∙ ap (λ t. t ++ rest) parts ∙ append_assoc part more rest in
    ap (page_at before) (ap (λ t. number_at 8 (at_ t m)) all ∙ again (bits 8) m part (more ++ rest) x spelled) ∙ shown (page_after before x) (past part m) more rest why shows
no_page_read before m left why (inr (inl (short, is))) = ap (page_at before) (cut_short (bits 8) left m short) ∙ ap (λ (w : Why). refused w) (sym is)
  where
    refused : Why → Result (Page × Cursor) Reason
    refused w = Err (because w)
no_page_read before m left why (inr (inr (long, inl short, is))) = absurd (omega (arith, long, short))
no_page_read before m left why (inr (inr (long, inr (x, part, rest, split, spelled, cut), is))) =
    ap (page_at before) (ap (λ t. number_at 8 (at_ t m)) split ∙ again (bits 8) m part rest x spelled) ∙ cut_short (page_after before x) rest (past part m) cut ∙ ap (λ (w : Why). refused w) (past-short part m ∙ sym is)
  where
    refused : Why → Result (Page × Cursor) Reason
    refused w = Err (because w)

eight : (v : ℕ) (part rest left : List Bool) → part ≡ unsigned 8 v → left ≡ part ++ rest → 8 ≤ length left
eight v part rest left e split = omega (arith, ap length split, length-append part rest, ap length e)

pub read_no_page : (before : Option Before) (m : Mark) (left : List Bool) (why : Why) → next_page before (at_ left m) ≡ Err (because why) → IsNoPage before m left why
unfolding next_page page
read_no_page before m left why e = go (number_at 8 (at_ left m)) refl e
  where
    go : (r : Result (ℕ × Cursor) Reason) → number_at 8 (at_ left m) ≡ r → page_or_end before r ≡ Err (because why) → IsNoPage before m left why
    go (Ok x) ran e =
        let t = takes (bits 8) left m x.0 x.1 ran in
        elim (refuses (page_after before x.0) x.1.left x.1.mark why e) [
          | inl (front, rest, split, shows) ↦
              inl (t.0 ++ front, rest, t.1 ∙ ap (λ r. t.0 ++ r) split ∙ sym (append_assoc t.0 front rest), inr (x.0, t.0, front, refl, t.2, subst (λ (k : Mark). Shows (page_after before x.0) k front why) t.3 shows))
          | inr (is, cut) ↦
              inr (inr (
                eight x.0 t.0 x.1.left left t.2.1 t.1,
                inr (x.0, t.0, x.1.left, t.1, t.2, subst (λ (k : Mark). IsCut (page_after before x.0) k x.1.left) t.3 cut),
                is ∙ ap (λ (k : Mark). k.short) t.3 ∙ past-short t.0 m,
              ))
        ]
    go (Err w) ran e = elim (refuses (bits 8) left m w.why ran) [
      | inl (front, rest, split, shows) ↦ absurd shows
      | inr (is, short) ↦ inr (inl (short, sym (why_is {A = Page} (between w.why) why e) ∙ ap between is))
    ]

-- ---- what is read is a run

one_page : (before : Option Before) (c d : Cursor) (p : Page) (text : List Bool) → c.left ≡ text ++ d.left → Spells (page before) c.mark text p → d.mark ≡ past text c.mark → is_last p.head.flags ≡ true → IsRun before c (one p (none (closed d)))
one_page before c d p text split spelled mark final = record {
  text = text;
  rest = d.left;
  stands = split;
  good = (text, [], sym (append-nil text), spelled, refl);
  ends = (inl (final, refl), ap (λ k. at_ d.left k) mark);
}

more_ends : (before : Option Before) (m k : Mark) (p : Page) (pages : List Page) (stop : Stop) (front text rest : List Bool) → k ≡ past front m → is_last p.head.flags ≡ false
    → EndsSo (Some (after_page before p)) k pages text rest stop → EndsSo before m (p ∷ pages) (front ++ text) rest stop
more_ends before m k p pages (closed d) front text rest mark more ends = (inr (more, ends.0), ends.1 ∙ ap (λ k. at_ rest (past text k)) mark ∙ ap (λ k. at_ rest k) (sym (past-append front text m)))
more_ends before m k p pages (broken why) front text rest mark more ends =
    ((more, ends.0), subst (λ (k : Mark). IsNoPage (left_by (Some (after_page before p)) pages) k rest why) (ap (λ k. past text k) mark ∙ sym (past-append front text m)) ends.1)

more_pages : (before : Option Before) (c d : Cursor) (p : Page) (front : List Bool) (r : Run) → c.left ≡ front ++ d.left → Spells (page before) c.mark front p → d.mark ≡ past front c.mark → is_last p.head.flags ≡ false
    → IsRun (Some (after_page before p)) d r → IsRun before c (one p r)
more_pages before c d p front r split spelled mark more i = record {
  text = front ++ i.text;
  rest = i.rest;
  stands = split ∙ ap (λ t. front ++ t) i.stands ∙ sym (append_assoc front i.text i.rest);
  good = (front, i.text, refl, spelled, subst (λ (k : Mark). GoodPages (Some (after_page before p)) k r.pages i.text) mark i.good);
  ends = more_ends before c.mark d.mark p r.pages r.stop front i.text i.rest mark more i.ends;
}

no_pages : (before : Option Before) (c : Cursor) (why : Why) → IsNoPage before c.mark c.left why → IsRun before c (none (broken why))
no_pages before c why is = record { text = []; rest = c.left; stands = refl; good = refl; ends = (tt, is) }

run_within : (n : ℕ) (before : Option Before) (c : Cursor) → length c.left < n → IsRun before c (pages_of before c)
run_within zero before c lt = absurd (omega arith)
run_within (suc n) before c lt = go (next_page before c) refl (λ k d fewer. run_within n k d fewer)
  where
    after : (d : Cursor) (p : Page) (text : List Bool) → c.left ≡ text ++ d.left → Spells (page before) c.mark text p → d.mark ≡ past text c.mark → (IsRun (Some (after_page before p)) d (pages_of (Some (after_page before p)) d))
        → (b : Bool) → is_last p.head.flags ≡ b → IsRun before c (one p (pages_after b (Some (after_page before p)) d))
    after d p text split spelled mark others true e = one_page before c d p text split spelled mark e
    after d p text split spelled mark others false e = more_pages before c d p text (pages_of (Some (after_page before p)) d) split spelled mark e others

    go : (r : Result (Page × Cursor) Reason) → next_page before c ≡ r → ((k : Option Before) (d : Cursor) → length d.left < n → IsRun k d (pages_of k d)) → IsRun before c (pages_of before c)
    go (Ok x) e others =
        let t = takes (page before) c.left c.mark x.0 x.1 (is_page before c x.0 x.1 e) in
        let fewer : length x.1.left < n = omega (arith, shorter before c x.0 x.1 e, lt) in
        subst (λ (r : Run). IsRun before c r) (sym (good_turn before c x.0 x.1 e))
        (after x.1 x.0 t.0 t.1 t.2 t.3 (others (Some (after_page before x.0)) x.1 fewer) (is_last x.0.head.flags) refl)
    go (Err w) e others = subst (λ (r : Run). IsRun before c r) (sym (bad_turn before c w e)) (no_pages before c w.why (read_no_page before c.mark c.left w.why e))

-- ---- a run is what is read

pub next_again : (before : Option Before) (m : Mark) (front rest : List Bool) (p : Page) → Spells (page before) m front p → next_page before (at_ (front ++ rest) m) ≡ Ok (p, at_ rest (past front m))
next_again before m front rest p spelled = page_next before (at_ (front ++ rest) m) (at_ rest (past front m)) p (again (page before) m front rest p spelled)

read_again : (before : Option Before) (m : Mark) (pages : List Page) (stop : Stop) (text rest : List Bool) → GoodPages before m pages text → EndsSo before m pages text rest stop → pages_of before (at_ (text ++ rest) m) ≡ run_of pages stop
read_again before m [] (closed d) text rest good ends = absurd ends.0
read_again before m [] (broken why) text rest good ends =
    let none_there : IsNoPage before m rest why = subst (λ (t : List Bool). IsNoPage before (past t m) rest why) good ends.1 in
    ap (λ t. pages_of before (at_ (t ++ rest) m)) good ∙ bad_turn before (at_ rest m) (because why) (no_page_read before m rest why none_there)
read_again before m (p ∷ ps) stop text rest (front, more, split, spelled, good) ends =
    let d : Cursor = at_ (more ++ rest) (past front m) in
    let all : text ++ rest ≡ front ++ (more ++ rest) = ap (λ t. t ++ rest) split ∙ append_assoc front more rest in
    ap (λ t. pages_of before (at_ t m)) all ∙ good_turn before (at_ (front ++ (more ++ rest)) m) p d (next_again before m front (more ++ rest) p spelled)
    ∙ go stop ends (λ s e. read_again (Some (after_page before p)) (past front m) ps s more rest good e)
  where
    mark : past text m ≡ past more (past front m)
    mark = ap (λ t. past t m) split ∙ past-append front more m

    go : (stop : Stop) → EndsSo before m (p ∷ ps) text rest stop
        → ((s : Stop) → EndsSo (Some (after_page before p)) (past front m) ps more rest s → pages_of (Some (after_page before p)) (at_ (more ++ rest) (past front m)) ≡ run_of ps s)
        → one p (pages_after (is_last p.head.flags) (Some (after_page before p)) (at_ (more ++ rest) (past front m))) ≡ run_of (p ∷ ps) stop
    go (closed d) (inl (final, nil), is) others =
        let nothing : more ≡ [] = subst (λ (qs : List Page). GoodPages (Some (after_page before p)) (past front m) qs more) nil good in
        let there : at_ (more ++ rest) (past front m) ≡ d = ap (λ t. at_ (t ++ rest) (past front m)) nothing ∙ ap (λ t. at_ rest (past t (past front m))) (sym nothing) ∙ ap (λ k. at_ rest k) (sym mark) ∙ sym is in
        ap (λ b. one p (pages_after b (Some (after_page before p)) (at_ (more ++ rest) (past front m)))) final ∙ ap (λ k. run_of (p ∷ []) (closed k)) there ∙ ap (λ qs. run_of (p ∷ qs) (closed d)) (sym nil)
    go (closed d) (inr (further, final), is) others =
        ap (λ b. one p (pages_after b (Some (after_page before p)) (at_ (more ++ rest) (past front m)))) further
        ∙ ap (λ r. one p r) (others (closed d) (final, is ∙ ap (λ k. at_ rest k) mark))
    go (broken why) ((further, unmarked), is) others =
        ap (λ b. one p (pages_after b (Some (after_page before p)) (at_ (more ++ rest) (past front m)))) further
        ∙ ap (λ r. one p r) (others (broken why) (unmarked, subst (λ (k : Mark). IsNoPage (left_by (Some (after_page before p)) ps) k rest why) mark is))

pub pages_are_runs : PagesAreRuns
pages_are_runs before c r = (
  λ i. ap (λ t. pages_of before (at_ t c.mark)) i.stands ∙ read_again before c.mark r.pages r.stop i.text i.rest i.good i.ends,
  λ e. subst (λ (r : Run). IsRun before c r) e (run_within (suc (length c.left)) before c (omega arith)),
)
