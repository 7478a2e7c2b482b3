-- Pages one after another, to the last one or to a fault (RFC 3533, section 6).
use Rattle.std.specs.Prelude.{◌≡◌, ℕ, zero, suc, ◌+◌, Bool, true, false, cond, List, [], ◌∷◌, ◌++◌, length, Option, Some, None, Result, Ok, Err}
use Rattle.flac_bits.specs.Bits.{is_nil}
use Rattle.flac_bits.specs.State.{Mark, Cursor, past}
use Rattle.flac_bits.specs.Layout.{run, number_at, Reason, because}
use Rattle.flac_bits.specs.Meaning.{Spells}
use Rattle.flac_bits.specs.declared.why.Why.{Why}
use Rattle.flac_bits.specs.declared.why.Why.TheVariants.{NoEndPage, PageOrder, Truncated}
use Rattle.flac_pages.specs.declared.page.Before.{Before}
use Rattle.flac_pages.specs.Page.{Page, page, page_after, is_last, after_page}

-- ---- what good pages are

-- these bits are good pages, one after another
abbrev pub GoodPages : Option Before → Mark → List Page → List Bool → Type 0
GoodPages before m [] text = text ≡ []
GoodPages before m (p ∷ ps) text = (front : List Bool) × (rest : List Bool) × (text ≡ front ++ rest) × Spells (page before) m front p × GoodPages (Some (after_page before p)) (past front m) ps rest

-- ---- what reading gives

-- How the good pages end: a page marked last was among them, and this follows it; or the next one is refused.
pub data Stop : Type 0 where
  closed : Cursor → Stop
  broken : Why → Stop

pub record Run : Type 0 where
  pub pages : List Page
  pub stop : Stop

abbrev pub one : Page → Run → Run
one p r = record { pages = p ∷ r.pages; stop = r.stop }

abbrev pub none : Stop → Run
none stop = record { pages = []; stop = stop }

-- if no page has begun, the end of the input is another fault than inside a page
abbrev pub between : Why → Why
between Truncated = NoEndPage
between other = other

abbrev pub page_or_end : Option Before → Result (ℕ × Cursor) Reason → Result (Page × Cursor) Reason
page_or_end before (Ok x) = run (page_after before x.0) x.1
page_or_end before (Err e) = Err (because (between e.why))

-- the next page, or why there is none
unfoldable pub next_page : Option Before → Cursor → Result (Page × Cursor) Reason
next_page before c = page_or_end before (number_at 8 c)

abbrev pub went_on : Result (Page × Cursor) Reason → (Page → Cursor → Run) → Run
went_on (Ok x) more = one x.0 (more x.0 x.1)
went_on (Err e) more = none (broken e.why)

-- in at most n turns
unfoldable pub pages_in : ℕ → Option Before → Cursor → Run
pages_in zero before c = none (closed c)
pages_in (suc n) before c = went_on (next_page before c) (λ p d. cond (is_last p.head.flags) (none (closed d)) (pages_in n (Some (after_page before p)) d))

-- all good pages, and how they end; each takes some bits, so that these are turns enough
unfoldable pub pages_of : Option Before → Cursor → Run
pages_of before c = pages_in (length c.left + 1) before c

-- the pages after one, which may be marked last
abbrev pub pages_after : Bool → Option Before → Cursor → Run
pages_after true before c = none (closed c)
pages_after false before c = pages_of before c

-- the input's end is no fault there
abbrev pub unless_over : Why → Option Why
unless_over Truncated = None
unless_over other = Some other

-- after the page marked last nothing may follow
unfoldable pub end_fault : Cursor → Option Why
end_fault c = cond (is_nil c.left) (unless_over c.mark.short) (Some PageOrder)
