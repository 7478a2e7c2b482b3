-- Which good pages an input begins with, and how they end, apart from any reading (RFC 3533, section 6).
use Rattle.std.specs.Prelude.{◌≡◌, ◌↔◌, ◌<◌, ◌≤◌, Bool, true, false, List, [], ◌∷◌, ◌++◌, length, Option, Some, Result, IfOk, IfErr, IsOkAnd, IsErrAnd, ◌⊎◌, ⊤}
use Rattle.flac_bits.specs.State.{Mark, Cursor, State, past}
use Rattle.flac_bits.specs.Meaning.{Spells, Shows, IsCut}
use Rattle.flac_bits.specs.Unchecked.{Passes}
use Rattle.flac_bits.specs.declared.why.Why.{Why}
use Rattle.flac_pages.specs.declared.page.Before.{Before}
use Rattle.flac_pages.specs.Page.{Page, page, is_last, after_page}
use Rattle.flac_pages.specs.Pages.{GoodPages, Run, Stop, closed, broken, between, pages_of}

-- no page is marked last
abbrev pub NoneLast : List Page → Type 0
NoneLast [] = ⊤
NoneLast (p ∷ ps) = (is_last p.head.flags ≡ false) × NoneLast ps

-- the final page is marked last, and no other
abbrev pub FinalLast : List Page → Type 0
FinalLast [] = ⊥
FinalLast (p ∷ ps) = ((is_last p.head.flags ≡ true) × (ps ≡ [])) ⊎ ((is_last p.head.flags ≡ false) × FinalLast ps)

-- the state after these pages
abbrev pub left_by : Option Before → List Page → Option Before
left_by before [] = before
left_by before (p ∷ ps) = left_by (Some (after_page before p)) ps

-- there is no page, for this reason: a prefix shows the page's own; or the input ends before the page's first byte; or
-- it ends inside
abbrev pub IsNoPage : Option Before → Mark → List Bool → Why → Type 0
IsNoPage before m left why =
    ((front : List Bool) × (rest : List Bool) × (left ≡ front ++ rest) × Shows (page before) m front why)
    ⊎ (((length left < 8) × (why ≡ between m.short))
    ⊎ ((8 ≤ length left) × IsCut (page before) m left × (why ≡ m.short)))

-- What was returned for the next page follows from the meaning of a page alone: a page is the one that a prefix of the
-- input spells, and the reader is after exactly its bits, the checks begun anew; and if there is none, it is refused
-- for that reason.
pub record DecodesPage {X : Type 0} (view : X → Page) (before : Option Before) (old new : Cursor) (result : Result X Why) : Type 0 where
  pub found : IfOk result (λ x. (text : List Bool) × Passes text old new × Spells (page before) old.mark text (view x))
  pub only : (text rest : List Bool) (p : Page) → old.left ≡ text ++ rest → Spells (page before) old.mark text p → IsOkAnd result (λ x. (view x ≡ p) × (new.left ≡ rest))
  pub fault : IfErr result (λ why. IsNoPage before old.mark old.left why)
  pub refused : (why : Why) → IsNoPage before old.mark old.left why → IsErrAnd result (λ e. e ≡ why)

-- this holds if the bytes of the source are known and it returned no error in the call
abbrev pub MeansPage : {X : Type 0} → (X → Page) → Option Before → State → State → Result X Why → Type 0
MeansPage view before old new result = old.known ≡ true → new.errors ≡ old.errors → DecodesPage view before old.cursor new.cursor result

-- these pages end so, after the bits `text` that spell them, with `rest` left
abbrev pub EndsSo : Option Before → Mark → List Page → (text rest : List Bool) → Stop → Type 0
EndsSo before m pages text rest (closed d) = FinalLast pages × (d ≡ record { left = rest; mark = past text m })
EndsSo before m pages text rest (broken why) = NoneLast pages × IsNoPage (left_by before pages) (past text m) rest why

-- the input begins with exactly these good pages, up to the one marked last or to a refused one
pub record IsRun (before : Option Before) (c : Cursor) (r : Run) : Type 0 where
  pub text : List Bool
  pub rest : List Bool
  pub stands : c.left ≡ text ++ rest
  pub good : GoodPages before c.mark r.pages text
  pub ends : EndsSo before c.mark r.pages text rest r.stop

-- each input begins with one such list of pages, and it is the one that reading gives
abbrev pub PagesAreRuns : Type 0
PagesAreRuns = (before : Option Before) (c : Cursor) (r : Run) → IsRun before c r ↔ (pages_of before c ≡ r)
