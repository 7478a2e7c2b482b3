-- For proofs of reading pages: pages that are read one after another.
use Rattle.std.specs.Prelude.{◌≡◌, ℕ, cond, true, false, List, [], ◌++◌, Option, Some, None, Ok, Err}
use Rattle.flac_bits.specs.Layout.{because}
use Rattle.flac_bits.specs.State.{State, Cursor}
use Rattle.flac_bits.specs.Unchecked.{begun_anew}
use Rattle.flac_bits.specs.declared.why.Why.{Why}
use Rattle.flac_bits.specs.declared.why.Why.TheVariants.{Truncated}
use Rattle.flac_pages.specs.declared.page.Before.{Before}
use Rattle.flac_pages.specs.Page.{Page, is_last, after_page}
use Rattle.flac_pages.specs.Pages.{next_page, end_fault}
use Rattle.flac_pages.specs.Packets.{Place, ahead}
use Rattle.flac_c.specs.inner.Blocks.{IfServed}

-- what the page after a page must agree with, if it is not marked last
abbrev pub after_or_last : Option Before → Page → Option Before
after_or_last before p = cond (is_last p.head.flags) None (Some (after_page before p))

-- a page was read, and the bytes of its segments are added to a list
pub record PageAdded (before : Option Before) (old new : State) (list longer : List ℕ) (after : Option Before) : Type 0 where
  pub page : Page
  pub read : begun_anew (next_page before old.cursor) ≡ Ok (page, new.cursor)
  pub added : longer ≡ list ++ page.body
  pub after_is : after ≡ after_or_last before page
  pub known : new.known ≡ true
  pub errors : new.errors ≡ old.errors
  pub short : new.cursor.mark.short ≡ old.cursor.mark.short

-- the next page is refused for this reason, if the source returned no error and memory did not run out
abbrev pub RefusesPage : Option Before → (old new : State) → Why → Type 0
RefusesPage before old new why = IfServed old new why (next_page before old.cursor ≡ Err (because why))

-- after this number of pages, the last of which is marked so, this is why nothing may come, if the source returned no
-- error
abbrev pub IsEndFault : (count : ℕ) → (old new : State) → ℕ × Why → Type 0
IsEndFault count old new e = new.errors ≡ old.errors → (e.0 ≡ count) × (end_fault old.cursor ≡ Some e.1)

-- a reader of packets in front of a page
abbrev pub in_front : Option Before → (count : ℕ) → Cursor → Place
in_front before count cursor = record {
  known = true;
  errors = 0;
  raised = 0;
  most = 0;
  names = [];
  rest = 0;
  more = false;
  lacing = [];
  body = [];
  last = false;
  before = before;
  count = count;
  cursor = cursor;
}

-- pages were read from the start on, whose segments have these bytes; further pages come
pub record Unpacking (start now : State) (before : Option Before) (count : ℕ) (list : List ℕ) : Type 0 where
  pub known : now.known ≡ true
  pub errors : now.errors ≡ start.errors
  pub short : now.cursor.mark.short ≡ Truncated
  pub bytes : (ahead (in_front None 0 start.cursor)).bytes ≡ list ++ (ahead (in_front before count now.cursor)).bytes
  pub stop : (ahead (in_front None 0 start.cursor)).stop ≡ (ahead (in_front before count now.cursor)).stop

-- all pages from the start on have these bytes, and none is refused
abbrev pub IsUnpacked : State → List ℕ → Type 0
IsUnpacked start list = ((ahead (in_front None 0 start.cursor)).bytes ≡ list) × ((ahead (in_front None 0 start.cursor)).stop ≡ None)

-- this page is refused, or a byte after all pages
abbrev pub StopsAt : State → ℕ × Why → Type 0
StopsAt start f = (ahead (in_front None 0 start.cursor)).stop ≡ Some f
