-- What is returned for the next page is what a page means.
use Rattle.std.proofs.Common.{◌≡◌, ℕ, ◌++◌, Option, Result, Ok, Err, sym, ap, ◌∙◌}
use Rattle.flac_bits.specs.State.{Cursor, State, past, fresh}
use Rattle.flac_bits.specs.Layout.{run, number_at, Reason, because}
use Rattle.flac_bits.specs.Reading.{Answers, Gives}
use Rattle.flac_bits.specs.Unchecked.{begun_anew}
use Rattle.flac_bits.specs.declared.why.Why.{Why}
use Rattle.flac_bits.proofs.Readings.{at_}
use Rattle.flac_bits.proofs.Meaning.{takes, is_ok_of, why_is, differ}
use Rattle.flac_pages.specs.declared.page.Before.{Before}
use Rattle.flac_pages.specs.Page.{Page, page, page_after}
use Rattle.flac_pages.specs.Pages.{between, page_or_end, next_page}
use Rattle.flac_pages.specs.Runs.{DecodesPage, MeansPage}
use Rattle.flac_pages.proofs.Anew.{anew_is, anew_err}
use Rattle.flac_pages.proofs.Turns.{is_page}
use Rattle.flac_pages.proofs.PageRuns.{no_page_read, read_no_page, next_again}

decodes_page : {X : Type 0} (view : X → Page) (before : Option Before) (old new : Cursor) (result : Result X Why) → Answers view (begun_anew (next_page before old)) new result → DecodesPage view before old new result
decodes_page view before old new (Ok x) answers =
    let read = anew_is (next_page before old) (view x) new answers in
    let same = ap (λ (c : Cursor). c.left) read.2 in
    record {
      found = let t = takes (page before) old.left old.mark (view x) read.0 (is_page before old (view x) read.0 read.1) in (t.0, (t.1 ∙ ap (λ r. t.0 ++ r) (sym same), ap (λ (c : Cursor). c.mark) read.2 ∙ ap fresh t.3), t.2);
      only = λ text rest p e s.
          let both = is_ok_of (view x) p read.0 (at_ rest (past text old.mark)) (sym read.1 ∙ ap (λ t. next_page before (at_ t old.mark)) e ∙ next_again before old.mark text rest p s) in
          (both.0, same ∙ ap (λ (c : Cursor). c.left) both.1);
      fault = tt;
      refused = λ why none. differ (view x, read.0) (because why) (sym read.1 ∙ no_page_read before old.mark old.left why none);
    }
decodes_page view before old new (Err why) answers =
    let read = anew_err (next_page before old) (because why) answers in
    record {
      found = tt;
      only = λ text rest p e s. differ (p, at_ rest (past text old.mark)) (because why) (sym (next_again before old.mark text rest p s) ∙ ap (λ t. next_page before (at_ t old.mark)) (sym e) ∙ read);
      fault = read_no_page before old.mark old.left why read;
      refused = λ w none. why_is why w (sym read ∙ no_page_read before old.mark old.left w none);
    }

-- a call that reads the next page answers what a page means
pub means_page : {X : Type 0} (view : X → Page) (before : Option Before) (old new : State) (result : Result X Why) → Gives view (begun_anew (next_page before old.cursor)) old new result → MeansPage view before old new result
means_page view before old new result reads known same = decodes_page view before old.cursor new.cursor result (reads known same)

-- after the page's first byte
pub next_after_byte : (before : Option Before) (c d : Cursor) (first : ℕ) (r : Result (Page × Cursor) Reason) → number_at 8 c ≡ Ok (first, d) → begun_anew (run (page_after before first) d) ≡ r → begun_anew (next_page before c) ≡ r
unfolding next_page
next_after_byte before c d first r e read = ap (λ b. begun_anew (page_or_end before b)) e ∙ read

-- without a first byte
pub next_cut : (before : Option Before) (c : Cursor) (why told : Why) → number_at 8 c ≡ Err (because why) → told ≡ between why → begun_anew (next_page before c) ≡ Err (because told)
unfolding next_page
next_cut before c why told e is = ap (λ b. begun_anew (page_or_end before b)) e ∙ ap (λ (w : Why). refused w) (sym is)
  where
    refused : Why → Result (Page × Cursor) Reason
    refused w = Err (because w)
