use Rattle.std.proofs.Common.{◌∙◌, sym, ap, subst, Ok, arith}
use Rattle.flac_whole_pages.specs.Found.{FoundUpTo, FoundIn}
use Rattle.flac_whole_pages.proofs.Finding.{given, and_next, and_none, and_end, and_cut}
use Rattle.flac_whole_pages.proofs.Nones.{has_bytes}
use Rattle.flac_whole_pages.proofs.find.whole_pages.Goals as goal
use Rattle.flac_whole_pages.proofs.find.whole_pages.Goals.{else-looking-test, then-looking-test+in-Ok+in-None, then-looking-test+in-Err}

pub looking-smaller : goal.looking-smaller
looking-smaller c =
    let next = given c.args.bytes.now c.looking.at c.in-Ok.next c.in-Some.page c.in-Some.is c.in-Ok.ensures.found in
    let has = has_bytes c.args.bytes.now c.in-Some.page next.stands in
    let some = has.0 in
    let inside = has.1 in
    let after = next.after in
    omega (arith, some, inside, after)

pub looking-preserved : goal.looking-preserved
looking-preserved c =
    let bytes = c.args.bytes.now in
    let page = c.in-Some.page in
    let next = given bytes c.looking.at c.in-Ok.next page c.in-Some.is c.in-Ok.ensures.found in
    record {
      within = (has_bytes bytes page next.stands).1;
      none = c.looking.invariant.none;
      found = subst (λ l. FoundUpTo bytes page.end c.args.from l) (sym c.in_ok-push-in-Some.ensures.items) (and_next bytes c.args.from c.looking.at c.looking.pages.items page c.looking.invariant.found next);
    }

pub returns-clause-found : goal.returns-clause-found
returns-clause-found c =
    let bytes = c.args.bytes.now in
    let from = c.args.from in
    let pages = c.looking.pages.items in
    elim c.looking-test.branch [
      | else-looking-test w ↦
          subst (λ o. FoundIn bytes from o pages) (sym (w.cut-is ∙ c.looking.invariant.none))
          (and_end bytes from c.looking.at pages c.looking.invariant.found w.looking-test.false)
      | then-looking-test+in-Ok+in-None w ↦
          subst (λ o. FoundIn bytes from o pages) (sym (w.cut-is ∙ c.looking.invariant.none))
          (and_none bytes from c.looking.at pages c.looking.invariant.found (w.next_whole_page.ensures.none (w.in-Ok.is ∙ ap (λ o. Ok o) w.in-None.is)))
      | then-looking-test+in-Err w ↦
          let spent = w.in-Err.ensures.spent in
          subst (λ o. FoundIn bytes from o pages) (sym w.cut-is)
          (and_cut bytes from c.looking.at w.in-Err.end pages c.looking.invariant.found spent.1 spent.2)
    ]
