use Rattle.std.proofs.Common.{◌≡◌, true, ◌+◌, drop, Some, [], ap, sym, ◌∙◌, refl, arith}
use Rattle.std.specs.Prelude.{min}
use Rattle.std.specs.List.{sum}
use Rattle.std.proofs.lemmas.List.{drop_all}
use Rattle.flac_pages.specs.declared.page.Head.{Head}
use Rattle.flac_pages.specs.Page.{after_page, went_on, goes_on_after, is_last}
use Rattle.flac_bits.specs.Unchecked.{begun_anew}
use Rattle.flac_pages.specs.Pages.{next_page}
use Rattle.flac_pages.specs.Packets.{Place}
use Rattle.flac_pages.proofs.Stepping.{met_then}
use Rattle.flac_pages.proofs.Paged.{turned_pages, turned_breaks, none_read}
use Rattle.flac_pages.proofs.Unchecked.{turned_anew, turned_first, refused_anew}
use Rattle.flac_pages.proofs.pages.Pages.turn.Goals as goal

pub returns-in-Ok-clause-turns : goal.returns-in-Ok-clause-turns
returns-in-Ok-clause-turns g c =
    let inside = c.self.inside in
    let is = c.self.view_is in
    let page = c.next_page_by_layout.new.room in
    let rest = ap (λ (p : Place). p.rest) is ∙ c.requires.rest in
    let none = ap (λ (p : Place). p.lacing) is ∙ c.requires.read in
    let no_body : drop inside.at inside.page.body ≡ [] = drop_all inside.at inside.page.body (omega (arith, ap sum none, rest, c.self.invariant.2)) in
    let counts = c.in-Ok.ensures.reading.counts in
    let went : c.went_on-went_on.result ≡ went_on c.args.self.now.before = c.went_on-went_on.ensures ∙ ap (λ (p : Place). went_on p.before) is in
    let going : c.goes_on_after-goes_on.result ≡ goes_on_after (went_on c.args.self.now.before) page.lacing = c.goes_on_after-goes_on.ensures ∙ ap (goes_on_after c.went_on-went_on.result) c.lacing.ensures.values ∙ ap (λ b. goes_on_after b page.lacing) went in
    let before_is : Some record { serial = c.head-head.result.serial; sequence = c.head-head.result.sequence; goes_on = c.goes_on_after-goes_on.result } ≡ Some (after_page c.args.self.now.before page) = rw (c.head-head.ensures, going) refl in
    let last = c.is_last-self-inside.ensures ∙ ap (λ (h : Head). is_last h.flags) c.head-head.ensures in
    let count = c.saturating_add-self-inside.ensures ∙ ap (λ (p : Place). min (p.count + 1) 18446744073709551615) is in
    let read = λ (known : c.args.self.now.known ≡ true). ap (λ (p : Place). begun_anew (next_page p.before p.cursor)) (sym is) ∙ c.in-Ok.ensures.reading.reads (ap (λ (p : Place). p.known) is ∙ known) counts.1 in
    record {
      known = λ known. counts.0 (ap (λ (p : Place). p.known) is ∙ known);
      errors = counts.1 ∙ ap (λ (p : Place). p.errors) is;
      raised = counts.2 ∙ ap (λ (p : Place). p.raised) is;
      names = counts.4 ∙ ap (λ (p : Place). p.names) is;
      rest = rest;
      more = ap (λ (p : Place). p.more) is;
      room = omega (arith, ap (λ (p : Place). p.most) is, c.in-Ok.ensures.reading.spends);
      spends = omega (arith, ap (λ (p : Place). p.most) is, c.in-Ok.ensures.reading.spends, c.in-Ok.ensures.whole.2);
      ahead = λ known. turned_anew c.args.self.now _ page c.requires.read (sym (ap (λ (p : Place). p.body) is) ∙ no_body) c.requires.last
          (read known) refl refl last before_is count;
      pages = λ known. turned_pages c.args.self.now _ page (turned_first c.args.self.now _ _ _ page c.requires.last (read known) last before_is) count;
      breaks = λ known. turned_breaks c.args.self.now _ page (omega (arith, ap (λ (p : Place). p.count) is)) c.requires.read (turned_first c.args.self.now _ _ _ page c.requires.last (read known) last before_is) refl count;
    }

pub returns-in-Err-clause-turns : goal.returns-in-Err-clause-turns
returns-in-Err-clause-turns g c =
    let inside = c.self.inside in
    let is = c.self.view_is in
    let rest = ap (λ (p : Place). p.rest) is ∙ c.requires.rest in
    let none = ap (λ (p : Place). p.lacing) is ∙ c.requires.read in
    let no_body : drop inside.at inside.page.body ≡ [] = drop_all inside.at inside.page.body (omega (arith, ap sum none, rest, c.self.invariant.2)) in
    let errors = ap (λ (p : Place). p.errors) is in
    record {
      errors = omega (arith, errors, c.in-Err.ensures.reading.counts.0);
      met = met_then c.in-Err.why _ _ _ (ap (λ (p : Place). p.raised) is) (c.in-Err.ensures.reading.counts.4, c.in-Err.ensures.reading.counts.5);
      names = c.in-Err.ensures.reading.counts.3 ∙ ap (λ (p : Place). p.names) is;
      count = ap (λ (p : Place). p.count) is;
      last = ap (λ (p : Place). p.last) is ∙ c.requires.last;
      ahead = λ known same. refused_anew c.args.self.now c.in-Err.why (omega (arith, ap (λ (p : Place). p.count) is)) c.requires.read (sym (ap (λ (p : Place). p.body) is) ∙ no_body) c.requires.last
          (ap (λ (p : Place). begun_anew (next_page p.before p.cursor)) (sym is) ∙ c.in-Err.ensures.reading.reads (ap (λ (p : Place). p.known) is ∙ known) (same ∙ sym errors));
      breaks = none_read c.args.self.now _ (omega (arith, ap (λ (p : Place). p.count) is)) c.requires.read (ap (λ (p : Place). p.count) is);
    }
