use Rattle.std.proofs.Common.{◌≡◌, ◌≤◌, ◌++◌, ℕ, Bool, true, false, List, length, take, refl, sym, ap, ◌∙◌, arith}
use Rattle.std.proofs.lemmas.List.{length-take}
use Rattle.std.specs.Prelude.{is_some, not}
use Rattle.flac_bits.specs.State.{After}
use Rattle.flac_around.specs.EmptyPackets.{page_bytes, given_for, trimmed_from}
use Rattle.flac_around.specs.inner.Pages.{page_of}
use Rattle.flac_around.specs.Holding.{part}
use Rattle.flac_around.specs.Trimming.{after_held}
use Rattle.flac_around.proofs.EmptyPages.{cut_gone}
use Rattle.flac_around.proofs.Sourced.{nothing_held, plain_held, page_held}
use Rattle.flac_around.proofs.trimmed.Trimmed.read_next.Goals as goal

is_none : (b : Bool) → not b ≡ true → b ≡ false
is_none true e = sym e
is_none false e = refl

is_one : (b : Bool) → not b ≡ false → b ≡ true
is_one true e = refl
is_one false e = sym e

fits : (n m : ℕ) (bytes : List ℕ) → n ≤ length (take m bytes) → n ≤ m
fits n m bytes le = omega (arith, le, length-take m bytes)

pub returns-in-Err-clause-fails : goal.returns-in-Err-clause-fails
returns-in-Err-clause-fails g c =
    let s = c.args.self.now in
    let f = c.in-Err.ensures.fails in
    let coming = g.S.Source.coming s.source in
    let fails = is_some ((g.S.Source.after s.source).fails) in
    record {
      names = f.names;
      kept = f.kept;
      after = f.after;
      foreseen = λ known same.
          let h = f.foreseen known same in
          (nothing_held s.lead_at s.lead_end s.body_at s.body_end s.lead s.body s.plain fails s.left_out coming c.requires.lead c.requires.body c.requires.going ∙ ap (λ b. trimmed_from b s.left_out coming) h.1 ∙ cut_gone s.left_out coming h.0, h.1);
      rises = f.rises;
      risen = f.risen;
    }

pub returns-then-not-read-clause-bytes : goal.returns-then-not-read-clause-bytes
returns-then-not-read-clause-bytes g c = λ known.
    let s = c.args.self.now in
    let e = c.in-Ok.ensures in
    let coming = g.S.Source.coming s.source in
    let later = g.S.Source.coming c.read_page.new.source in
    let fails = is_some ((g.S.Source.after s.source).fails) in
    plain_held c.in-Ok.read.lead c.in-Ok.read.body c.read_page.new.lead c.read_page.new.body fails s.left_out later
    ∙ sym (e.bytes known) ∙ sym (e.part (is_none c.in-Ok.read.is_page c.if-not-read.true) known s.left_out)
    ∙ sym (nothing_held s.lead_at s.lead_end s.body_at s.body_end s.lead s.body s.plain fails s.left_out coming c.requires.lead c.requires.body c.requires.going)

pub returns-clause-bytes : goal.returns-clause-bytes
returns-clause-bytes g c = λ known.
    let s = c.args.self.now in
    let e = c.in-Ok.ensures in
    let read = c.in-Ok.read in
    let given = c.leave_out_of-given in
    let coming = g.S.Source.coming s.source in
    let later = g.S.Source.coming c.read_page.new.source in
    let fails = is_some ((g.S.Source.after s.source).fails) in
    let now = is_some ((g.S.Source.after c.read_page.new.source).fails) in
    let same : now ≡ fails = ap (λ (a : After). is_some a.fails) (e.goes.after known) in
    let body = take read.body c.read_page.new.body in
    let page = page_of (take read.lead c.read_page.new.lead) body in
    ap (λ p. part 0 given.result.lead given.new.lead ++ (part 0 given.result.body c.read_page.new.body ++ after_held p now given.result.left_out later)) c.requires.going
    ∙ page_held given.result.lead given.result.body read.body given.new.lead c.read_page.new.body (page_bytes (given_for s.left_out page)) now given.result.left_out later (fits given.result.body read.body c.read_page.new.body given.ensures.body) given.ensures.bytes
    ∙ ap (λ b. page_bytes (given_for s.left_out page) ++ trimmed_from b given.result.left_out later) same
    ∙ ap (λ b. page_bytes (given_for s.left_out page) ++ trimmed_from fails b later) given.ensures.left_out
    ∙ sym (e.page (is_one c.in-Ok.read.is_page c.if-not-read.false) known fails s.left_out)
    ∙ sym (nothing_held s.lead_at s.lead_end s.body_at s.body_end s.lead s.body s.plain fails s.left_out coming c.requires.lead c.requires.body c.requires.going)
