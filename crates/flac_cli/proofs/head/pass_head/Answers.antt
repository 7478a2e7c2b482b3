use Rattle.std.proofs.Common.{rules, ◌≡◌, ◌<◌, ◌++◌, ℕ, Option, Result, Ok, ap, sym, subst, ◌∙◌, arith}
use Rattle.flac_bits.specs.Handing.{TakesAll}
use Rattle.flac_native.specs.Decoding.{start_mark, taken}
use Rattle.flac_native.specs.declared.fault.Fault.{Fault}
use Rattle.flac_header.specs.declared.subset.Profile.TheVariants.{Lax}
use Rattle.flac_ogg.specs.Fronts.{front_bytes}
use Rattle.flac_ogg.specs.Either.{begins_page}
use Rattle.flac_ogg.proofs.FirstByte.{first_of}
use Rattle.flac_cli.specs.Headed.{HasHeadRefused}
use Rattle.flac_cli.specs.ListedJson.{HasHeadOf}
use Rattle.flac_cli.proofs.Heading.{ok_more, err_more, front_read}
use Rattle.flac_cli.proofs.head.pass_head.Goals as goal

abbrev answer : Option ℕ → Result (Option ℕ) Fault
answer o = Ok o

not_risen : (old new : ℕ) → old < new → new ≡ old → ⊥
not_risen old new rose same = omega (arith, rose, same)

pub returns-clause-head : goal.returns-clause-head
returns-clause-head g c =
    let R = g.R.Source in
    let old = c.args.source.now in
    let mid = c.pull_front.new.source in
    let told = c.in-Ok.ensures in
    ok_more c.pass_as-outcome.result
    (λ head known counted. subst (λ r. HasHeadOf r (λ h. TakesAll (taken g.S.Sink.takes) c.args.sink.now h c.pass_as-outcome.new.sink))
    (sym (front_read Lax (R.coming old) (front_bytes c.in-Ok.front ++ R.coming mid) (begins_page (R.coming old)) c.begins_page.result (start_mark (R.after old)) (start_mark (R.after mid))
    (first_of c.in-Ok.front (R.coming mid) (R.coming old) (told.bytes known) (λ none. told.end (ap answer none) known) ∙ sym c.begins_page.ensures) (told.bytes known) (ap start_mark (sym (told.after known told.counted.0)))))
    (head (told.known known) counted))
    c.pass_as-outcome.ensures.head

pub returns-clause-refused : goal.returns-clause-refused
returns-clause-refused g c =
    let R = g.R.Source in
    let old = c.args.source.now in
    let mid = c.pull_front.new.source in
    let told = c.in-Ok.ensures in
    err_more c.pass_as-outcome.result
    (λ f refused tells room unsunk. subst (λ r. HasHeadRefused r f.at f.why)
    (sym (front_read Lax (R.coming old) (front_bytes c.in-Ok.front ++ R.coming mid) (begins_page (R.coming old)) c.begins_page.result (start_mark (R.after old)) (start_mark (R.after mid))
    (first_of c.in-Ok.front (R.coming mid) (R.coming old) (told.bytes tells.0) (λ none. told.end (ap answer none) tells.0) ∙ sym c.begins_page.ensures) (told.bytes tells.0) (ap start_mark (sym (told.after tells.0 told.counted.0)))))
    (refused (told.known tells.0, search (rules, tells.1, told.counted.0), search (rules, tells.2, told.counted.1)) room unsunk))
    c.pass_as-outcome.ensures.refused

pub returns-in-Err-clause-refused : goal.returns-in-Err-clause-refused
returns-in-Err-clause-refused g c = λ tells. absurd (not_risen _ _ (c.in-Err.ensures.rises tells.0) tells.2)
