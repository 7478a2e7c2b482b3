use Rattle.std.proofs.Common.{◌++◌, ℕ, true, false, Option, Result, Ok, ap, sym, subst, ◌∙◌}
use Rattle.flac_native.specs.Decoding.{start_mark}
use Rattle.flac_native.specs.declared.fault.Fault.{Fault}
use Rattle.flac_ogg.specs.Fronts.{front_bytes}
use Rattle.flac_reader.specs.Inputs.{native_input, ogg_input, any_input}
use Rattle.flac_reader.specs.Opening.{Opens}
use Rattle.flac_reader.proofs.Refusals.{refuses_as, front_read}
use Rattle.flac_reader.proofs.either.open.Goals as goal

abbrev answer : Option ℕ → Result (Option ℕ) Fault
answer o = Ok o

pub returns-in-Ok-open_ogg-clause-opens : goal.returns-in-Ok-open_ogg-clause-opens
returns-in-Ok-open_ogg-clause-opens g c = λ known.
    let R = g.R.Source in
    let old = c.args.source in
    let mid = c.pull_front.new.source in
    let told = c.in-Ok.ensures in
    subst (λ r. Opens r c.args.keep c.in-Ok-open_ogg.reader)
    (sym (front_read c.args.profile c.in-Ok.front (R.coming old) (R.coming mid) true (start_mark (R.after old)) (start_mark (R.after mid)) (told.bytes known) (λ none. told.end (ap answer none) known) (sym c.if-begins_page.true ∙ c.begins_page.ensures)
    (ap start_mark (sym (told.after known told.counted.0)))))
    (c.in-Ok-open_ogg.ensures.opens (told.known known))

pub returns-in-Ok-open_native-clause-opens : goal.returns-in-Ok-open_native-clause-opens
returns-in-Ok-open_native-clause-opens g c = λ known.
    let R = g.R.Source in
    let old = c.args.source in
    let mid = c.pull_front.new.source in
    let told = c.in-Ok.ensures in
    subst (λ r. Opens r c.args.keep c.in-Ok-open_native.reader)
    (sym (front_read c.args.profile c.in-Ok.front (R.coming old) (R.coming mid) false (start_mark (R.after old)) (start_mark (R.after mid)) (told.bytes known) (λ none. told.end (ap answer none) known) (sym c.if-begins_page.false ∙ c.begins_page.ensures)
    (ap start_mark (sym (told.after known told.counted.0)))))
    (c.in-Ok-open_native.ensures.opens (told.known known))

pub returns-in-Err-open_ogg-clause-refused : goal.returns-in-Err-open_ogg-clause-refused
returns-in-Err-open_ogg-clause-refused g c =
    let R = g.R.Source in
    let old = c.args.source in
    let mid = c.pull_front.new.source in
    let told = c.in-Ok.ensures in
    let x = c.in-Err-open_ogg.refused in
    rw c.without_front.ensures (refuses_as (ogg_input c.args.profile (front_bytes c.in-Ok.front ++ R.coming mid) (R.after mid)) (any_input c.args.profile (R.coming old) (R.after old))
    (R.known mid) (R.known old) (R.errors old) (R.raised old) (R.errors mid) (R.raised mid) (R.errors x.left.source) (R.raised x.left.source) x.fault told.counted.0 told.counted.1 told.known
    (λ known. front_read c.args.profile c.in-Ok.front (R.coming old) (R.coming mid) true (start_mark (R.after old)) (start_mark (R.after mid)) (told.bytes known) (λ none. told.end (ap answer none) known) (sym c.if-begins_page.true ∙ c.begins_page.ensures)
    (ap start_mark (sym (told.after known told.counted.0))))
    c.in-Err-open_ogg.ensures.refused)

pub returns-in-Err-open_native-clause-refused : goal.returns-in-Err-open_native-clause-refused
returns-in-Err-open_native-clause-refused g c =
    let R = g.R.Source in
    let old = c.args.source in
    let mid = c.pull_front.new.source in
    let told = c.in-Ok.ensures in
    let x = c.in-Err-open_native.refused in
    rw c.without_front-in-Err-open_native.ensures (refuses_as (native_input c.args.profile (front_bytes c.in-Ok.front ++ R.coming mid) (R.after mid)) (any_input c.args.profile (R.coming old) (R.after old))
    (R.known mid) (R.known old) (R.errors old) (R.raised old) (R.errors mid) (R.raised mid) (R.errors x.left.source) (R.raised x.left.source) x.fault told.counted.0 told.counted.1 told.known
    (λ known. front_read c.args.profile c.in-Ok.front (R.coming old) (R.coming mid) false (start_mark (R.after old)) (start_mark (R.after mid)) (told.bytes known) (λ none. told.end (ap answer none) known) (sym c.if-begins_page.false ∙ c.begins_page.ensures)
    (ap start_mark (sym (told.after known told.counted.0))))
    c.in-Err-open_native.ensures.refused)
