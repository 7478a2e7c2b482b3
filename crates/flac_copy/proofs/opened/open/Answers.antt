use Rattle.std.proofs.Common.{ap, sym, ◌∙◌, true, false}
use Rattle.std.proofs.lemmas.Result.{IfOk-weaker}
use Rattle.flac_copy.proofs.Opening.{answer, front_opened}
use Rattle.flac_copy.proofs.opened.open.Goals as goal

pub returns-then-begins_page : goal.returns-then-begins_page
returns-then-begins_page g c =
    let told = c.in-Ok.ensures in
    IfOk-weaker c.open_ogg.result _ _ (λ r o.
    front_opened g.R.Source c.args.profile c.args.source c.pull_front.new.source c.in-Ok.front true r.0.items r.1 told.known told.bytes (λ none. told.end (ap answer none)) told.after told.counted.0
    (sym c.begins_page.ensures ∙ c.if-begins_page.true) o)
    c.open_ogg.ensures

pub returns-else-begins_page : goal.returns-else-begins_page
returns-else-begins_page g c =
    let told = c.in-Ok.ensures in
    IfOk-weaker c.open_native.result _ _ (λ r o.
    front_opened g.R.Source c.args.profile c.args.source c.pull_front.new.source c.in-Ok.front false r.0.items r.1 told.known told.bytes (λ none. told.end (ap answer none)) told.after told.counted.0
    (sym c.begins_page.ensures ∙ c.if-begins_page.false) o)
    c.open_native.ensures
