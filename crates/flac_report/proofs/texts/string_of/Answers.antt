use Rattle.std.proofs.Common.{ap, ◌≡◌, true, false}
use Rattle.std.proofs.lemmas.Str.{IsUtf8-had}
use Rattle.flac_report.proofs.Escapes.{utf8_text, no_text}
use Rattle.flac_report.proofs.texts.string_of.Goals as goal

pub returns-in-Ok : goal.returns-in-Ok
returns-in-Ok c = utf8_text c.args.bytes.items c.in-Ok.text.bytes.items (IsUtf8-had c.in-Ok.text.bytes.items c.in-Ok.text.ok) (ap (λ v. v.items) c.in-Ok.ensures.ok)

pub returns : goal.returns
returns c = no_text c.args.bytes.items (λ text. let no : false ≡ true = c.in-Err.ensures.succeeds text in cc)
