use Rattle.std.proofs.Common.{◌∙◌, [], ◌∷◌, ap, sym}
use Rattle.std.specs.Prelude.{unwrap_or}
use Rattle.flac_cli.proofs.Lined.{adds_same}
use Rattle.flac_cli.proofs.lines.Lines.put_path_byte.Goals as goal

pub returns-in-Some : goal.returns-in-Some
returns-in-Some g c = adds_same g.W.Target _ c.put_bytes.ensures (ap (λ o. unwrap_or o (c.args.byte ∷ [])) (sym c.in-Some.is) ∙ c.escape_of.ensures)

pub returns-in-None : goal.returns-in-None
returns-in-None g c = adds_same g.W.Target _ c.put_bytes-in-None.ensures (ap (λ o. unwrap_or o (c.args.byte ∷ [])) (sym c.in-None.is) ∙ c.escape_of.ensures)
