use Rattle.std.proofs.Common.{◌++◌, ◌∷◌, [], ap, sym}
use Rattle.flac_cli.proofs.Lined.{adds_then, adds_same}
use Rattle.flac_json.proofs.Digits.{escaped_digits}
use Rattle.flac_cli.proofs.lines.Lines.put_quoted_digits.Goals as goal

pub returns : goal.returns
returns g c =
    adds_same g.W.Target _ (adds_then g.W.Target _ c.in_ok-put.ensures (adds_then g.W.Target _ c.in_ok-put_all_digits.ensures c.put-2.ensures))
    (ap (λ l. 34 ∷ (l ++ 34 ∷ [])) (sym (escaped_digits c.args.bytes.now)))
