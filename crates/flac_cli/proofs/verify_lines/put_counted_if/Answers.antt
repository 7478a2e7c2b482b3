use Rattle.std.proofs.Common.{◌≡◌, ◌++◌, codes, decimal, [], ap, sym, subst, take}
use Rattle.std.specs.Prelude.{cond}
use Rattle.flac_cli.proofs.Lined.{adds_same, none_added}
use Rattle.flac_cli.proofs.verify_lines.put_counted_if.Goals as goal

pub returns-then-holds : goal.returns-then-holds
returns-then-holds g c = adds_same g.W.Target c.put_counted.result c.put_counted.ensures (ap (λ b. cond b (c.args.name.now ++ decimal c.args.number) []) (sym c.if-holds.true))

pub returns : goal.returns
returns g c = adds_same g.W.Target _ (none_added g.W.Target c.args.lines.now.target (take c.args.lines.now.held c.args.lines.now.bytes)) (ap (λ b. cond b (c.args.name.now ++ decimal c.args.number) []) (sym c.if-holds.false))
