use Rattle.std.proofs.Common.{◌∙◌, sym}
use Rattle.flac_cli.proofs.Missing.{listed_same, none_listed}
use Rattle.flac_cli.proofs.verify_missing.list_missing.Goals as goal

pub returns-then-asks_missing : goal.returns-then-asks_missing
returns-then-asks_missing g c = record {
  told = λ known same. listed_same g.E.Target (c.tell_missing.ensures.told known same) (sym c.if-asks_missing.true ∙ c.asks_missing.ensures);
  stays = c.tell_missing.ensures.stays;
}

pub returns-else-asks_missing-clause-told : goal.returns-else-asks_missing-clause-told
returns-else-asks_missing-clause-told g c = λ known same. listed_same g.E.Target (none_listed g.E.Target _ c.args.err.now) (sym c.if-asks_missing.false ∙ c.asks_missing.ensures)
