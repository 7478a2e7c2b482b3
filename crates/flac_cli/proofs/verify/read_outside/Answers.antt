use Rattle.flac_cli.proofs.Verifying.{outside_good, outside_bad, outside_unopened}
use Rattle.flac_cli.proofs.verify.read_outside.Goals as goal

pub returns-in-Good : goal.returns-in-Good
returns-in-Good g c = record {
  found = λ known same. outside_good _ _ (c.in-Good.ensures.found known same);
  stays = c.in-Good.ensures.stays;
}

pub returns-in-Bad : goal.returns-in-Bad
returns-in-Bad g c = record {
  found = λ known same. outside_bad _ _ (c.in-Bad.ensures.found known same);
  stays = c.in-Bad.ensures.stays;
}

pub returns-in-Unopened : goal.returns-in-Unopened
returns-in-Unopened g c = record {
  found = λ known same. outside_unopened _ (c.in-Unopened.ensures.found known same);
  stays = c.in-Unopened.ensures.stays;
}
