use Rattle.flac_cli.proofs.Verifying.{strict_fits, wide_fits, twice_fits, again_so}
use Rattle.flac_cli.proofs.verify.find.Goals as goal

pub returns-then-subset : goal.returns-then-subset
returns-then-subset g c = record {
  found = λ known same. strict_fits _ _ _ c.if-subset.true (c.read_in.ensures.found known same);
  stays = c.read_in.ensures.stays;
}

pub returns-then-again : goal.returns-then-again
returns-then-again g c = record {
  found = λ known same. twice_fits _ _ _ c.if-subset.false (c.find_again.ensures.found known same (again_so _ _ c.if-again.true (c.reads_again-again.ensures known)));
  stays = c.find_again.ensures.stays;
}

pub returns : goal.returns
returns g c = record {
  found = λ known same. wide_fits _ _ _ _ c.if-subset.false c.if-again.false (c.reads_again-again.ensures known) (c.read_in-2.ensures.found known same);
  stays = c.read_in-2.ensures.stays;
}
