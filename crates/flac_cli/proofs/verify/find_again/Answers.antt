use Rattle.std.proofs.Common.{false, subst}
use Rattle.flac_cli.specs.inner.Verifying.{IsReadingOutside}
use Rattle.flac_cli.proofs.Verifying.{first_good, first_unopened, memory_fits, again_fits, again_is, stays_then, still, not_true}
use Rattle.flac_cli.proofs.verify.find_again.Goals as goal

pub returns-in-Good : goal.returns-in-Good
returns-in-Good g c = record {
  found = λ known same again. first_good _ _ (c.in-Good.ensures.found known same);
  stays = c.in-Good.ensures.stays;
}

pub returns-in-Unopened : goal.returns-in-Unopened
returns-in-Unopened g c = record {
  found = λ known same again. first_unopened _ (c.in-Unopened.ensures.found known same);
  stays = c.in-Unopened.ensures.stays;
}

pub returns-then-is_memory : goal.returns-then-is_memory
returns-then-is_memory g c = record {
  found = λ known same again. memory_fits false _ _ (c.is_memory.ensures.0 c.if-is_memory.true);
  stays = c.in-Bad.ensures.stays;
}

pub returns-else-is_memory : goal.returns-else-is_memory
returns-else-is_memory g c =
    let first = c.in-Bad.ensures.stays in
    let second = c.read_outside.ensures.stays in
    record {
      found = λ known same again.
          let calm = still first second same in
          let outside = c.read_outside.ensures.found (first.knows known calm.0) calm.1 in
          again_fits _ _ _ (c.in-Bad.ensures.found known calm.0) (λ w. not_true _ c.if-is_memory.false (c.is_memory.ensures.1 w)) (again_is _ again) (subst (λ k. IsReadingOutside k.contents c.read_outside.result) first.here outside);
      stays = stays_then first second;
    }
