use Rattle.std.proofs.Common.{refl}
use Rattle.flac_cli.proofs.Jobs.{rose}
use Rattle.flac_cli.proofs.same.tell_difference.Goals as goal

pub returns-in-Ok : goal.returns-in-Ok
returns-in-Ok g c = record { status = refl; told = λ served serve. (c.in-Ok.ensures.sent served.0, refl) }

pub returns-in-Err : goal.returns-in-Err
returns-in-Err g c = record {
  status = c.refuse.ensures.status;
  told = λ served serve. rose _ _ (c.in-Err.ensures.failed served.0) served.1;
}
