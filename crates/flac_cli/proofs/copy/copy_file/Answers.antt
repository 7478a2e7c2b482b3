use Rattle.std.proofs.Common.{refl, arith}
use Rattle.flac_cli.proofs.Jobs.{not_both, at_most_one}
use Rattle.flac_cli.proofs.copy.copy_file.Goals as goal

pub returns-in-Ok : goal.returns-in-Ok
returns-in-Ok g c = record {
  status = omega arith;
  copied = λ done. c.in-Ok.ensures;
  silent = λ done. refl;
  named = λ failed known same. not_both _ failed refl;
}

pub returns-in-Err : goal.returns-in-Err
returns-in-Err g c =
    let r = c.refuse_copy.ensures in
    record {
      status = at_most_one _ r.status;
      copied = λ done. not_both _ r.status done;
      silent = λ done. not_both _ r.status done;
      named = λ failed known same. (c.in-Err.fault, r.line known same);
    }
