use Rattle.std.proofs.Common.{refl, sym, subst}
use Rattle.flac_bits.specs.Bits.{bits_of}
use Rattle.flac_cli.specs.Encoded.{HasEncoded}
use Rattle.flac_cli.specs.Refusals.{CanBeEncoded}
use Rattle.flac_cli.specs.Twice.{RefusesTwice}
use Rattle.flac_cli.proofs.Jobs.{asked_is}
use Rattle.flac_cli.proofs.encode_twice.encode_file_twice.Goals as goal

pub returns-in-Ok : goal.returns-in-Ok
returns-in-Ok g c =
    let e = c.in-Ok.ensures in
    let asked = asked_is c.args.task.now.job.now c.args.task.now.list.now c.profile_of.result c.as_slice.result.now c.in-Encode.is c.profile_of.ensures c.as_slice.ensures.value in
    record {
      encoded = λ known told. subst (λ o. HasEncoded o (g.R.Source.coming c.args.second.now) (bits_of (g.W.Target.sent c.args.target)) (bits_of (g.W.Target.sent c.in-Ok.out))) (sym asked) (e.written known told);
      accepted = λ known. subst (λ o. CanBeEncoded o (g.A.Source.coming c.args.first.now)) (sym asked) (e.accepted known);
      silent = refl;
      refused = tt;
      line = tt;
      failed = tt;
      known = e.known;
      counted = e.counted;
      names = e.names;
    }

pub returns-in-Err : goal.returns-in-Err
returns-in-Err g c =
    let e = c.in-Err.ensures in
    let asked = asked_is c.args.task.now.job.now c.args.task.now.list.now c.profile_of.result c.as_slice.result.now c.in-Encode.is c.profile_of.ensures c.as_slice.ensures.value in
    record {
      encoded = tt;
      accepted = tt;
      silent = tt;
      refused = λ known same told still. subst (λ o. RefusesTwice o (g.A.Source.coming c.args.first.now) (g.R.Source.coming c.args.second.now) c.in-Err.fault.reason) (sym asked) (e.refused known same told still);
      line = c.refuse_twice.ensures;
      failed = e.failed;
      known = tt;
      counted = tt;
      names = tt;
    }
