use Rattle.std.proofs.Common.{refl, sym, subst}
use Rattle.flac_bits.specs.Bits.{bits_of}
use Rattle.flac_cli.specs.WaveRefusals.{CanBeKept}
use Rattle.flac_cli.specs.WaveTwice.{RefusesWaveTwice}
use Rattle.flac_cli.specs.Waves.{HasEncodedWave}
use Rattle.flac_cli.proofs.Jobs.{wave_asked_is}
use Rattle.flac_cli.proofs.encode_wave_twice.encode_wave_file_twice.Goals as goal

pub returns-in-Ok : goal.returns-in-Ok
returns-in-Ok g c =
    let e = c.in-Ok.ensures in
    let asked = wave_asked_is c.args.task.now.job.now c.args.task.now.list.now c.profile_of.result c.as_slice.result.now c.in-EncodeWave.is c.profile_of.ensures c.as_slice.ensures.value in
    record {
      encoded = λ known told sent same. subst (λ o. HasEncodedWave o (g.A.Source.coming c.args.first.now) (bits_of (g.W.Target.sent c.args.target)) (bits_of (g.W.Target.sent c.in-Ok.out))) (sym asked) (e.written known told sent same);
      accepted = λ known. subst (λ o. CanBeKept o (g.A.Source.coming c.args.first.now)) (sym asked) (e.accepted known);
      silent = refl;
      refused = tt;
      line = tt;
      failed = tt;
      known = e.known;
      counted = e.counted;
      names = e.names;
    }

pub returns-in-Err : goal.returns-in-Err
returns-in-Err g c =
    let e = c.in-Err.ensures in
    let asked = wave_asked_is c.args.task.now.job.now c.args.task.now.list.now c.profile_of.result c.as_slice.result.now c.in-EncodeWave.is c.profile_of.ensures c.as_slice.ensures.value in
    record {
      encoded = tt;
      accepted = tt;
      silent = tt;
      refused = λ known same told still. subst (λ o. RefusesWaveTwice o (g.A.Source.coming c.args.first.now) (g.R.Source.coming c.args.second.now) c.in-Err.fault.reason) (sym asked) (e.refused known same told still);
      line = c.refuse_wave_twice.ensures;
      failed = e.failed;
      known = tt;
      counted = tt;
      names = tt;
    }
