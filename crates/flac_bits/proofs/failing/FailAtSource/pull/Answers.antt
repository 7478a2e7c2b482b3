use Rattle.std.proofs.Common.{◌≡◌, refl, ap, arith}
use Rattle.flac_bits.specs.Failing.{failed}
use Rattle.flac_bits.proofs.Beside.{same_beside, foreseen_beside, rises_beside, risen_beside, not_now}
use Rattle.flac_bits.proofs.failing.FailAtSource.pull.Goals as goal

pub returns-then-fails : goal.returns-then-fails
returns-then-fails g c =
    let device = c.fails.ensures.device in
    let up = c.if-fails.ensures.once in
    record {
      names = ap g.S.Source.names device;
      bound = tt;
      known = tt;
      bytes = tt;
      end = tt;
      most = tt;
      counted = tt;
      kept = rw device (omega (arith, up));
      foreseen = rw device (λ known same. absurd (omega (arith, up, same)));
      foretold = λ known same. ap g.S.Source.after device;
      rises = rw device (λ known. omega (arith, up));
      risen = rw device (λ lt. omega (arith, up));
      calls = (c.fails.ensures.at, c.fails.ensures.calls);
      once = λ is lt. (refl, device);
    }

pub returns : goal.returns
returns g c =
    let old = c.args.self.now in
    let got = rw c.fails.ensures.device at c.pull.ensures in
    let none : failed c.fails.new.self.at c.fails.new.self.calls ≡ failed old.at old.calls = omega (arith, c.if-fails.ensures.once) in
    record {
      names = got.names;
      bound = got.bound;
      known = got.known;
      bytes = got.bytes;
      end = got.end;
      most = got.most;
      counted = same_beside c.pull.result _ _ _ _ _ _ none got.counted;
      kept = omega (arith, none, got.kept);
      foreseen = foreseen_beside c.pull.result _ _ _ _ _ _ none got.failed;
      foretold = λ known same. got.foretold known (omega (arith, none, same));
      rises = rises_beside c.pull.result _ _ _ _ _ none got.rises;
      risen = risen_beside c.pull.result _ _ _ _ none got.risen;
      calls = (c.fails.ensures.at, c.fails.ensures.calls);
      once = λ is lt. absurd (not_now old.calls old.at c.if-fails.ensures.answer is lt);
    }
