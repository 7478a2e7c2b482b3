use Rattle.std.proofs.Common.{◌≡◌, refl, ap, arith}
use Rattle.flac_bits.specs.Failing.{failed}
use Rattle.flac_bits.proofs.Beside.{counted_beside, rises_beside, risen_beside, not_now}
use Rattle.flac_bits.proofs.failing.FailAtTarget.send.Goals as goal

pub returns-then-fails : goal.returns-then-fails
returns-then-fails g c =
    let device = c.fails.ensures.device in
    let up = c.if-fails.ensures.once in
    record {
      names = ap g.W.Target.names device;
      count = tt;
      some = tt;
      known = tt;
      bytes = tt;
      nothing = λ known. ap g.W.Target.sent device;
      counted = tt;
      kept = rw device (omega (arith, up));
      rises = rw device (λ known. omega (arith, up));
      risen = rw device (λ lt. omega (arith, up));
      calls = (c.fails.ensures.at, c.fails.ensures.calls);
      once = λ is lt. (refl, device);
    }

pub returns : goal.returns
returns g c =
    let old = c.args.self.now in
    let got = rw c.fails.ensures.device at c.send.ensures in
    let none : failed c.fails.new.self.at c.fails.new.self.calls ≡ failed old.at old.calls = omega (arith, c.if-fails.ensures.once) in
    record {
      names = got.names;
      count = got.count;
      some = got.some;
      known = got.known;
      bytes = got.bytes;
      nothing = got.nothing;
      counted = counted_beside c.send.result _ _ _ _ none got.counted;
      kept = omega (arith, none, got.kept);
      rises = rises_beside c.send.result _ _ _ _ _ none got.rises;
      risen = risen_beside c.send.result _ _ _ _ none got.risen;
      calls = (c.fails.ensures.at, c.fails.ensures.calls);
      once = λ is lt. absurd (not_now old.calls old.at c.if-fails.ensures.answer is lt);
    }
