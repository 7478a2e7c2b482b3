use Rattle.std.proofs.Common.{◌≡◌, ◌<◌, ◌∷◌, ℕ, true, nat_lt, Result, Ok, Err, OnErr, refl, ap, tests}
use Rattle.flac_bits.specs.Bits.{bit_value}
use Rattle.flac_cli.proofs.Outcomes.{then_ok}
use Rattle.flac_cli.proofs.list.ListingSink.block.Goals as goal

-- What holds holds at Err.
any_err : {A E X : Type 0} (r : Result A E) → X → OnErr r X
any_err (Ok a) x = tt
any_err (Err e) x = x

below : (n m : ℕ) → nat_lt n m ≡ true → n < m
below n m h = search tests

pub returns-in-Ok : goal.returns-in-Ok
returns-in-Ok g c = record {
  known = λ room. room;
  takes = λ room. tt;
  counted = refl;
  failed = tt;
  risen = tt;
  names = ap (λ l. bit_value (g.W.Target.known c.args.self.now.began.value) ∷ (g.W.Target.errors c.args.self.now.began.value ∷ l)) c.send_block.ensures.names;
}

pub returns-in-Err : goal.returns-in-Err
returns-in-Err g c =
    let e = c.fail.ensures in
    record {
      known = then_ok c.fail.result e.refused (λ no. absurd no);
      takes = then_ok c.fail.result e.refused (λ no. absurd no);
      counted = then_ok c.fail.result e.refused (λ no. absurd no);
      failed = any_err c.fail.result (λ room. e.counted (below _ _ room));
      risen = any_err c.fail.result e.counted;
      names = ap (λ l. bit_value (g.W.Target.known c.args.self.now.began.value) ∷ (g.W.Target.errors c.args.self.now.began.value ∷ l)) c.send_block.ensures.names;
    }
