use Rattle.std.proofs.Common.{◌≡◌, ◌≤◌, ◌<◌, ◌+◌, ◌++◌, ℕ, List, ap, length, take, arith}
use Rattle.std.proofs.lemmas.List.{length-take, length-append}
use Rattle.flac_around.proofs.Pulls.{fails_later}
use Rattle.flac_around.proofs.between.begin.Goals as goal

still_few : (n : ℕ) (held past later : List ℕ) → past ≡ take n held ++ later → n + length later < 128 → length past ≤ 128
still_few n held past later is few = omega (arith, ap length is, length-append (take n held) later, length-take n held, few)

pub returns-in-Err-fill-clause-fails : goal.returns-in-Err-fill-clause-fails
returns-in-Err-fill-clause-fails g c =
    fails_later g.S.Source c.in-Ok.ensures.goes (λ known few. still_few c.in-Ok.front.held c.pass_front.new.held _ _ (c.in-Ok.ensures.bytes known) few) c.in-Err-fill.ensures.fails
