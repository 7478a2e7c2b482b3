use Rattle.std.proofs.Common.{arith}
use Rattle.std.proofs.lemmas.List.{take_all}
use Rattle.std.proofs.lemmas.Nat.{pow_pos}
use Rattle.flac_subframe.proofs.lemmas.search.Reductions.{or_below}
use Rattle.flac_subframe.proofs.search.cost.bits_in_lanes.Goals as goal

pub returns : goal.returns
returns g c = λ n.
    let ns = c.args.folds.now in
    let same = take_all g.row.N ns (omega (arith, c.requires)) in
    let both = or_below n 0 ns in
    rw same (λ all. both.0 (pow_pos n, all), λ below. (both.1 below).1)
