use Rattle.std.proofs.Common.{arith, ◌<◌, ◌^◌, ◌/◌, ℕ, map}
use Rattle.std.proofs.lemmas.List.{take_all}
use Rattle.std.proofs.lemmas.Simd.{zip2_splat, sum_fits, fold-sum, Each1-all, Each2-splat}
use mir.Syntax.{w32}
use Rattle.flac_subframe.proofs.lemmas.search.Reductions.{sum_of_map, quotients_fit}
use Rattle.flac_subframe.proofs.search.cost.quotients_in_lanes.Goals as goal

pub overflow_shr-result : goal.overflow_shr-result
overflow_shr-result g c =
    let ns = c.args.folds.now in
    let p : ℕ = c.from.result in
    let within : p < 32 = omega (arith, c.from.ensures, c.requires.parameter) in
    rw (take_all g.row.N ns (omega (arith, c.requires.long))) (Each2-splat (λ _ q. q < 32) ns g.row.N p (Each1-all (λ _. p < 32) (λ _. within) ns))

pub overflow_add-result : goal.overflow_add-result
overflow_add-result g c =
    let ns = c.args.folds.now in
    let k : ℕ = c.args.parameter in
    let same = take_all g.row.N ns (omega (arith, c.requires.long)) in
    let each = zip2_splat (λ n p. n / 2 ^ p) ns g.row.N k (omega (arith, c.requires.long)) in
    rw (c.from.ensures, same, each) (sum_fits w32 0 (map (λ n. n / 2 ^ k) ns) (quotients_fit ns c.args.width k (omega (arith, c.requires.long, c.requires.few_numbers)) c.requires.bounded c.requires.few))

pub returns : goal.returns
returns g c =
    let ns = c.args.folds.now in
    let k : ℕ = c.args.parameter in
    let same = take_all g.row.N ns (omega (arith, c.requires.long)) in
    let each = zip2_splat (λ n p. n / 2 ^ p) ns g.row.N k (omega (arith, c.requires.long)) in
    rw (c.from.ensures, same, each) (omega (arith, fold-sum 0 (map (λ n. n / 2 ^ k) ns), sum_of_map (λ n. n / 2 ^ k) ns))
