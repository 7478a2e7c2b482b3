use Rattle.std.proofs.Common.{◌+◌, ◌++◌, drop, get_or, flat_map, pos, ap, ◌∙◌, arith, sym}
use Rattle.flac_bits.specs.Rice.{value_bits}
use Rattle.flac_bits.proofs.Runs.{value_step, pair_step}
use Rattle.flac_bits.proofs.Signs.{residual_kept}
use Rattle.flac_bits.proofs.run.next_codes.Goals as goal

pub returns-in-Some : goal.returns-in-Some
returns-in-Some c =
    let i = c.args.i in
    let k = c.args.k in
    let xs = c.args.values.now in
    let x = get_or xs i (pos 0) in
    let y = get_or xs (i + 1) (pos 0) in
    let some = rw (residual_kept x (c.requires.range i (pos 0) (omega (arith, c.requires.i))), residual_kept y (c.requires.range (i + 1) (pos 0) c.if-i-values.true)) at c.in-Some.ensures in
    (some.0, some.1, omega arith, omega (arith, c.if-i-values.true), pair_step k xs i c.if-i-values.true ∙ ap (λ bs. bs ++ flat_map (value_bits k) (drop (i + 2) xs)) (sym some.2))

pub bounds-values-i : goal.bounds-values-i
bounds-values-i c = c.requires.i

pub bounds-values-i-2 : goal.bounds-values-i-2
bounds-values-i-2 c = c.requires.i

pub bounds-values-i-then-i-values : goal.bounds-values-i-then-i-values
bounds-values-i-then-i-values c = c.if-i-values.true

pub pair_of-requires : goal.pair_of-requires
pair_of-requires c =
    let first = c.requires.range c.args.i (pos 0) (omega (arith, c.requires.i)) in
    let second = c.requires.range (c.args.i + 1) (pos 0) c.if-i-values.true in
    record {
      k = c.requires.k;
      first = rw (residual_kept _ first) first;
      second = rw (residual_kept _ second) second;
    }

pub code_of-requires : goal.code_of-requires
code_of-requires c =
    let value = c.requires.range c.args.i (pos 0) c.requires.i in
    record { k = c.requires.k; value = rw (residual_kept _ value) value }

pub returns : goal.returns
returns c =
    let i = c.args.i in
    let k = c.args.k in
    let xs = c.args.values.now in
    let x = get_or xs i (pos 0) in
    let some = rw (residual_kept x (c.requires.range i (pos 0) c.requires.i)) at c.in_ok-n.ensures in
    (some.0, some.1, omega arith, omega (arith, c.requires.i), value_step k xs i c.requires.i ∙ ap (λ bs. bs ++ flat_map (value_bits k) (drop (i + 1) xs)) (sym some.2))
