use Rattle.std.proofs.Common.{arith, ◌≡◌, ◌∙◌, ℤ, pos, length, get_or, ap}
use Rattle.flac_bits.specs.Rice.{folded}
use Rattle.flac_subframe.proofs.lemmas.format.Digits.{back_narrow}
use Rattle.flac_subframe.proofs.lemmas.format.Folding.{same_more, fold_more}
use Rattle.flac_subframe.proofs.format.folding.fold_each.Goals as goal

pub loop-i-preserved : goal.loop-i-preserved
loop-i-preserved c =
    let i = c.loop-i.i in
    let xs = c.args.wide.now in
    let x : ℤ = get_or xs i (pos 0) in
    let so = c.loop-i.invariant in
    let is = back_narrow x (c.requires.range i (pos 0) c.loop-i-test.true) in
    let long : length c.loop-i.values ≡ length xs = omega (arith, c.loop-i.auto.values, c.requires.places) in
    let long_folds : length c.loop-i.folds ≡ length xs = omega (arith, c.loop-i.auto.folds, c.requires.folds) in
    record {
      values = same_more xs c.loop-i.values i _ c.loop-i-test.true long is so.values;
      folds = fold_more xs c.loop-i.folds i _ c.loop-i-test.true long_folds (c.fold_narrow.ensures.value ∙ ap folded is) so.folds;
    }
