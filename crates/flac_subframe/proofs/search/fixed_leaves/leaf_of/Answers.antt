use Rattle.std.proofs.Common.{arith, ◌≡◌, ◌∙◌, ◌≤◌, ℕ}
use Rattle.flac_subframe.specs.format.Bodies.{differences}
use Rattle.flac_subframe.specs.format.Prediction.{fixed_coefficients}
use Rattle.flac_subframe.proofs.lemmas.format.Narrow.{narrow_differences}
use Rattle.flac_subframe.proofs.lemmas.search.Folds.{folds_small}
use Rattle.flac_subframe.proofs.lemmas.search.Pieces.{whole_cost, whole_width}
use Rattle.flac_subframe.proofs.search.fixed_leaves.leaf_of.Goals as goal

few_of : (a b : ℕ) → a ≡ b → b ≤ 16 → a ≤ 65535
few_of a b e h = omega arith

pub weigh-leaf-requires : goal.weigh-leaf-requires
weigh-leaf-requires c =
    let o = c.args.order in let s = c.args.samples.now in
    record {
      few = few_of _ _ (c.take_narrow_order.auto.folds ∙ c.requires.folds) c.requires.few;
      small = rw c.take_narrow_order.ensures.folds (folds_small (differences (fixed_coefficients o) 0 s) (narrow_differences o s c.requires.order c.requires.fits));
    }

pub bound_part-bound-requires : goal.bound_part-bound-requires
bound_part-bound-requires c =
    let so = c.take_narrow_order.ensures in
    let rs = differences (fixed_coefficients c.args.order) 0 c.args.samples.now in
    record {
      few = few_of _ _ c.take_narrow_order.auto.values c.requires.few;
      bits = rw so.values (c.weigh-leaf.ensures.value ∙ whole_cost 0 rs _ so.folds);
      small_width = c.weigh-leaf.ensures.narrow;
      width = rw so.values (whole_width c.weigh-leaf.result.0 rs _ so.folds c.weigh-leaf.ensures.least);
    }

pub returns : goal.returns
returns c =
    let so = c.take_narrow_order.ensures in
    let rs = differences (fixed_coefficients c.args.order) 0 c.args.samples.now in
    record {
      width = whole_width c.weigh-leaf.result.0 rs _ so.folds c.weigh-leaf.ensures.least;
      narrow = c.weigh-leaf.ensures.narrow;
      bits = c.weigh-leaf.ensures.value ∙ whole_cost 0 rs _ so.folds;
      rice = rw so.values at c.bound_part-bound.ensures.rice;
      escape = rw so.values at c.bound_part-bound.ensures.escape;
      small = c.bound_part-bound.ensures.small;
    }
