use Rattle.std.proofs.Common.{arith, ◌≡◌, ◌∙◌, ◌*◌, ◌≤◌, ◌<◌, ℕ}
use Rattle.std.proofs.lemmas.List.{take_all}
use Rattle.flac_subframe.proofs.search.cost.quotients_of_any.Goals as goal

small_of_eight : (wide narrow n : ℕ) → wide ≡ narrow → narrow < 4294967296 → n ≡ 8 → wide ≤ 4294967296 * n
small_of_eight wide narrow n e h is = omega arith

small_of_all : (sum i n : ℕ) → sum ≤ 4294967296 * i → i ≤ n → sum ≤ 4294967296 * n
small_of_all sum i n h k = omega arith

pub returns-then-width-parameter : goal.returns-then-width-parameter
returns-then-width-parameter c = record {
  value = c.from.ensures ∙ c.quotients_in_lanes.ensures;
  small = small_of_eight _ _ _ c.from.ensures c.quotients_in_lanes.type_inv c.if-folds-eq8.true;
}

pub returns-clause-value : goal.returns-clause-value
returns-clause-value c = rw (take_all _ _ c.loop-number-test.false) at c.loop-number.invariant.0

pub returns-clause-small : goal.returns-clause-small
returns-clause-small c = small_of_all _ _ _ c.loop-number.invariant.1 c.loop-number.auto.number-index-end
