use Rattle.std.proofs.Common.{◌≡◌, ◌≤◌, ◌+◌, ◌*◌, ◌∷◌, ◌++◌, length, map, take}
use Rattle.flac_subframe.specs.format.Bodies.{fixed}
use Rattle.flac_subframe.specs.format.Chosen.{fixed_below}
use Rattle.flac_subframe.specs.format.Handed.{predictor_of}
use Rattle.flac_subframe.specs.search.inner.Chosen.{IsBest, way_of}
use Rattle.flac_subframe.specs.search.inner.Halves.{HasPlaces, HasRoom}
use Rattle.flac_subframe.proofs.lemmas.search.Counts.{Counted}
use Rattle.flac_subframe.proofs.search.choice.search.Given as goal

abbrev pub invariant-loop-index : goal.invariant-loop-index
invariant-loop-index l = record {
  best : IsBest l.subject.predictors.now l.subject.most l.subject.bits l.subject.samples.now (fixed_below 0 ++ map predictor_of (take l.index l.subject.predictors.now)) (way_of l.best l.tables.codings.now);
  within : l.best.residual.partition_order ≤ l.subject.most;
  arrays : HasRoom (length l.subject.samples.now) l.arrays;
  tables : HasPlaces l.subject.most l.tables;
  same : l.tables.codings.ghost_name ≡ l.fn.tables.codings.ghost_name;
  coarse : l.subject.most ≤ 8 → l.tables.priced ≤ l.fn.tables.priced + l.index * (32 * length l.subject.samples.now);
  priced : l.tables.priced ≤ l.fn.tables.priced + l.index * (93 * length l.subject.samples.now);
}

abbrev pub invariant-loop-order : goal.invariant-loop-order
invariant-loop-order l = record {
  best : IsBest l.subject.predictors.now l.subject.most l.subject.bits l.subject.samples.now (map predictor_of l.subject.predictors.now ++ fixed l.first ∷ fixed_below l.order) (way_of l.best l.tables.codings.now);
  within : l.best.residual.partition_order ≤ l.subject.most;
  arrays : HasRoom (length l.subject.samples.now) l.arrays;
  tables : HasPlaces l.subject.most l.tables;
  same : l.tables.codings.ghost_name ≡ l.fn.tables.codings.ghost_name;
  coarse : l.subject.most ≤ 8 → Counted l.first l.order (32 * length l.subject.samples.now) (l.fn.tables.priced + length l.subject.predictors.now * (32 * length l.subject.samples.now)) l.tables.priced;
  priced : Counted l.first l.order (93 * length l.subject.samples.now) (l.fn.tables.priced + length l.subject.predictors.now * (93 * length l.subject.samples.now)) l.tables.priced;
}
