use Rattle.std.proofs.Common.{arith, [], ◌∷◌, ◌≡◌, ◌∙◌, ◌+◌, ◌*◌, ◌++◌, length, map, take, List, subst, refl}
use Rattle.std.proofs.lemmas.List.{take_all}
use Rattle.flac_subframe.specs.format.Bodies.{fixed}
use Rattle.flac_subframe.specs.format.Chosen.{fixed_below}
use Rattle.flac_subframe.specs.format.Handed.{predictor_of}
use Rattle.flac_subframe.specs.declared.format.linear.LinearPredictor.{LinearPredictor}
use Rattle.flac_subframe.specs.search.inner.Chosen.{IsBest, way_of}
use Rattle.flac_subframe.proofs.lemmas.search.Best.{next_tried, first_tried, all_tried, one_linear_more}
use Rattle.flac_subframe.proofs.lemmas.search.Complete.{among}
use Rattle.flac_subframe.proofs.lemmas.search.Counts.{Counted, counted_first, counted_more, counted_same, counted_all, next, next_after}
use Rattle.flac_subframe.proofs.search.choice.search.Goals as goal
use Rattle.flac_subframe.proofs.search.choice.search.Goals.{then-order-first, else-order-first}

pub loop-index-init : goal.loop-index-init
loop-index-init c =
    record {
      best = c.begin-best.ensures.best c.args.subject.now.predictors.now c.args.subject.now.most c.args.tables.now.codings.now;
      within = omega (arith, c.begin-best.ensures.none);
      arrays = c.requires.arrays;
      tables = c.requires.tables;
      same = refl;
      coarse = λ few. omega arith;
      priced = omega arith;
    }

pub improve-requires-clause-small : goal.improve-requires-clause-small
improve-requires-clause-small c = c.loop-index.invariant.best.small

pub improve_by_fixed-requires-clause-small : goal.improve_by_fixed-requires-clause-small
improve_by_fixed-requires-clause-small c = c.loop-index.invariant.best.small

pub improve_by_fixed-requires-then-order-first-clause-small : goal.improve_by_fixed-requires-then-order-first-clause-small
improve_by_fixed-requires-then-order-first-clause-small c = c.loop-order.invariant.best.small

pub loop-index-preserved : goal.loop-index-preserved
loop-index-preserved c =
    let i = c.loop-index.index in
    let ps = c.args.subject.now.predictors.now in
    let so = c.loop-index.invariant in
    let new = c.improve.ensures in
    let b = length c.args.subject.now.samples.now in
    record {
      best = rw (one_linear_more (fixed_below 0) ps i (omega (arith, c.loop-index-test.true))) (new.best (fixed_below 0 ++ map predictor_of (take i ps)) so.best);
      within = new.within so.within;
      arrays = new.arrays;
      tables = new.tables;
      same = new.same ∙ so.same;
      coarse = λ few. next i (32 * b) c.args.tables.now.priced c.loop-index.tables.priced c.improve.new.tables.priced (so.coarse few) (new.coarse few);
      priced = next i (93 * b) c.args.tables.now.priced c.loop-index.tables.priced c.improve.new.tables.priced so.priced new.priced;
    }

pub loop-order-init : goal.loop-order-init
loop-order-init c =
    let hs = c.args.subject.now.predictors.now in let most = c.args.subject.now.most in let bits = c.args.subject.now.bits in let s = c.args.subject.now.samples.now in
    let i = c.loop-index.index in
    let so = c.loop-index.invariant in
    let new = c.improve_by_fixed.ensures in
    let all : i ≡ length hs = omega arith in
    let whole : take i hs ≡ hs = take_all i hs (omega (arith, c.loop-index-test.false)) in
    let best = subst (λ (l : List LinearPredictor). IsBest hs most bits s (map predictor_of l) (way_of c.loop-index.best c.loop-index.tables.codings.now)) whole so.best in
    let old = c.args.tables.now.priced in let mid = c.loop-index.tables.priced in let now = c.improve_by_fixed.new.tables.priced in
    record {
      best = new.best (map predictor_of hs) best;
      within = new.within so.within;
      arrays = new.arrays;
      tables = new.tables;
      same = new.same ∙ so.same;
      coarse = λ few. counted_first c.first_order-first.result (32 * length s) (old + length hs * (32 * length s)) now (next_after old (length hs) (32 * length s) i mid now all (so.coarse few) (new.coarse few));
      priced = counted_first c.first_order-first.result (93 * length s) (old + length hs * (93 * length s)) now (next_after old (length hs) (93 * length s) i mid now all so.priced new.priced);
    }

pub loop-order-preserved : goal.loop-order-preserved
loop-order-preserved c =
    let hs = c.args.subject.now.predictors.now in let most = c.args.subject.now.most in let bits = c.args.subject.now.bits in let s = c.args.subject.now.samples.now in
    let ls = map predictor_of hs in
    let first = c.first_order-first.result in let order = c.loop-order.order in
    let so = c.loop-order.invariant in
    let old = c.args.tables.now.priced in
    elim c.if-order-first.branch [
      | then-order-first w ↦
          let new = w.improve_by_fixed-then-order-first.ensures in
          record {
            best = rw (w.best-is, w.tables-is) (next_tried hs most bits s ls _ first order (new.best (ls ++ fixed first ∷ fixed_below order) so.best));
            within = rw w.best-is (new.within so.within);
            arrays = rw w.arrays-is new.arrays;
            tables = rw w.tables-is new.tables;
            same = rw w.tables-is (new.same ∙ so.same);
            coarse = λ few. rw w.tables-is (counted_more first order (32 * length s) (old + length hs * (32 * length s)) c.loop-order.tables.priced w.improve_by_fixed-then-order-first.new.tables.priced w.if-order-first.true (so.coarse few) (new.coarse few));
            priced = rw w.tables-is (counted_more first order (93 * length s) (old + length hs * (93 * length s)) c.loop-order.tables.priced w.improve_by_fixed-then-order-first.new.tables.priced w.if-order-first.true so.priced new.priced);
          }
      | else-order-first w ↦
          let e : order ≡ first = omega arith in
          let tried : IsBest hs most bits s (ls ++ fixed order ∷ fixed_below order) (way_of c.loop-order.best c.loop-order.tables.codings.now) = rw (← e) at so.best in
          record {
            best = rw (w.best-is, w.tables-is, ← e) (first_tried hs most bits s ls (way_of c.loop-order.best c.loop-order.tables.codings.now) order tried);
            within = rw w.best-is so.within;
            arrays = rw w.arrays-is so.arrays;
            tables = rw w.tables-is so.tables;
            same = rw w.tables-is so.same;
            coarse = λ few. rw w.tables-is (counted_same first order (32 * length s) (old + length hs * (32 * length s)) c.loop-order.tables.priced e (so.coarse few));
            priced = rw w.tables-is (counted_same first order (93 * length s) (old + length hs * (93 * length s)) c.loop-order.tables.priced e so.priced);
          }
    ]

pub returns-clause-best : goal.returns-clause-best
returns-clause-best c =
    let hs = c.args.subject.now.predictors.now in let most = c.args.subject.now.most in let bits = c.args.subject.now.bits in let s = c.args.subject.now.samples.now in let first = c.first_order-first.result in
    let way = way_of c.loop-order.best c.loop-order.tables.codings.now in
    let five : c.loop-order.order ≡ 5 = omega arith in
    let so : IsBest hs most bits s (map predictor_of hs ++ fixed first ∷ fixed_below 5) way = rw five at c.loop-order.invariant.best in
    all_tried hs most bits s (map predictor_of hs) way first (among first [] c.first_order-first.ensures) so

pub returns-clause-coarse : goal.returns-clause-coarse
returns-clause-coarse c = λ few.
    let five : c.loop-order.order ≡ 5 = omega arith in
    let n = length c.args.subject.now.predictors.now in let b = 32 * length c.args.subject.now.samples.now in
    let so : Counted c.first_order-first.result 5 b (c.args.tables.now.priced + n * b) c.loop-order.tables.priced = rw five at (c.loop-order.invariant.coarse few) in
    counted_all n b c.args.tables.now.priced c.loop-order.tables.priced (so.after (omega (arith, c.first_order-first.ensures)))

pub returns-clause-priced : goal.returns-clause-priced
returns-clause-priced c =
    let five : c.loop-order.order ≡ 5 = omega arith in
    let n = length c.args.subject.now.predictors.now in let b = 93 * length c.args.subject.now.samples.now in
    let so : Counted c.first_order-first.result 5 b (c.args.tables.now.priced + n * b) c.loop-order.tables.priced = rw five at c.loop-order.invariant.priced in
    counted_all n b c.args.tables.now.priced c.loop-order.tables.priced (so.after (omega (arith, c.first_order-first.ensures)))
