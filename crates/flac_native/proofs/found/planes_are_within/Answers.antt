use Rattle.std.proofs.Common.{◌≡◌, Vec, Global, subst, sym, arith, true, false}
use Rattle.std.proofs.lemmas.List.Elements.{All-more}
use Rattle.flac_subframe.specs.declared.format.linear.LinearPredictor.{LinearPredictor}
use Rattle.flac_subframe.specs.format.Handed.{AreWithin}
use Rattle.flac_native.proofs.Predictors.{predictors_of, all_taken, one_taken}
use Rattle.flac_native.proofs.found.planes_are_within.Goals as goal

pub loop-list-preserved : goal.loop-list-preserved
loop-list-preserved c =
    let one = subst (AreWithin c.args.limit) c.as_slice.ensures.value (c.are_within.ensures.0 c.if-not-are_within.false) in
    All-more (λ (v : Vec LinearPredictor Global). AreWithin c.args.limit v.items) c.args.lists.now c.loop-list.list-index c.list-item.result c.loop-list-test.true c.loop-list.invariant (subst (λ (v : Vec LinearPredictor Global). AreWithin c.args.limit v.items) c.list-item.is one)

pub returns-then-not-are_within : goal.returns-then-not-are_within
returns-then-not-are_within c = (
  λ no. cc,
  λ all.
      let one = one_taken (AreWithin c.args.limit) predictors_of c.args.lists.now c.loop-list.list-index c.list-item.result all c.loop-list-test.true c.list-item.is in
      let yes : c.are_within.result ≡ true = c.are_within.ensures.1 (subst (AreWithin c.args.limit) (sym c.as_slice.ensures.value) one) in
      let no : c.are_within.result ≡ false = c.if-not-are_within.true in
      absurd cc,
)

pub returns : goal.returns
returns c = (
  λ yes. all_taken (AreWithin c.args.limit) predictors_of c.args.lists.now c.loop-list.list-index (omega (arith, c.loop-list-test.false)) c.loop-list.invariant,
  λ all. cc,
)
