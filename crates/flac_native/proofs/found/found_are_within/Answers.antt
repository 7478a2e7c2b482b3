use Rattle.std.proofs.Common.{◌≡◌, List, Vec, Global, All, subst, sym, arith, true, false}
use Rattle.std.proofs.lemmas.List.Elements.{All-more}
use Rattle.flac_subframe.specs.declared.format.linear.LinearPredictor.{LinearPredictor}
use Rattle.flac_subframe.specs.format.Handed.{AreWithin}
use Rattle.flac_native.specs.Given.{plane_lists}
use Rattle.flac_native.proofs.Predictors.{lists_of_frame, all_taken, one_taken}
use Rattle.flac_native.proofs.found.found_are_within.Goals as goal

pub loop-lists-preserved : goal.loop-lists-preserved
loop-lists-preserved c =
    let within = λ (ls : List (Vec LinearPredictor Global)). All (AreWithin c.args.limit) (plane_lists ls) in
    let one = subst within c.as_slice.ensures.value (c.planes_are_within.ensures.0 c.if-not-planes_are_within.false) in
    All-more (λ (f : Vec (Vec LinearPredictor Global) Global). within f.items) c.args.found.now c.loop-lists.lists-index c.lists-item.result c.loop-lists-test.true c.loop-lists.invariant (subst (λ (f : Vec (Vec LinearPredictor Global) Global). within f.items) c.lists-item.is one)

pub returns-then-not-planes_are_within : goal.returns-then-not-planes_are_within
returns-then-not-planes_are_within c =
    let within = λ (ls : List (Vec LinearPredictor Global)). All (AreWithin c.args.limit) (plane_lists ls) in (
      λ no. cc,
      λ all.
          let one = one_taken (All (AreWithin c.args.limit)) lists_of_frame c.args.found.now c.loop-lists.lists-index c.lists-item.result all c.loop-lists-test.true c.lists-item.is in
          let yes : c.planes_are_within.result ≡ true = c.planes_are_within.ensures.1 (subst within (sym c.as_slice.ensures.value) one) in
          let no : c.planes_are_within.result ≡ false = c.if-not-planes_are_within.true in
          absurd cc,
    )

pub returns : goal.returns
returns c = (
  λ yes. all_taken (All (AreWithin c.args.limit)) lists_of_frame c.args.found.now c.loop-lists.lists-index (omega (arith, c.loop-lists-test.false)) c.loop-lists.invariant,
  λ all. cc,
)
