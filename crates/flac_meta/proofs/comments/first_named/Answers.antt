use Rattle.std.proofs.Common.{◌∙◌}
use Rattle.flac_meta.proofs.Named.{values_passed, values_found, values_over}
use Rattle.flac_meta.proofs.comments.first_named.Goals as goal

pub loop-i-preserved : goal.loop-i-preserved
loop-i-preserved c = c.loop-i.invariant
    ∙ values_passed c.args.name.now c.args.texts.now c.loop-i.i c.index-texts-i.result c.as_slice.result.now c.loop-i-test.true c.index-texts-i.is c.as_slice.ensures c.in-None.ensures

pub returns-in-Some : goal.returns-in-Some
returns-in-Some c = (
  c.loop-i-test.true,
  c.loop-i.invariant
      ∙ values_found c.args.name.now c.args.texts.now c.loop-i.i c.index-texts-i.result c.as_slice.result.now c.in-Some.value.now c.loop-i-test.true c.index-texts-i.is c.as_slice.ensures c.in-Some.ensures,
)

pub returns : goal.returns
returns c = c.loop-i.invariant ∙ values_over c.args.name.now c.args.texts.now c.loop-i.i c.loop-i-test.false
