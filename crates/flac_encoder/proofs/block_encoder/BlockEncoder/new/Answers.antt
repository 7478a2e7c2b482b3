use Rattle.std.proofs.Common.{sym, ◌∙◌, arith}
use Rattle.flac_native.proofs.Predictors.{none_tried}
use Rattle.flac_encoder.proofs.Pushing.{shaped}
use Rattle.flac_encoder.proofs.block_encoder.BlockEncoder.new.Goals as goal

pub new_in-requires : goal.new_in-requires
new_in-requires c = let q = shaped _ (sym c.fault.ensures ∙ c.in_default.is) in omega (arith, q.small)

pub invariant_of-result : goal.invariant_of-result
invariant_of-result c = record {
  shape = sym c.fault.ensures ∙ c.in_default.is;
  predictors = none_tried c.args.format.now.profile c.args.format.now.rate c.new.result.items c.new.ensures.items;
  search = tt;
  buffers = c.in-Ok.ensures.ok;
  number = omega arith;
  samples = omega arith;
}
