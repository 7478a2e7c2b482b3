use Rattle.std.proofs.Common.{refl, arith}
use Rattle.flac_encoder.proofs.Pushing.{not_refused}
use Rattle.flac_encoder.proofs.block_encoder.BlockEncoder.sent.Goals as goal

pub overflow_add-self : goal.overflow_add-self
overflow_add-self c =
    let a = not_refused _ _ _ _ c.self.view_is c.self.invariant.shape refl c.requires in
    omega (arith, a.number)

pub overflow_add-self-2 : goal.overflow_add-self-2
overflow_add-self-2 c =
    let a = not_refused _ _ _ _ c.self.view_is c.self.invariant.shape refl c.requires in
    omega (arith, a.samples, c.block_len-len.ensures)

pub invariant_of-self : goal.invariant_of-self
invariant_of-self c =
    let a = not_refused _ _ _ _ c.self.view_is c.self.invariant.shape refl c.requires in
    record {
      shape = c.self.invariant.shape;
      predictors = c.self.invariant.predictors;
      search = c.self.invariant.search;
      buffers = c.self.invariant.buffers;
      number = omega (arith, a.number);
      samples = omega (arith, a.samples, c.block_len-len.ensures);
    }
