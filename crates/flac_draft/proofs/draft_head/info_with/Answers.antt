use Rattle.std.proofs.Common.{arith}
use Rattle.flac_encoder.proofs.Pushing.{shaped}
use Rattle.flac_draft.proofs.draft_head.info_with.Goals as goal

pub overflow_cast-size : goal.overflow_cast-size
overflow_cast-size c = let q = shaped _ c.requires.format in omega (arith, q.small)

pub overflow_cast-format : goal.overflow_cast-format
overflow_cast-format c = let q = shaped _ c.requires.format in omega (arith, q.few)

pub overflow_cast-format-2 : goal.overflow_cast-format-2
overflow_cast-format-2 c = let q = shaped _ c.requires.format in omega (arith, q.bits)

pub unreachable-requires : goal.unreachable-requires
unreachable-requires c =
    let q = shaped _ c.requires.format in
    c.in-Err.ensures.refused.1 (record {
      least_block = q.least;
      blocks = omega arith;
      greatest_block = omega (arith, q.small);
      least_frame = c.requires.least;
      greatest_frame = c.requires.greatest;
      least_rate = q.least_rate;
      rate = q.rate;
      least_channels = q.some;
      channels = q.few;
      least_depth = q.least_bits;
      depth = q.bits;
      total = c.requires.total;
    })
