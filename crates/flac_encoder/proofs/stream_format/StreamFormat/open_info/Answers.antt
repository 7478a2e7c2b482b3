use Rattle.std.proofs.Common.{arith}
use Rattle.flac_encoder.proofs.Pushing.{shaped}
use Rattle.flac_encoder.proofs.stream_format.StreamFormat.open_info.Goals as goal

pub overflow_cast-self : goal.overflow_cast-self
overflow_cast-self c = let q = shaped _ c.requires in omega (arith, q.small)

pub overflow_cast-self-2 : goal.overflow_cast-self-2
overflow_cast-self-2 c = let q = shaped _ c.requires in omega (arith, q.few)

pub overflow_cast-self-3 : goal.overflow_cast-self-3
overflow_cast-self-3 c = let q = shaped _ c.requires in omega (arith, q.bits)

pub of_format-requires : goal.of_format-requires
of_format-requires c =
    let q = shaped _ c.requires in
    record {
      block_size = q.least;
      rate = (q.least_rate, q.rate);
      channels = (q.some, q.few);
      depth = (q.least_bits, q.bits);
    }
