use Rattle.std.proofs.Common.{◌/◌, ◌<◌, ◌^◌, rules}
use Rattle.flac_bits.proofs.Indices.{byte_index, byte_widened, byte_offset, mixed_fits, top_fits}
use Rattle.flac_bits.proofs.Eights.{byte32}
use Rattle.flac_bits.proofs.crc_of_bytes.crc32_after_byte.Goals as goal

pub returns : goal.returns
returns c =
    let fits : c.args.check < 2 ^ 32 = search rules in
    let small : c.args.byte < 2 ^ 8 = search rules in
    byte32 c.args.check c.args.byte fits small

pub overflow_cast-result : goal.overflow_cast-result
overflow_cast-result c = top_fits c.args.check c.ranges.check

pub overflow_cast-result-2 : goal.overflow_cast-result-2
overflow_cast-result-2 c =
    byte_widened _ (mixed_fits (c.args.check / 16777216) c.args.byte (top_fits c.args.check c.ranges.check) c.ranges.byte)

pub bounds-check : goal.bounds-check
bounds-check c =
    byte_index _ (mixed_fits (c.args.check / 16777216) c.args.byte (top_fits c.args.check c.ranges.check) c.ranges.byte)

pub offset_bounds-check : goal.offset_bounds-check
offset_bounds-check c =
    byte_offset _ (mixed_fits (c.args.check / 16777216) c.args.byte (top_fits c.args.check c.ranges.check) c.ranges.byte)
