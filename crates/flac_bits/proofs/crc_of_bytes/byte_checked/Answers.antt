use Rattle.std.proofs.Common.{◌/◌, ◌*◌, ◌%◌, ◌<◌, ◌^◌, bit_xor, ap, ◌∙◌, rules}
use Rattle.flac_bits.proofs.Indices.{byte_index, byte_widened, byte_offset, mixed_fits, high_fits}
use Rattle.flac_bits.proofs.Eights.{byte8, byte16}
use Rattle.flac_bits.proofs.crc_of_bytes.byte_checked.Goals as goal

pub returns-clause-eight : goal.returns-clause-eight
returns-clause-eight c =
    let fits : c.args.checks.0 < 2 ^ 8 = search rules in
    let small : c.args.byte < 2 ^ 8 = search rules in
    c.crc8_of.ensures ∙ byte8 c.args.checks.0 c.args.byte fits small

pub returns-clause-sixteen : goal.returns-clause-sixteen
returns-clause-sixteen c =
    let fits : c.args.checks.1 < 2 ^ 16 = search rules in
    let small : c.args.byte < 2 ^ 8 = search rules in
    ap (bit_xor (c.args.checks.1 * 256 % 65536)) c.crc16_of.ensures ∙ byte16 c.args.checks.1 c.args.byte fits small

pub overflow_cast-entry8 : goal.overflow_cast-entry8
overflow_cast-entry8 c = byte_widened _ (mixed_fits c.args.checks.0 c.args.byte (search rules) c.ranges.byte)

pub bounds-check8 : goal.bounds-check8
bounds-check8 c = byte_index _ (mixed_fits c.args.checks.0 c.args.byte (search rules) c.ranges.byte)

pub offset_bounds-check8 : goal.offset_bounds-check8
offset_bounds-check8 c = byte_offset _ (mixed_fits c.args.checks.0 c.args.byte (search rules) c.ranges.byte)

pub overflow_cast-entry16 : goal.overflow_cast-entry16
overflow_cast-entry16 c = high_fits c.args.checks.1 (search rules)

pub overflow_cast-entry16-2 : goal.overflow_cast-entry16-2
overflow_cast-entry16-2 c =
    byte_widened _ (mixed_fits (c.args.checks.1 / 256) c.args.byte (high_fits c.args.checks.1 (search rules)) c.ranges.byte)

pub bounds-check16 : goal.bounds-check16
bounds-check16 c =
    byte_index _ (mixed_fits (c.args.checks.1 / 256) c.args.byte (high_fits c.args.checks.1 (search rules)) c.ranges.byte)

pub offset_bounds-check16 : goal.offset_bounds-check16
offset_bounds-check16 c =
    byte_offset _ (mixed_fits (c.args.checks.1 / 256) c.args.byte (high_fits c.args.checks.1 (search rules)) c.ranges.byte)
