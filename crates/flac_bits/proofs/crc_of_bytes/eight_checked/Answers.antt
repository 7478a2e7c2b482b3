use Rattle.std.proofs.Common.{◌≡◌, ℕ, ◌<◌, ◌/◌, ◌%◌, ◌^◌, true, nat_lt, get_or, refl, ◌∙◌, Fits, w8, rules, arith}
use Rattle.std.proofs.lemmas.Bool.Decides.{nat_tests}
use Rattle.std.proofs.Math.Facts.{Fits-lt-pow}
use Rattle.flac_bits.proofs.Indices.{byte_of_eight, byte_index, byte_widened, byte_offset, mixed_fits, high_fits, low_fits}
use Rattle.flac_bits.proofs.Eights.{eight8, eight16}
use Rattle.flac_bits.proofs.crc_of_bytes.eight_checked.Goals as goal

below : (k : ℕ) → nat_lt k 8 ≡ true → k < 8
below k h = grind (arith, nat_tests, h)

pub returns-clause-eight : goal.returns-clause-eight
returns-clause-eight c =
    let fits : c.args.checks.0 < 2 ^ 8 = search rules in
    c.crc8_of.ensures ∙ eight8 c.args.checks.0 c.args.bytes.now c.requires fits (λ k. let f : Fits w8 (get_or c.args.bytes.now k 0) = c.type_inv.bytes k in Fits-lt-pow f)

pub returns-clause-sixteen : goal.returns-clause-sixteen
returns-clause-sixteen c =
    let fits : c.args.checks.1 < 2 ^ 16 = search rules in
    c.crc16_of.ensures ∙ eight16 c.args.checks.1 c.args.bytes.now c.requires fits (λ k. let f : Fits w8 (get_or c.args.bytes.now k 0) = c.type_inv.bytes k in Fits-lt-pow f)

pub bounds-bytes-2 : goal.bounds-bytes-2
bounds-bytes-2 c = byte_of_eight 2 c.args.bytes.now c.requires (below 2 refl)

pub bounds-bytes-3 : goal.bounds-bytes-3
bounds-bytes-3 c = byte_of_eight 3 c.args.bytes.now c.requires (below 3 refl)

pub bounds-bytes-4-2 : goal.bounds-bytes-4-2
bounds-bytes-4-2 c = byte_of_eight 4 c.args.bytes.now c.requires (below 4 refl)

pub bounds-bytes-5-2 : goal.bounds-bytes-5-2
bounds-bytes-5-2 c = byte_of_eight 5 c.args.bytes.now c.requires (below 5 refl)

pub bounds-bytes-6-2 : goal.bounds-bytes-6-2
bounds-bytes-6-2 c = byte_of_eight 6 c.args.bytes.now c.requires (below 6 refl)

pub bounds-bytes-7-2 : goal.bounds-bytes-7-2
bounds-bytes-7-2 c = byte_of_eight 7 c.args.bytes.now c.requires (below 7 refl)

pub bounds-bytes-0 : goal.bounds-bytes-0
bounds-bytes-0 c = byte_of_eight 0 c.args.bytes.now c.requires (below 0 refl)

pub bounds-bytes-1 : goal.bounds-bytes-1
bounds-bytes-1 c = byte_of_eight 1 c.args.bytes.now c.requires (below 1 refl)

pub bounds-bytes-0-2 : goal.bounds-bytes-0-2
bounds-bytes-0-2 c = byte_of_eight 0 c.args.bytes.now c.requires (below 0 refl)

pub bounds-bytes-1-2 : goal.bounds-bytes-1-2
bounds-bytes-1-2 c = byte_of_eight 1 c.args.bytes.now c.requires (below 1 refl)

pub bounds-bytes : goal.bounds-bytes
bounds-bytes c = byte_index (get_or c.args.bytes.now 2 0) (c.type_inv.bytes 2)

pub bounds-bytes-4 : goal.bounds-bytes-4
bounds-bytes-4 c = byte_index (get_or c.args.bytes.now 3 0) (c.type_inv.bytes 3)

pub bounds-bytes-5 : goal.bounds-bytes-5
bounds-bytes-5 c = byte_index (get_or c.args.bytes.now 4 0) (c.type_inv.bytes 4)

pub bounds-bytes-6 : goal.bounds-bytes-6
bounds-bytes-6 c = byte_index (get_or c.args.bytes.now 5 0) (c.type_inv.bytes 5)

pub bounds-bytes-7 : goal.bounds-bytes-7
bounds-bytes-7 c = byte_index (get_or c.args.bytes.now 6 0) (c.type_inv.bytes 6)

pub bounds-bytes-8 : goal.bounds-bytes-8
bounds-bytes-8 c = byte_index (get_or c.args.bytes.now 7 0) (c.type_inv.bytes 7)

pub bounds-bytes-9 : goal.bounds-bytes-9
bounds-bytes-9 c = byte_index (get_or c.args.bytes.now 1 0) (c.type_inv.bytes 1)

pub offset_bounds-bytes : goal.offset_bounds-bytes
offset_bounds-bytes c = byte_offset (get_or c.args.bytes.now 2 0) (c.type_inv.bytes 2)

pub offset_bounds-bytes-2 : goal.offset_bounds-bytes-2
offset_bounds-bytes-2 c = byte_offset (get_or c.args.bytes.now 3 0) (c.type_inv.bytes 3)

pub offset_bounds-bytes-3 : goal.offset_bounds-bytes-3
offset_bounds-bytes-3 c = byte_offset (get_or c.args.bytes.now 4 0) (c.type_inv.bytes 4)

pub offset_bounds-bytes-4 : goal.offset_bounds-bytes-4
offset_bounds-bytes-4 c = byte_offset (get_or c.args.bytes.now 5 0) (c.type_inv.bytes 5)

pub offset_bounds-bytes-5 : goal.offset_bounds-bytes-5
offset_bounds-bytes-5 c = byte_offset (get_or c.args.bytes.now 6 0) (c.type_inv.bytes 6)

pub offset_bounds-bytes-6 : goal.offset_bounds-bytes-6
offset_bounds-bytes-6 c = byte_offset (get_or c.args.bytes.now 7 0) (c.type_inv.bytes 7)

pub offset_bounds-bytes-7 : goal.offset_bounds-bytes-7
offset_bounds-bytes-7 c = byte_offset (get_or c.args.bytes.now 1 0) (c.type_inv.bytes 1)

pub overflow_cast-entry8-2 : goal.overflow_cast-entry8-2
overflow_cast-entry8-2 c = byte_widened (get_or c.args.bytes.now 1 0) (c.type_inv.bytes 1)

pub overflow_cast-entry8 : goal.overflow_cast-entry8
overflow_cast-entry8 c =
    byte_widened _ (mixed_fits c.args.checks.0 (get_or c.args.bytes.now 0 0) (search rules) (c.type_inv.bytes 0))

pub bounds-check8 : goal.bounds-check8
bounds-check8 c =
    byte_index _ (mixed_fits c.args.checks.0 (get_or c.args.bytes.now 0 0) (search rules) (c.type_inv.bytes 0))

pub offset_bounds-check8 : goal.offset_bounds-check8
offset_bounds-check8 c =
    byte_offset _ (mixed_fits c.args.checks.0 (get_or c.args.bytes.now 0 0) (search rules) (c.type_inv.bytes 0))

pub overflow_cast-entry16-2 : goal.overflow_cast-entry16-2
overflow_cast-entry16-2 c =
    byte_widened _ (mixed_fits (c.args.checks.1 / 256) (get_or c.args.bytes.now 0 0) (high_fits c.args.checks.1 (search rules)) (c.type_inv.bytes 0))

pub bounds-check16 : goal.bounds-check16
bounds-check16 c =
    byte_index _ (mixed_fits (c.args.checks.1 / 256) (get_or c.args.bytes.now 0 0) (high_fits c.args.checks.1 (search rules)) (c.type_inv.bytes 0))

pub offset_bounds-check16 : goal.offset_bounds-check16
offset_bounds-check16 c =
    byte_offset _ (mixed_fits (c.args.checks.1 / 256) (get_or c.args.bytes.now 0 0) (high_fits c.args.checks.1 (search rules)) (c.type_inv.bytes 0))

pub overflow_cast-entry16-4 : goal.overflow_cast-entry16-4
overflow_cast-entry16-4 c =
    byte_widened _ (mixed_fits (c.args.checks.1 % 256) (get_or c.args.bytes.now 1 0) (low_fits c.args.checks.1) (c.type_inv.bytes 1))

pub bounds-check16-2 : goal.bounds-check16-2
bounds-check16-2 c =
    byte_index _ (mixed_fits (c.args.checks.1 % 256) (get_or c.args.bytes.now 1 0) (low_fits c.args.checks.1) (c.type_inv.bytes 1))

pub offset_bounds-check16-2 : goal.offset_bounds-check16-2
offset_bounds-check16-2 c =
    byte_offset _ (mixed_fits (c.args.checks.1 % 256) (get_or c.args.bytes.now 1 0) (low_fits c.args.checks.1) (c.type_inv.bytes 1))

pub overflow_cast-entry16 : goal.overflow_cast-entry16
overflow_cast-entry16 c = high_fits c.args.checks.1 (search rules)

pub overflow_cast-entry16-3 : goal.overflow_cast-entry16-3
overflow_cast-entry16-3 c = low_fits c.args.checks.1

pub crc8_of-requires : goal.crc8_of-requires
crc8_of-requires c = tt

pub crc16_of-requires : goal.crc16_of-requires
crc16_of-requires c = tt
