use Rattle.std.proofs.Common.{◌≡◌, ℕ, ◌/◌, ◌%◌, ◌<◌, ◌^◌, true, nat_lt, get_or, refl, Fits, w8, arith}
use Rattle.std.proofs.lemmas.Bool.Decides.{nat_tests}
use Rattle.std.proofs.Math.Facts.{Fits-lt-pow}
use Rattle.flac_bits.proofs.Indices.{byte_of_eight, byte_index, byte_widened, byte_offset, mixed_fits, top_fits, low_fits}
use Rattle.flac_bits.proofs.Eights.{eight32}
use Rattle.flac_bits.proofs.crc_of_bytes.crc32_after_eight.Goals as goal

below : (k : ℕ) → nat_lt k 8 ≡ true → k < 8
below k h = grind (arith, nat_tests, h)

pub returns : goal.returns
returns c =
    let fits : c.args.check < 2 ^ 32 = Fits-lt-pow c.ranges.check in
    eight32 c.args.check c.args.bytes.now c.requires fits (λ k. let f : Fits w8 (get_or c.args.bytes.now k 0) = c.type_inv.bytes k in Fits-lt-pow f)

pub bounds-bytes-0 : goal.bounds-bytes-0
bounds-bytes-0 c = byte_of_eight 0 c.args.bytes.now c.requires (below 0 refl)

pub bounds-bytes-1 : goal.bounds-bytes-1
bounds-bytes-1 c = byte_of_eight 1 c.args.bytes.now c.requires (below 1 refl)

pub bounds-bytes-2 : goal.bounds-bytes-2
bounds-bytes-2 c = byte_of_eight 2 c.args.bytes.now c.requires (below 2 refl)

pub bounds-bytes-3 : goal.bounds-bytes-3
bounds-bytes-3 c = byte_of_eight 3 c.args.bytes.now c.requires (below 3 refl)

pub bounds-bytes-4 : goal.bounds-bytes-4
bounds-bytes-4 c = byte_of_eight 4 c.args.bytes.now c.requires (below 4 refl)

pub bounds-bytes-5 : goal.bounds-bytes-5
bounds-bytes-5 c = byte_of_eight 5 c.args.bytes.now c.requires (below 5 refl)

pub bounds-bytes-6-2 : goal.bounds-bytes-6-2
bounds-bytes-6-2 c = byte_of_eight 6 c.args.bytes.now c.requires (below 6 refl)

pub bounds-bytes-7-2 : goal.bounds-bytes-7-2
bounds-bytes-7-2 c = byte_of_eight 7 c.args.bytes.now c.requires (below 7 refl)

pub bounds-bytes : goal.bounds-bytes
bounds-bytes c = byte_index (get_or c.args.bytes.now 4 0) (c.type_inv.bytes 4)

pub bounds-bytes-6 : goal.bounds-bytes-6
bounds-bytes-6 c = byte_index (get_or c.args.bytes.now 5 0) (c.type_inv.bytes 5)

pub bounds-bytes-7 : goal.bounds-bytes-7
bounds-bytes-7 c = byte_index (get_or c.args.bytes.now 6 0) (c.type_inv.bytes 6)

pub bounds-bytes-8 : goal.bounds-bytes-8
bounds-bytes-8 c = byte_index (get_or c.args.bytes.now 7 0) (c.type_inv.bytes 7)

pub offset_bounds-bytes : goal.offset_bounds-bytes
offset_bounds-bytes c = byte_offset (get_or c.args.bytes.now 4 0) (c.type_inv.bytes 4)

pub offset_bounds-bytes-2 : goal.offset_bounds-bytes-2
offset_bounds-bytes-2 c = byte_offset (get_or c.args.bytes.now 5 0) (c.type_inv.bytes 5)

pub offset_bounds-bytes-3 : goal.offset_bounds-bytes-3
offset_bounds-bytes-3 c = byte_offset (get_or c.args.bytes.now 6 0) (c.type_inv.bytes 6)

pub offset_bounds-bytes-4 : goal.offset_bounds-bytes-4
offset_bounds-bytes-4 c = byte_offset (get_or c.args.bytes.now 7 0) (c.type_inv.bytes 7)

pub overflow_cast-result-11 : goal.overflow_cast-result-11
overflow_cast-result-11 c = byte_widened (get_or c.args.bytes.now 6 0) (c.type_inv.bytes 6)

pub overflow_cast-result-12 : goal.overflow_cast-result-12
overflow_cast-result-12 c = byte_widened (get_or c.args.bytes.now 7 0) (c.type_inv.bytes 7)

pub overflow_cast-result : goal.overflow_cast-result
overflow_cast-result c = top_fits c.args.check c.ranges.check

pub overflow_cast-result-2 : goal.overflow_cast-result-2
overflow_cast-result-2 c =
    byte_widened _ (mixed_fits (c.args.check / 16777216) (get_or c.args.bytes.now 0 0) (top_fits c.args.check c.ranges.check) (c.type_inv.bytes 0))

pub bounds-check : goal.bounds-check
bounds-check c =
    byte_index _ (mixed_fits (c.args.check / 16777216) (get_or c.args.bytes.now 0 0) (top_fits c.args.check c.ranges.check) (c.type_inv.bytes 0))

pub offset_bounds-check : goal.offset_bounds-check
offset_bounds-check c =
    byte_offset _ (mixed_fits (c.args.check / 16777216) (get_or c.args.bytes.now 0 0) (top_fits c.args.check c.ranges.check) (c.type_inv.bytes 0))

pub overflow_cast-result-3 : goal.overflow_cast-result-3
overflow_cast-result-3 c = low_fits (c.args.check / 65536)

pub overflow_cast-result-4 : goal.overflow_cast-result-4
overflow_cast-result-4 c =
    byte_widened _ (mixed_fits (c.args.check / 65536 % 256) (get_or c.args.bytes.now 1 0) (low_fits (c.args.check / 65536)) (c.type_inv.bytes 1))

pub bounds-check-2 : goal.bounds-check-2
bounds-check-2 c =
    byte_index _ (mixed_fits (c.args.check / 65536 % 256) (get_or c.args.bytes.now 1 0) (low_fits (c.args.check / 65536)) (c.type_inv.bytes 1))

pub offset_bounds-check-2 : goal.offset_bounds-check-2
offset_bounds-check-2 c =
    byte_offset _ (mixed_fits (c.args.check / 65536 % 256) (get_or c.args.bytes.now 1 0) (low_fits (c.args.check / 65536)) (c.type_inv.bytes 1))

pub overflow_cast-result-5 : goal.overflow_cast-result-5
overflow_cast-result-5 c = low_fits (c.args.check / 256)

pub overflow_cast-result-6 : goal.overflow_cast-result-6
overflow_cast-result-6 c =
    byte_widened _ (mixed_fits (c.args.check / 256 % 256) (get_or c.args.bytes.now 2 0) (low_fits (c.args.check / 256)) (c.type_inv.bytes 2))

pub bounds-check-3 : goal.bounds-check-3
bounds-check-3 c =
    byte_index _ (mixed_fits (c.args.check / 256 % 256) (get_or c.args.bytes.now 2 0) (low_fits (c.args.check / 256)) (c.type_inv.bytes 2))

pub offset_bounds-check-3 : goal.offset_bounds-check-3
offset_bounds-check-3 c =
    byte_offset _ (mixed_fits (c.args.check / 256 % 256) (get_or c.args.bytes.now 2 0) (low_fits (c.args.check / 256)) (c.type_inv.bytes 2))

pub overflow_cast-result-7 : goal.overflow_cast-result-7
overflow_cast-result-7 c = low_fits c.args.check

pub overflow_cast-result-8 : goal.overflow_cast-result-8
overflow_cast-result-8 c =
    byte_widened _ (mixed_fits (c.args.check % 256) (get_or c.args.bytes.now 3 0) (low_fits c.args.check) (c.type_inv.bytes 3))

pub bounds-check-4 : goal.bounds-check-4
bounds-check-4 c =
    byte_index _ (mixed_fits (c.args.check % 256) (get_or c.args.bytes.now 3 0) (low_fits c.args.check) (c.type_inv.bytes 3))

pub offset_bounds-check-4 : goal.offset_bounds-check-4
offset_bounds-check-4 c =
    byte_offset _ (mixed_fits (c.args.check % 256) (get_or c.args.bytes.now 3 0) (low_fits c.args.check) (c.type_inv.bytes 3))
