use Rattle.std.proofs.Common.{arith, ◌+◌, drop, take, flat_map, map, get_or, refl}
use Rattle.std.proofs.lemmas.List.{length-drop, length-map}
use Rattle.std.proofs.lemmas.List.Elements.{All-take}
use Rattle.std.proofs.lemmas.Result.{err_from_is_err_and}
use Rattle.flac_bits.specs.Rice.{IsResidual}
use Rattle.flac_bits.proofs.Writing.{towards_start, towards_fail, towards_end}
use Rattle.flac_subframe.specs.format.Bodies.{cut}
use Rattle.flac_subframe.specs.format.Cost.{coding_of, parameter_bits_of}
use Rattle.flac_subframe.specs.format.Spelling.{coding_spelling, partition_spelling}
use Rattle.flac_subframe.proofs.lemmas.format.Bytes.{next_coding}
use Rattle.flac_subframe.proofs.lemmas.format.WriteSteps.{writing_more, writing_within, nothing_left}
use Rattle.flac_subframe.proofs.format.writing.write_partitions.Goals as goal

pub loop-byte-init : goal.loop-byte-init
loop-byte-init g c = record { towards = towards_start _ c.args.writer.now; may = c.requires.may; range = c.requires.range; cuts = λ _. rw (length-map c.args.codings.now coding_of) c.requires.cut }

pub split_at-requires : goal.split_at-requires
split_at-requires g c =
    let so = rw (next_coding c.args.codings.now c.loop-byte.byte-index 0 c.loop-byte-test.true) at c.loop-byte.invariant in
    writing_within _ _ _ _ _ _ _ _ _ so

pub write_partition-requires : goal.write_partition-requires
write_partition-requires g c =
    let so = rw (next_coding c.args.codings.now c.loop-byte.byte-index 0 c.loop-byte-test.true) at c.loop-byte.invariant in
    record { may = rw (c.of_byte.ensures, c.split_at.ensures.front) so.may.0; range = rw c.split_at.ensures.front (All-take IsResidual c.loop-byte.long c.loop-byte.rest.now so.range) }

pub loop-byte-preserved : goal.loop-byte-preserved
loop-byte-preserved g c =
    let so = rw (next_coding c.args.codings.now c.loop-byte.byte-index 0 c.loop-byte-test.true) at c.loop-byte.invariant in
    rw c.split_at.ensures.back (writing_more _ _ _ _ _ _ _ _ _ _ so (rw (c.of_byte.ensures, c.split_at.ensures.front) at c.in_ok-write_partition.ensures))

pub returns-in_err-write_partition : goal.returns-in_err-write_partition
unfolding cut
returns-in_err-write_partition g c =
    let i = c.loop-byte.byte-index in
    let cs = map coding_of c.args.codings.now in
    let w = (parameter_bits_of c.args.method) in
    let rest = c.loop-byte.rest.now in
    let long = c.loop-byte.long in
    let so = rw (next_coding c.args.codings.now i 0 c.loop-byte-test.true) at c.loop-byte.invariant in
    let p = err_from_is_err_and c.from_residual.result c.from_residual.ensures.1 in
    rw (p.1, p.2) (towards_fail (coding_spelling w (coding_of (get_or c.args.codings.now i 0)) (take long rest)) (flat_map (partition_spelling w) (cut c.args.size c.args.size (drop long rest) (drop (i + 1) cs))) refl so.towards
    (rw (c.of_byte.ensures, c.split_at.ensures.front) at c.in_err-write_partition.ensures))

pub returns : goal.returns
returns g c =
    let cs = map coding_of c.args.codings.now in
    let i = c.loop-byte.byte-index in
    towards_end (nothing_left (parameter_bits_of c.args.method) c.loop-byte.long c.args.size c.loop-byte.rest.now (drop i cs) (omega (arith, length-drop i cs, length-map c.args.codings.now coding_of, c.loop-byte-test.false))) c.loop-byte.invariant.towards
