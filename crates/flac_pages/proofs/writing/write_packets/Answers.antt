use Rattle.std.proofs.Common.{ℕ, ◌+◌, ◌-◌, ◌<◌, nat_eq, length, take, drop, slice_index_or, arith, refl}
use Rattle.std.proofs.lemmas.Result.{err_from_is_err_and}
use Rattle.flac_bits.proofs.Writing.{towards_start, towards_more, towards_fail}
use Rattle.flac_pages.specs.declared.writing.PacketAt.{PacketAt}
use Rattle.flac_pages.specs.declared.writing.PacketKind.TheVariants.{Header}
use Rattle.flac_pages.specs.Placed.{sequence_after, stream_spelling}
use Rattle.flac_pages.proofs.PlacedWritten.{bits_from, in_order, step_is}
use Rattle.flac_pages.proofs.writing.write_packets.Goals as goal

pub loop-i-init : goal.loop-i-init
unfolding stream_spelling
loop-i-init g c = record { order = c.requires; towards = towards_start _ c.args.writer.now }

pub returns-in_err-sequence : goal.returns-in_err-sequence
returns-in_err-sequence g c =
    let e = err_from_is_err_and c.from_residual.result c.from_residual.ensures.1 in
    let ps = c.args.packets.now in let i = c.loop-i.i in let bytes = c.args.bytes.now in
    let none : PacketAt = record { end = 0; kind = Header } in
    let p : PacketAt = slice_index_or ps i none in
    let next : ℕ = sequence_after c.loop-i.sequence (take (p.end - c.loop-i.from) (drop c.loop-i.from bytes)) in
    rw (e.1, e.2) (towards_fail _ (bits_from c.args.serial next (nat_eq (i + 1) 0) bytes p.end (drop (i + 1) ps))
    (step_is c.args.serial c.loop-i.sequence next bytes c.loop-i.from i ps p none (omega (arith, c.loop-i-test.true)) refl refl) c.loop-i.invariant.towards c.in_err-sequence.ensures.wrote)

pub loop-i-preserved : goal.loop-i-preserved
loop-i-preserved g c =
    let ps = c.args.packets.now in let i = c.loop-i.i in let bytes = c.args.bytes.now in
    let none : PacketAt = record { end = 0; kind = Header } in
    let p : PacketAt = slice_index_or ps i none in
    let lt : i < length ps = omega (arith, c.loop-i-test.true) in
    let next = c.in_ok-sequence.sequence in
    record {
      order = (in_order ps i c.loop-i.from (length bytes) p none lt refl c.loop-i.invariant.order).2;
      towards = towards_more (bits_from c.args.serial next (nat_eq (i + 1) 0) bytes p.end (drop (i + 1) ps))
          (step_is c.args.serial c.loop-i.sequence next bytes c.loop-i.from i ps p none lt refl c.in_ok-sequence.ensures.next) c.loop-i.invariant.towards c.in_ok-sequence.ensures.wrote;
    }
