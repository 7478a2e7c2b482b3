use Rattle.std.proofs.Common.{rules, length, arith, ◌-◌, sym, ◌∙◌}
use borrow.Rule.Slice.PartMut.{mid_of, same_len_mid}
use Rattle.std.proofs.lemmas.Result.{err_from_is_err_and}
use Rattle.flac_bits.proofs.Counting.{failed_then, gone}
use Rattle.flac_subframe.proofs.lemmas.format.Parts.{parts_start, parts_next, parts_fail, parts_fit, parts_read, cuts_within, length_mid}
use Rattle.flac_subframe.specs.format.Cost.{parameter_bits_of}
use Rattle.flac_subframe.proofs.format.residual.read_partitions.Goals as goal

pub loop-i-init : goal.loop-i-init
loop-i-init g c = parts_start (parameter_bits_of c.args.method) c.args.order c.args.size c.args.count c.args.bits.now c.args.out.now c.requires.room c.requires.cut

pub loop-i-preserved : goal.loop-i-preserved
loop-i-preserved g c =
    let so = c.loop-i.invariant in
    let within = cuts_within c.args.order c.args.size c.args.count (length c.loop-i.out) c.loop-i.start c.loop-i.end c.loop-i.i c.loop-i-test.true so.cuts in
    parts_next (parameter_bits_of c.args.method) c.args.order c.args.size c.args.count c.args.bits.now c.loop-i.bits c.read_partition.new.bits c.loop-i.out c.read_partition.new.out c.loop-i.start c.loop-i.end c.loop-i.i
    (length (mid_of c.loop-i.start (c.loop-i.end - c.loop-i.start) c.loop-i.out)) c.loop-i-test.true so (length_mid c.loop-i.start c.loop-i.end c.loop-i.out so.cuts.ordered within)
    c.read_partition.auto.out (same_len_mid c.loop-i.start (c.loop-i.end - c.loop-i.start) c.loop-i.out c.read_partition.new.out c.read_partition.auto.out)
    c.in_ok-read_partition.ensures.fits (omega (arith, c.in_ok-read_partition.ensures.reading.spends)) c.in_ok-read_partition.ensures.reading.counts c.in_ok-read_partition.ensures.reading.reads

pub returns-in_err-read_partition : goal.returns-in_err-read_partition
returns-in_err-read_partition g c =
    let so = c.loop-i.invariant in
    let within = cuts_within c.args.order c.args.size c.args.count (length c.loop-i.out) c.loop-i.start c.loop-i.end c.loop-i.i c.loop-i-test.true so.cuts in
    let p = err_from_is_err_and c.from_residual.result c.from_residual.ensures.1 in
    rw (p.1, p.2) (record {
      fits = tt;
      reading = record {
        spends = tt;
        counts = failed_then c.args.bits.now c.loop-i.bits c.read_partition.new.bits (gone so.goes) c.in_err-read_partition.ensures.reading.counts;
        memory = c.in_err-read_partition.ensures.reading.memory;
        reads = λ known same.
            let fails = c.in_err-read_partition.ensures.reading.reads (so.goes.known known) (same ∙ sym so.goes.errors) in
            parts_fail (parameter_bits_of c.args.method) c.args.order c.args.size c.args.count c.args.bits.now c.loop-i.bits c.read_partition.new.bits c.loop-i.out c.read_partition.new.out c.loop-i.start c.loop-i.end c.loop-i.i
            (length (mid_of c.loop-i.start (c.loop-i.end - c.loop-i.start) c.loop-i.out)) c.loop-i-test.true so (length_mid c.loop-i.start c.loop-i.end c.loop-i.out so.cuts.ordered within) _ fails known;
      };
    })

pub returns-clause-fits : goal.returns-clause-fits
returns-clause-fits g c = parts_fit (parameter_bits_of c.args.method) c.args.order c.args.size c.args.count c.args.bits.now c.loop-i.bits c.loop-i.out c.loop-i.start c.loop-i.end c.loop-i.i (omega (arith, c.requires.some, c.loop-i-test.false)) c.loop-i-test.false c.loop-i.invariant

pub returns-clause-reading : goal.returns-clause-reading
returns-clause-reading g c = record {
  spends = search rules;
  counts = search rules;
  memory = tt;
  reads = (λ known same. parts_read (parameter_bits_of c.args.method) c.args.order c.args.size c.args.count c.args.bits.now c.loop-i.bits c.loop-i.out c.loop-i.start c.loop-i.end c.loop-i.i (omega (arith, c.requires.some, c.loop-i-test.false)) c.loop-i-test.false c.loop-i.invariant known);
}
