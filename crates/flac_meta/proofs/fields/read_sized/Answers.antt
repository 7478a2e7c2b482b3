use Rattle.std.proofs.lemmas.Result.{err_from_is_err_and}
use Rattle.std.proofs.Common.{rules, ◌-◌, ◌∙◌}
use Rattle.flac_bits.specs.Layout.{bits, run}
use Rattle.flac_bits.proofs.Telling.{told_fault}
use Rattle.flac_meta.specs.Fields.{number_32}
use Rattle.flac_meta.specs.inner.Counted.{counted}
use Rattle.flac_meta.proofs.Short.{sized_parts, counts_then, answers_same, gives_then}
use Rattle.flac_meta.proofs.fields.read_sized.Goals as goal

pub returns-in_err-size-clause-reading : goal.returns-in_err-size-clause-reading
unfolding number_32
returns-in_err-size-clause-reading g c = record {
  spends = search rules;
  counts = (let p = err_from_is_err_and c.from_residual.result c.from_residual.ensures.1 in
      rw (p.1, p.2) c.in_err-size.ensures.reading.counts);
  reads = (let p = err_from_is_err_and c.from_residual.result c.from_residual.ensures.1 in
      rw (p.1, p.2) (λ room known same. sized_parts (bits 32) c.args.left c.args.bits.now.cursor
      ∙ told_fault c.args.bits.now c.read_number_32.new.bits (λ size d. run (counted size (c.args.left - 4)) d) c.in_err-size.ensures.reading.reads known same));
}

pub returns-clause-reading : goal.returns-clause-reading
unfolding number_32
returns-clause-reading g c = record {
  spends = search rules;
  counts = counts_then c.args.bits.now c.read_number_32.new.bits c.read_counted.new.bits c.read_counted.result c.in_ok-size.ensures.reading.counts c.read_counted.ensures.reading.counts;
  reads = (λ room known same. answers_same (λ b. b) c.read_counted.new.bits.cursor c.read_counted.result (sized_parts (bits 32) c.args.left c.args.bits.now.cursor)
      (gives_then (λ b. b) c.args.bits.now c.read_number_32.new.bits c.read_counted.new.bits c.read_counted.result (λ size d. run (counted size (c.args.left - 4)) d)
      c.in_ok-size.ensures.reading.counts c.in_ok-size.ensures.reading.reads (c.read_counted.ensures.reading.reads room) known same));
}
