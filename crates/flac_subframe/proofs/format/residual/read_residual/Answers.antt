use Rattle.std.proofs.Common.{rules, sym, ◌∙◌, ◌+◌, length, ℕ}
use Rattle.std.proofs.lemmas.Result.{err_from_is_err_and}
use Rattle.flac_bits.proofs.Counting.{answered_then, failed_then}
use Rattle.flac_subframe.specs.format.inner.Codes.{method_code}
use Rattle.flac_subframe.proofs.lemmas.format.Methods.{bits_of_code}
use Rattle.flac_subframe.proofs.lemmas.format.Predicted.{residual_run, residual_fails}
use Rattle.flac_subframe.proofs.format.residual.read_residual.Goals as goal

pub returns-in_err-method : goal.returns-in_err-method
returns-in_err-method g c =
    let p = err_from_is_err_and c.from_residual.result c.from_residual.ensures.1 in
    rw (p.1, p.2) (record { fits = tt; reading = record { spends = tt; counts = c.in_err-method.ensures.reading.counts; memory = c.in_err-method.ensures.reading.memory; reads = λ known same. residual_fails c.args.limit c.args.order (length c.args.out.now + c.args.order) c.args.bits.now.cursor _ (c.in_err-method.ensures.reading.reads known same) } })

pub returns-in_err-read_partitions : goal.returns-in_err-read_partitions
returns-in_err-read_partitions g c =
    let counts = c.in_ok-method.ensures.reading.counts in
    let h : ℕ × ℕ = (method_code c.in_ok-method.method, c.in_ok-method.partition_order) in
    let p = err_from_is_err_and c.from_residual-in_err-read_partitions.result c.from_residual-in_err-read_partitions.ensures.1 in
    rw (p.1, p.2) (record {
      fits = tt;
      reading = record {
        spends = tt;
        counts = failed_then c.args.bits.now c.read_residual_header.new.bits c.read_partitions.new.bits counts c.in_err-read_partitions.ensures.reading.counts;
        memory = c.in_err-read_partitions.ensures.reading.memory;
        reads = λ known same.
            residual_run c.args.limit c.args.order (length c.args.out.now + c.args.order) h c.args.bits.now.cursor c.read_residual_header.new.bits.cursor (c.in_ok-method.ensures.reading.reads known counts.1)
            ∙ (rw (c.power-count.ensures, bits_of_code c.in_ok-method.method) at (c.in_err-read_partitions.ensures.reading.reads (counts.0 known) (same ∙ sym counts.1)));
      };
    })

pub returns-clause-reading : goal.returns-clause-reading
returns-clause-reading g c = record {
  spends = search rules;
  counts = answered_then c.args.bits.now c.read_residual_header.new.bits c.read_partitions.new.bits c.in_ok-method.ensures.reading.counts c.in_ok-read_partitions.ensures.reading.counts;
  memory = tt;
  reads = (λ known same.
      let counts = c.in_ok-method.ensures.reading.counts in
      let h : ℕ × ℕ = (method_code c.in_ok-method.method, c.in_ok-method.partition_order) in
      residual_run c.args.limit c.args.order (length c.args.out.now + c.args.order) h c.args.bits.now.cursor c.read_residual_header.new.bits.cursor (c.in_ok-method.ensures.reading.reads known counts.1)
      ∙ (rw (c.power-count.ensures, bits_of_code c.in_ok-method.method) at (c.in_ok-read_partitions.ensures.reading.reads (counts.0 known) (same ∙ sym counts.1))));
}
