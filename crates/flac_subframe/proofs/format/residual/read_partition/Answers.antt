use Rattle.std.proofs.Common.{arith, rules, ◌<◌, ◌≤◌, ℕ}
use Rattle.std.proofs.lemmas.Result.{err_from_is_err_and}
use Rattle.flac_bits.proofs.Counting.{answered_then, failed_then}
use Rattle.flac_bits.specs.Layout as L
use Rattle.flac_subframe.specs.format.Residual.{partition, escaped, coded}
use Rattle.flac_subframe.proofs.lemmas.format.Bounds.{all_fit_32, residuals_fit}
use Rattle.flac_subframe.proofs.format.residual.read_partition.Goals as goal

below : (n m : ℕ) → n < m → n ≤ m
below n m h = omega arith

pub returns-in_err-parameter : goal.returns-in_err-parameter
unfolding partition escaped coded
returns-in_err-parameter g c =
    let p = err_from_is_err_and c.from_residual.result c.from_residual.ensures.1 in
    rw (p.1, p.2) (record { fits = tt; reading = record { spends = tt; counts = c.in_err-parameter.ensures.reading.counts; memory = c.in_err-parameter.ensures.reading.memory; reads = search rules } })

pub returns-in_err-width : goal.returns-in_err-width
unfolding partition escaped coded
returns-in_err-width g c =
    let p = err_from_is_err_and c.from_residual-in_err-width.result c.from_residual-in_err-width.ensures.1 in
    rw (p.1, p.2) (record { fits = tt; reading = record { spends = tt; counts = failed_then c.args.bits.now c.take.new.self c.take-then-parameter-escape.new.self c.in_ok-parameter.ensures.reading.counts c.in_err-width.ensures.reading.counts; memory = c.in_err-width.ensures.reading.memory; reads = search rules } })

pub returns-in_err-signed_partition : goal.returns-in_err-signed_partition
unfolding partition escaped coded
returns-in_err-signed_partition g c =
    let p = err_from_is_err_and c.from_residual-in_err-signed_partition.result c.from_residual-in_err-signed_partition.ensures.1 in
    rw (p.1, p.2) (record { fits = tt; reading = record { spends = tt; counts = failed_then c.args.bits.now c.take.new.self c.signed_partition.new.self c.in_ok-parameter.ensures.reading.counts (failed_then c.take.new.self c.take-then-parameter-escape.new.self c.signed_partition.new.self c.in_ok-width.ensures.reading.counts c.in_err-signed_partition.ensures.reading.counts); memory = c.in_err-signed_partition.ensures.reading.memory; reads = search rules } })

pub returns-in_err-rice_partition : goal.returns-in_err-rice_partition
unfolding partition escaped coded L.number_at
returns-in_err-rice_partition g c =
    let p = err_from_is_err_and c.from_residual-in_err-rice_partition.result c.from_residual-in_err-rice_partition.ensures.1 in
    rw (p.1, p.2) (record { fits = tt; reading = record { spends = tt; counts = failed_then c.args.bits.now c.take.new.self c.rice_partition.new.self c.in_ok-parameter.ensures.reading.counts c.in_err-rice_partition.ensures.reading.counts; memory = c.in_err-rice_partition.ensures.reading.memory; reads = search rules } })

pub returns-then-parameter-escape-clause-reading : goal.returns-then-parameter-escape-clause-reading
unfolding partition escaped coded
returns-then-parameter-escape-clause-reading g c = record {
  spends = search rules;
  counts = answered_then c.args.bits.now c.take.new.self c.signed_partition.new.self c.in_ok-parameter.ensures.reading.counts (answered_then c.take.new.self c.take-then-parameter-escape.new.self c.signed_partition.new.self c.in_ok-width.ensures.reading.counts c.in_ok-signed_partition.ensures.reading.counts);
  memory = tt;
  reads = search rules;
}

pub returns-clause-reading : goal.returns-clause-reading
unfolding partition escaped coded
returns-clause-reading g c = record {
  spends = search rules;
  counts = answered_then c.args.bits.now c.take.new.self c.rice_partition.new.self c.in_ok-parameter.ensures.reading.counts c.in_ok-rice_partition.ensures.reading.counts;
  memory = tt;
  reads = search rules;
}

pub returns-then-parameter-escape-clause-fits : goal.returns-then-parameter-escape-clause-fits
returns-then-parameter-escape-clause-fits g c = all_fit_32 c.in_ok-width.field-0 _ (below _ 32 c.in_ok-width.ensures.small) c.in_ok-signed_partition.ensures.fits

pub returns-clause-fits : goal.returns-clause-fits
returns-clause-fits g c = residuals_fit _ c.in_ok-rice_partition.ensures.fits
