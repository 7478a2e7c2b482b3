use Rattle.std.proofs.Common.{rules, Some, None, cond}
use Rattle.flac_bits.proofs.Meaning.{means}
use Rattle.flac_subframe.specs.format.Subframe.{subframe_samples}
use Rattle.flac_subframe.proofs.lemmas.format.Samples.{samples_run}
use Rattle.flac_subframe.proofs.format.subframe.read_subframe.Goals as goal

pub returns-clause-reading : goal.returns-clause-reading
returns-clause-reading g c = record {
  spends = search rules;
  counts = search rules;
  memory = search rules;
  reads = (means (λ fits. cond fits (Some c.read_by_layout.new.samples) None) (subframe_samples c.args.depth c.args.block c.args.limits.now) c.args.bits.now c.read_by_layout.new.bits c.read_by_layout.result
      (λ known same. rw (samples_run c.args.depth c.args.block c.args.limits.now c.args.bits.now.cursor) (c.read_by_layout.ensures.reading.reads known same)));
}
