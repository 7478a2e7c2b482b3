use Rattle.std.proofs.Common.{rules, Some, None, cond}
use Rattle.flac_bits.proofs.Meaning.{reads}
use Rattle.flac_subframe.specs.format.Subframe.{subframe_samples}
use Rattle.flac_frame.proofs.channels.subframe_by_layout.Goals as goal

pub returns-clause-reading : goal.returns-clause-reading
returns-clause-reading g c = record {
  spends = search rules;
  counts = search rules;
  memory = search rules;
  reads = reads (λ fits. cond fits (Some c.read_subframe.new.samples) None) (subframe_samples c.args.depth c.args.block c.args.limits.now) c.args.bits.now c.read_subframe.new.bits c.read_subframe.result c.read_subframe.ensures.reading.reads;
}
