use Rattle.std.proofs.Common.{rules, Some}
use Rattle.flac_bits.proofs.Within.{reads_within}
use Rattle.flac_frame.specs.Frame.{frame}
use Rattle.flac_native.proofs.format.Format.fill.Goals as goal

pub returns-clause-reading : goal.returns-clause-reading
returns-clause-reading g c =
    let f = c.args.self.now in
    record {
      spends = search rules;
      counts = search rules;
      memory = search rules;
      reads = reads_within (Some 16777215) (λ _. c.fill.new.self.held) (frame f.profile f.info f.buffers.before) c.args.bits.now c.fill.new.bits c.fill.result c.fill.ensures.reading.reads;
    }
