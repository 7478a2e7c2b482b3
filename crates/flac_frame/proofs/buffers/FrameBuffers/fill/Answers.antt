use Rattle.std.proofs.Common.{rules, Some, sym, subst}
use Rattle.flac_bits.specs.State.{State, started}
use Rattle.flac_bits.specs.Reading.{Reads, Counts}
use Rattle.flac_bits.specs.Fencing.{lifted}
use Rattle.flac_bits.specs.Within.{ReadsWithin}
use Rattle.flac_bits.proofs.Bounds.{reads_fenced, counts_fenced}
use Rattle.flac_bits.proofs.Within.{means_within}
use Rattle.flac_frame.specs.Frame.{frame}
use Rattle.flac_frame.proofs.buffers.FrameBuffers.fill.Goals as goal

pub returns-clause-reading : goal.returns-clause-reading
returns-clause-reading g c =
    let old = c.args.bits.now in
    let read = c.read_in-outcome.new.bits in
    let result = c.read_in-outcome.result in
    let layout = frame c.args.profile c.args.info.now c.args.self.now.before in
    let told = c.read_in-outcome.ensures.reading in
    let counts = subst (λ (s : State). Counts s read result) c.fence.ensures told.counts in
    let reads = subst (λ (s : State). Reads (λ _. c.read_in-outcome.new.self.held) layout (started s) read result) c.fence.ensures told.reads in
    record {
      spends = search rules;
      counts = subst (λ (s : State). Counts (lifted old) s result) (sym c.lift.ensures) (counts_fenced 16777215 old read result counts);
      memory = told.memory;
      reads = means_within (Some 16777215) (λ _. c.read_in-outcome.new.self.held) layout old c.lift.new.self result
          (subst (λ (s : State). ReadsWithin (Some 16777215) (λ _. c.read_in-outcome.new.self.held) layout old s result) (sym c.lift.ensures) (reads_fenced (λ _. c.read_in-outcome.new.self.held) 16777215 layout old read result reads counts));
    }
