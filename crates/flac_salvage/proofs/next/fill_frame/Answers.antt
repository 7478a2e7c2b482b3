use Rattle.std.proofs.Common.{arith}
use Rattle.flac_native.proofs.FramesRead.{filled, found_ok, only_ok, only_err}
use Rattle.flac_salvage.proofs.next.fill_frame.Goals as goal

pub returns-in-Ok-clause-found : goal.returns-in-Ok-clause-found
returns-in-Ok-clause-found c =
    let r = filled c.args.profile c.args.info.now c.args.bytes.now c.requires.rules (omega arith) c.new.result.bytes.now c.new-bits.result c.fill-outcome.new.bits c.args.buffers.now.before c.fill-outcome.new.self.held c.fill-outcome.result c.bytes_taken-taken.result
    c.new.ensures c.new-bits.ensures c.requires.first c.fill-outcome.ensures.reading.reads c.into_source-source.ensures.errors c.bytes_taken-taken.ensures in
    found_ok c.fill-outcome.result r c.in-Ok.field-0 c.in-Ok.is

pub returns-in-Ok-clause-only : goal.returns-in-Ok-clause-only
returns-in-Ok-clause-only c =
    let r = filled c.args.profile c.args.info.now c.args.bytes.now c.requires.rules (omega arith) c.new.result.bytes.now c.new-bits.result c.fill-outcome.new.bits c.args.buffers.now.before c.fill-outcome.new.self.held c.fill-outcome.result c.bytes_taken-taken.result
    c.new.ensures c.new-bits.ensures c.requires.first c.fill-outcome.ensures.reading.reads c.into_source-source.ensures.errors c.bytes_taken-taken.ensures in
    only_ok c.fill-outcome.result r c.in-Ok.field-0 c.in-Ok.is

pub returns-in-Err-clause-only : goal.returns-in-Err-clause-only
returns-in-Err-clause-only c =
    let r = filled c.args.profile c.args.info.now c.args.bytes.now c.requires.rules (omega arith) c.new.result.bytes.now c.new-bits.result c.fill-outcome.new.bits c.args.buffers.now.before c.fill-outcome.new.self.held c.fill-outcome.result c.bytes_taken-taken.result
    c.new.ensures c.new-bits.ensures c.requires.first c.fill-outcome.ensures.reading.reads c.into_source-source.ensures.errors c.bytes_taken-taken.ensures in
    only_err c.fill-outcome.result r c.in-Err.why c.in-Err.is
