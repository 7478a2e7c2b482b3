use Rattle.std.proofs.Common.{rules}
use Rattle.flac_native.proofs.sinks.SampleWriterSink.frame.Goals as goal

pub returns-in-Ok-clause-takes : goal.returns-in-Ok-clause-takes
returns-in-Ok-clause-takes g c = search rules
