use Rattle.std.proofs.Common.{rules}
use Rattle.flac_frame.proofs.buffers.FrameBuffers.new.Goals as goal

pub returns-clause-ok : goal.returns-clause-ok
returns-clause-ok c = search rules
