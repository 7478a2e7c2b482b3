use Rattle.std.proofs.Common.{◌≡◌, ◌≤◌, ◌-◌, ◌++◌, true, length}
use Rattle.flac_frame.specs.Viewed.{frame_of}
use Rattle.flac_native.specs.Message.{rows_bytes}
use Rattle.flac_native.proofs.sinks.send_frame.Given as goal

abbrev pub invariant-loop-start : goal.invariant-loop-start
invariant-loop-start g l = record {
  within : l.start ≤ (frame_of l.frame).size;
  length : length l.bytes ≡ 32768;
  known : g.W.Target.known l.fn.target ≡ true → g.W.Target.known l.target ≡ true;
  sent : g.W.Target.known l.fn.target ≡ true → g.W.Target.sent l.target ≡ g.W.Target.sent l.fn.target ++ rows_bytes l.width (frame_of l.frame).channels l.start 0;
  names : g.W.Target.names l.target ≡ g.W.Target.names l.fn.target;
  errors : g.W.Target.errors l.target ≡ g.W.Target.errors l.fn.target;
}

abbrev pub decreases-loop-start : goal.decreases-loop-start
decreases-loop-start g l = (frame_of l.frame).size - l.start
