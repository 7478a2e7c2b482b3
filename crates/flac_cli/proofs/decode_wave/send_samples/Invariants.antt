use Rattle.std.proofs.Common.{◌≡◌, ◌≤◌, ◌<◌, ◌+◌, ◌-◌, ◌%◌, ◌++◌, true, length}
use Rattle.flac_frame.specs.Viewed.{frame_of}
use Rattle.flac_native.specs.Message.{sample_width, rows_bytes}
use Rattle.flac_cli.specs.Waves.{file_samples}
use Rattle.flac_cli.proofs.decode_wave.send_samples.Given as goal

abbrev pub invariant-loop-start : goal.invariant-loop-start
invariant-loop-start g l = record {
  within : l.start ≤ (frame_of l.frame).size;
  room : length l.bytes ≡ 131072;
  few : l.odd < 2;
  known : g.W.Target.known l.fn.target ≡ true → g.W.Target.known l.target ≡ true;
  sent : g.W.Target.known l.fn.target ≡ true → g.W.Target.sent l.target ≡ g.W.Target.sent l.fn.target ++ file_samples l.wide l.depth (rows_bytes (sample_width l.depth) (frame_of l.frame).channels l.start 0);
  odd : l.odd ≡ (l.fn.odd + length (file_samples l.wide l.depth (rows_bytes (sample_width l.depth) (frame_of l.frame).channels l.start 0))) % 2;
  names : g.W.Target.names l.target ≡ g.W.Target.names l.fn.target;
  kept : g.W.Target.errors l.fn.target ≤ g.W.Target.errors l.target;
}

abbrev pub decreases-loop-start : goal.decreases-loop-start
decreases-loop-start g l = (frame_of l.frame).size - l.start
