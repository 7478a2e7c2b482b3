use Rattle.std.proofs.Common.{◌≡◌, ◌≤◌, ◌-◌, ◌++◌, true, length}
use Rattle.flac_frame.specs.Viewed.{frame_of}
use Rattle.flac_compare.specs.Samples.{samples_from}
use Rattle.flac_cli.specs.Excerpts.{samples_text}
use Rattle.flac_cli.proofs.excerpt.send_rows.Given as goal

abbrev pub invariant-loop-at : goal.invariant-loop-at
invariant-loop-at g l = record {
  after : l.start ≤ l.at;
  within : l.at ≤ l.end;
  room : length l.bytes ≡ 131072;
  known : g.W.Target.known l.fn.target ≡ true → g.W.Target.known l.target ≡ true;
  sent : g.W.Target.known l.fn.target ≡ true → g.W.Target.sent l.target ≡ g.W.Target.sent l.fn.target ++ samples_text l.form.wave l.form.depth (samples_from (frame_of l.frame).channels (l.at - l.start) l.start);
  names : g.W.Target.names l.target ≡ g.W.Target.names l.fn.target;
  kept : g.W.Target.errors l.fn.target ≤ g.W.Target.errors l.target;
}

abbrev pub decreases-loop-at : goal.decreases-loop-at
decreases-loop-at g l = l.end - l.at
