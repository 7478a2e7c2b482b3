use Rattle.std.proofs.Common.{◌≡◌, ◌≤◌, ◌+◌, ◌-◌, ◌++◌, true, take, length}
use Rattle.flac_wave.proofs.reading.fill.Given as goal

abbrev pub invariant-loop-count : goal.invariant-loop-count
invariant-loop-count g l = record {
  few : l.count ≤ l.most;
  long : length l.places ≡ length l.fn.places;
  known : g.R.Source.known l.fn.source ≡ true → g.R.Source.known l.source ≡ true;
  bytes : g.R.Source.known l.fn.source ≡ true → g.R.Source.coming l.fn.source ≡ take l.count l.places ++ g.R.Source.coming l.source;
  raised : g.R.Source.raised l.source ≡ g.R.Source.raised l.fn.source;
  errors : g.R.Source.errors l.source ≡ g.R.Source.errors l.fn.source;
  after : g.R.Source.known l.fn.source ≡ true → g.R.Source.after l.source ≡ g.R.Source.after l.fn.source;
  names : g.R.Source.names l.source ≡ g.R.Source.names l.fn.source;
  most : g.R.Source.most l.source + l.count ≤ g.R.Source.most l.fn.source;
}

abbrev pub decreases-loop-count : goal.decreases-loop-count
decreases-loop-count g l = l.most - l.count
