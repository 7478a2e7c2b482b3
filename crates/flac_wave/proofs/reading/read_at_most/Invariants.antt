use Rattle.std.proofs.Common.{◌≡◌, ◌≤◌, ◌+◌, ◌++◌, true, length}
use Rattle.flac_wave.proofs.reading.read_at_most.Given as goal

abbrev pub invariant-pieces : goal.invariant-pieces
invariant-pieces g l = record {
  few : length l.bytes.items ≤ l.most;
  known : g.R.Source.known l.fn.source ≡ true → g.R.Source.known l.source ≡ true;
  read : g.R.Source.known l.fn.source ≡ true → g.R.Source.coming l.fn.source ≡ l.bytes.items ++ g.R.Source.coming l.source;
  raised : g.R.Source.raised l.source ≡ g.R.Source.raised l.fn.source;
  after : g.R.Source.known l.fn.source ≡ true → g.R.Source.after l.source ≡ g.R.Source.after l.fn.source;
  most : g.R.Source.most l.source + length l.bytes.items ≤ g.R.Source.most l.fn.source;
  names : g.R.Source.names l.source ≡ g.R.Source.names l.fn.source;
}

abbrev pub decreases-pieces : goal.decreases-pieces
decreases-pieces g l = g.R.Source.most l.source
