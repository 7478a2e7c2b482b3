use Rattle.std.proofs.Common.{◌≡◌, ◌≤◌, ◌+◌, true, length}
use Rattle.flac_wave.proofs.reading.skip.Given as goal

abbrev pub invariant-pieces : goal.invariant-pieces
invariant-pieces g l = record {
  few : l.done ≤ l.most;
  known : g.R.Source.known l.fn.source ≡ true → g.R.Source.known l.source ≡ true;
  read : g.R.Source.known l.fn.source ≡ true → length (g.R.Source.coming l.fn.source) ≡ l.done + length (g.R.Source.coming l.source);
  raised : g.R.Source.raised l.source ≡ g.R.Source.raised l.fn.source;
  names : g.R.Source.names l.source ≡ g.R.Source.names l.fn.source;
}

abbrev pub decreases-pieces : goal.decreases-pieces
decreases-pieces g l = g.R.Source.most l.source
