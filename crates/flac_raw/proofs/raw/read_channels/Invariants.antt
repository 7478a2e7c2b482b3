use Rattle.std.proofs.Common.{◌≡◌, true, map, length}
use Rattle.flac_raw.proofs.Rows.{ReadSoFar}
use Rattle.flac_raw.proofs.raw.read_channels.Given as goal

abbrev pub invariant-pieces : goal.invariant-pieces
invariant-pieces g l = record {
  known : g.R.Source.known l.fn.source ≡ true → g.R.Source.known l.source ≡ true;
  read : g.R.Source.known l.fn.source ≡ true → ReadSoFar (g.R.Source.coming l.fn.source) (g.R.Source.coming l.source) l.channels l.width (map (λ c. c.items) l.lists.items);
  after : g.R.Source.known l.fn.source ≡ true → g.R.Source.after l.source ≡ g.R.Source.after l.fn.source;
  raised : g.R.Source.raised l.source ≡ g.R.Source.raised l.fn.source;
  names : g.R.Source.names l.source ≡ g.R.Source.names l.fn.source;
  many : length l.lists.items ≡ l.channels;
}

abbrev pub decreases-pieces : goal.decreases-pieces
decreases-pieces g l = g.R.Source.most l.source
