use Rattle.std.proofs.Common.{◌≡◌, true, length}
use Rattle.flac_cli.specs.inner.HeldWaves.{HasRoom}
use Rattle.flac_cli.proofs.HeldWaves.{ReadHeld}
use Rattle.flac_cli.proofs.wave_samples.read_held.Given as goal

abbrev pub invariant-pieces : goal.invariant-pieces
invariant-pieces g l = record {
  known : g.R.Source.known l.fn.source ≡ true → g.R.Source.known l.source ≡ true;
  read : g.R.Source.known l.fn.source ≡ true → ReadHeld l.format (g.R.Source.coming l.fn.source) (g.R.Source.coming l.source) l.held;
  after : g.R.Source.known l.fn.source ≡ true → g.R.Source.after l.source ≡ g.R.Source.after l.fn.source;
  raised : g.R.Source.raised l.source ≡ g.R.Source.raised l.fn.source;
  names : g.R.Source.names l.source ≡ g.R.Source.names l.fn.source;
  many : length l.held.channels.items ≡ l.format.channels;
  room : HasRoom l.format l.held.depth;
}

abbrev pub decreases-pieces : goal.decreases-pieces
decreases-pieces g l = g.R.Source.most l.source
