use Rattle.std.proofs.Common.{◌≡◌, true, length}
use Rattle.flac_cli.proofs.Pieces.{CameSo}
use Rattle.flac_cli.proofs.encode_wave_twice.begins_with.Given as goal

abbrev pub invariant-parts : goal.invariant-parts
invariant-parts g l = record {
  known : g.R.Source.known l.fn.source ≡ true → g.R.Source.known l.source ≡ true;
  read : g.R.Source.known l.fn.source ≡ true → CameSo l.bytes (g.R.Source.coming l.fn.source) (g.R.Source.coming l.source) l.rest;
  raised : g.R.Source.raised l.source ≡ g.R.Source.raised l.fn.source;
  names : g.R.Source.names l.source ≡ g.R.Source.names l.fn.source;
}

abbrev pub decreases-parts : goal.decreases-parts
decreases-parts g l = length l.rest
