use Rattle.std.proofs.Common.{◌≡◌, ◌++◌, true, take}
use Rattle.flac_wave.specs.Wave.{all_of}
use Rattle.flac_cli.specs.Waves.{contents}
use Rattle.flac_cli.proofs.encode_wave_twice.begins_with_all.Given as goal

abbrev pub invariant-loop-piece : goal.invariant-loop-piece
invariant-loop-piece g l = record {
  known : g.R.Source.known l.fn.source ≡ true → g.R.Source.known l.source ≡ true;
  read : g.R.Source.known l.fn.source ≡ true → g.R.Source.coming l.fn.source ≡ all_of (contents (take l.piece-index l.pieces)) ++ g.R.Source.coming l.source;
  raised : g.R.Source.raised l.source ≡ g.R.Source.raised l.fn.source;
  names : g.R.Source.names l.source ≡ g.R.Source.names l.fn.source;
}
