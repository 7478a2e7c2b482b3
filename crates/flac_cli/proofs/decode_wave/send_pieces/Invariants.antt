use Rattle.std.proofs.Common.{◌≡◌, ◌≤◌, ◌++◌, true, map, take}
use Rattle.flac_wave.specs.Wave.{all_of}
use Rattle.flac_cli.proofs.decode_wave.send_pieces.Given as goal

abbrev pub invariant-loop-piece : goal.invariant-loop-piece
invariant-loop-piece g l = record {
  known : g.W.Target.known l.fn.target ≡ true → g.W.Target.known l.target ≡ true;
  sent : g.W.Target.known l.fn.target ≡ true → g.W.Target.sent l.target ≡ g.W.Target.sent l.fn.target ++ all_of (map (λ p. p.items) (take l.piece-index l.pieces));
  names : g.W.Target.names l.target ≡ g.W.Target.names l.fn.target;
  kept : g.W.Target.errors l.fn.target ≤ g.W.Target.errors l.target;
}
