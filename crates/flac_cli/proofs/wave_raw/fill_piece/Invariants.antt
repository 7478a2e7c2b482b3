use Rattle.std.proofs.Common.{◌≡◌, ◌≤◌, ◌+◌, ◌-◌, ◌++◌, true, take, length}
use Rattle.flac_cli.proofs.wave_raw.fill_piece.Given as goal

abbrev pub invariant-loop-count : goal.invariant-loop-count
invariant-loop-count g l = record {
  few : l.count ≤ l.most;
  long : length l.places ≡ length l.fn.places;
  known : g.S.Source.known l.fn.source ≡ true → g.S.Source.known l.source ≡ true;
  bytes : g.S.Source.known l.fn.source ≡ true → g.S.Source.coming l.fn.source ≡ take l.count l.places ++ g.S.Source.coming l.source;
  raised : g.S.Source.raised l.source ≡ g.S.Source.raised l.fn.source;
  errors : g.S.Source.errors l.source ≡ g.S.Source.errors l.fn.source;
  names : g.S.Source.names l.source ≡ g.S.Source.names l.fn.source;
  most : g.S.Source.most l.source + l.count ≤ g.S.Source.most l.fn.source;
}

abbrev pub decreases-loop-count : goal.decreases-loop-count
decreases-loop-count g l = l.most - l.count
