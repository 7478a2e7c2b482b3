use Rattle.std.proofs.Common.{◌≡◌, ◌≤◌, ◌+◌, ◌-◌, ◌++◌, true, take, length}
use Rattle.flac_around.specs.inner.Pulling.{Goes}
use Rattle.flac_around.proofs.filling.fill.Given as goal

abbrev pub invariant-loop-count : goal.invariant-loop-count
invariant-loop-count g l = record {
  least : l.from ≤ l.count;
  few : l.count ≤ l.most;
  long : length l.places ≡ length l.fn.places;
  bytes : g.S.Source.known l.fn.source ≡ true → take l.from l.fn.places ++ g.S.Source.coming l.fn.source ≡ take l.count l.places ++ g.S.Source.coming l.source;
  most : g.S.Source.most l.source + l.count ≤ g.S.Source.most l.fn.source + l.from;
  goes : Goes g.S.Source l.fn.source l.source;
}

abbrev pub decreases-loop-count : goal.decreases-loop-count
decreases-loop-count g l = l.most - l.count
