use Rattle.std.proofs.Common.{◌≡◌, ◌≤◌, ◌+◌, ◌-◌, true, drop, length}
use Rattle.flac_around.specs.inner.Pulling.{Goes}
use Rattle.flac_around.proofs.filling.skip.Given as goal

abbrev pub invariant-loop-left : goal.invariant-loop-left
invariant-loop-left g l = record {
  few : l.left ≤ l.most;
  bytes : g.S.Source.known l.fn.source ≡ true → drop l.left (g.S.Source.coming l.source) ≡ drop l.most (g.S.Source.coming l.fn.source);
  count : g.S.Source.known l.fn.source ≡ true → length (g.S.Source.coming l.fn.source) ≡ (l.most - l.left) + length (g.S.Source.coming l.source);
  goes : Goes g.S.Source l.fn.source l.source;
}

abbrev pub decreases-loop-left : goal.decreases-loop-left
decreases-loop-left g l = l.left
