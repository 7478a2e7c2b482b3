use Rattle.std.proofs.Common.{◌≡◌, ℕ, List, ◌++◌, length, true}
use Rattle.flac_bits.proofs.send.send_all.Given as goal

abbrev pub invariant-loop-left : goal.invariant-loop-left
invariant-loop-left g l = record {
  known : g.W.Target.known l.fn.target ≡ true → g.W.Target.known l.target ≡ true;
  sent : g.W.Target.known l.fn.target ≡ true → (front : List ℕ) × (l.bytes ≡ front ++ l.left) × (g.W.Target.sent l.target ≡ g.W.Target.sent l.fn.target ++ front);
  names : g.W.Target.names l.target ≡ g.W.Target.names l.fn.target;
  errors : g.W.Target.errors l.target ≡ g.W.Target.errors l.fn.target;
}

abbrev pub decreases-loop-left : goal.decreases-loop-left
decreases-loop-left g l = length l.left
