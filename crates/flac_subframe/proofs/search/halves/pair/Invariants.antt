use Rattle.std.proofs.Common.{◌≡◌, ◌+◌, ◌*◌, ◌≤◌, ◌<◌, ℕ, get_or}
use Rattle.flac_subframe.proofs.search.halves.pair.Given as goal

abbrev pub invariant-loop-j : goal.invariant-loop-j
invariant-loop-j l = record {
  done : (i : ℕ) → i < l.j → get_or l.sums i 0 ≡ get_or l.fn.sums (2 * i) 0 + get_or l.fn.sums (2 * i + 1) 0;
  rest : (i : ℕ) → l.j ≤ i → get_or l.sums i 0 ≡ get_or l.fn.sums i 0;
}
