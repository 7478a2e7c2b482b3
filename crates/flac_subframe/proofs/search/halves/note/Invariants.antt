use Rattle.std.proofs.Common.{◌≡◌, ◌≤◌, ◌<◌, ℕ, get_or, min}
use Rattle.flac_subframe.specs.search.inner.Entry.{entry_number}
use Rattle.flac_subframe.proofs.search.halves.note.Given as goal

abbrev pub invariant-loop-j : goal.invariant-loop-j
invariant-loop-j l = record {
  done : (i : ℕ) → i < l.j → get_or l.best i 0 ≡ min (get_or l.fn.best i 0) (entry_number l.parameter (get_or l.sums i 0));
  rest : (i : ℕ) → l.j ≤ i → get_or l.best i 0 ≡ get_or l.fn.best i 0;
}
