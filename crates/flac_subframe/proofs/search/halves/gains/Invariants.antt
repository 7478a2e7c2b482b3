use Rattle.std.proofs.Common.{◌≤◌, ◌<◌, ℕ, get_or}
use Rattle.flac_subframe.specs.search.inner.Entry.{entry_number}
use Rattle.flac_subframe.proofs.search.halves.gains.Given as goal

abbrev pub invariant-loop-j : goal.invariant-loop-j
invariant-loop-j l = (i : ℕ) → i < l.j → get_or l.best i 0 ≤ entry_number l.parameter (get_or l.sums i 0)
