use Rattle.std.proofs.Common.{◌≡◌, ℕ, ◌≤◌, ◌<◌, ◌++◌, Bool, List, get_or, ◌-◌, pos}
use Rattle.flac_bits.specs.Rice.{IsResidual}
use Rattle.flac_bits.specs.inner.Stretches.{IsRead, top_bits, Agrees}
use Rattle.flac_bits.proofs.stretch.values_held.Given as goal

abbrev pub invariant-loop-i : goal.invariant-loop-i
invariant-loop-i l = record {
  from : l.from ≤ l.i;
  within : l.i ≤ l.to;
  few : l.word.count ≤ 63;
  next : (eight : ℕ) → Agrees l.initial.word.word l.initial.word.count eight → Agrees l.word.word l.word.count eight;
  read : (text : List Bool) × (top_bits l.initial.word.word l.initial.word.count ≡ text ++ top_bits l.word.word l.word.count) × IsRead l.k text l.initial.values l.from l.values l.i;
  fits : ((j : ℕ) → j < l.from → IsResidual (get_or l.initial.values j (pos 0))) → (j : ℕ) → j < l.i → IsResidual (get_or l.values j (pos 0));
}

abbrev pub decreases-loop-i : goal.decreases-loop-i
decreases-loop-i l = l.to - l.i
