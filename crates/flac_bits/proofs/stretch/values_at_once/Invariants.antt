use Rattle.std.proofs.Common.{◌≡◌, ℕ, ◌≤◌, ◌<◌, ◌*◌, ◌++◌, Bool, List, get_or, ◌-◌, pos, take}
use Rattle.flac_bits.specs.Rice.{IsResidual}
use Rattle.flac_bits.specs.inner.Stretches.{IsRead, top_bits, Agrees}
use Rattle.flac_bits.proofs.stretch.values_at_once.Given as goal

abbrev pub invariant-loop-i : goal.invariant-loop-i
invariant-loop-i l = record {
  taken : l.taken ≤ 91 * (l.i - l.from);
  kept : take l.from l.values ≡ take l.from l.initial.values;
  before : (j : ℕ) → j < l.from → get_or l.values j (pos 0) ≡ get_or l.initial.values j (pos 0);
  read : (n : ℕ) → n ≤ 63 → l.taken ≤ n → (text : List Bool) × (top_bits l.initial.word.word n ≡ text ++ top_bits l.rest (n - l.taken)) × IsRead l.k text l.initial.values l.from l.values l.i;
  fits : l.taken ≤ 63 → (j : ℕ) → l.from ≤ j → j < l.i → IsResidual (get_or l.values j (pos 0));
  next : (n eight : ℕ) → n ≤ 63 → l.taken ≤ n → Agrees l.initial.word.word n eight → Agrees l.rest (n - l.taken) eight;
}
