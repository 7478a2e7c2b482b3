use Rattle.std.proofs.Common.{◌≡◌, ℕ, ◌≤◌, ◌<◌, ◌++◌, Bool, List, length, take, get_or, ◌-◌, pos}
use Rattle.flac_bits.specs.Bits.{bits_of}
use Rattle.flac_bits.specs.Rice.{IsResidual}
use Rattle.flac_bits.specs.inner.Stretches.{IsRead, top_bits, AgreesAt}
use Rattle.flac_bits.proofs.stretch.values_in.Given as goal

abbrev pub invariant-loop-used : goal.invariant-loop-used
invariant-loop-used l = record {
  from : l.from ≤ l.i;
  within : l.i ≤ length l.initial.values;
  used : l.used ≤ length l.bytes;
  few : l.word.count ≤ 63;
  next : AgreesAt l.bytes l.used l.word.word l.word.count;
  read : (text : List Bool) × (top_bits l.initial.word.word l.initial.word.count ++ bits_of (take l.used l.bytes) ≡ text ++ top_bits l.word.word l.word.count) × IsRead l.k text l.initial.values l.from l.values l.i;
  fits : ((j : ℕ) → j < l.from → IsResidual (get_or l.initial.values j (pos 0))) → (j : ℕ) → j < l.i → IsResidual (get_or l.values j (pos 0));
}

abbrev pub decreases-loop-used : goal.decreases-loop-used
decreases-loop-used l = length l.initial.values - l.i
