use Rattle.std.proofs.Common.{◌≡◌, ◌≤◌, ◌++◌, ◌-◌, Bool, List, length, take, drop, flat_map}
use Rattle.flac_bits.specs.Rice.{value_bits}
use Rattle.flac_bits.specs.inner.Runs.{Extends}
use Rattle.flac_bits.proofs.run.put_codes.Given as goal

abbrev pub invariant-loop-i : goal.invariant-loop-i
invariant-loop-i l = record {
  begun : l.initial.end ≤ l.end;
  room : l.end ≤ length l.bytes;
  from : l.from ≤ l.i;
  within : l.i ≤ length l.values;
  put : (text : List Bool) × (flat_map (value_bits l.k) (drop l.from l.values) ≡ text ++ flat_map (value_bits l.k) (drop l.i l.values))
      × Extends text l.initial.rest l.rest (take l.initial.end l.initial.bytes) (take l.end l.bytes);
}

abbrev pub decreases-loop-i : goal.decreases-loop-i
decreases-loop-i l = length l.values - l.i
