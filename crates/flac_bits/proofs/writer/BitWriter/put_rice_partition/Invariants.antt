use Rattle.std.proofs.Common.{◌≤◌, ◌-◌, length, drop, flat_map}
use Rattle.flac_bits.specs.Rice.{value_bits}
use Rattle.flac_bits.proofs.Writing.{Towards}
use Rattle.flac_bits.proofs.writer.BitWriter.put_rice_partition.Given as goal

abbrev pub invariant-loop-i : goal.invariant-loop-i
invariant-loop-i g l = record {
  within : l.i ≤ length l.values;
  towards : Towards (flat_map (value_bits l.k) (drop l.i l.values)) (flat_map (value_bits l.k) l.values) l.fn.self l.self;
}

abbrev pub decreases-loop-i : goal.decreases-loop-i
decreases-loop-i g l = length l.values - l.i
