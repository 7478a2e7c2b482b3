use Rattle.std.proofs.Common.{◌≡◌, ◌+◌, ◌*◌, length}
use Rattle.flac_bits.specs.Unsent.{KeepsBits}
use Rattle.flac_bits.proofs.unsent.Unsent.settle.Given as goal

abbrev pub invariant-loop-i : goal.invariant-loop-i
invariant-loop-i l = record {
  kept : KeepsBits l.initial.self l.self;
  long : length l.self.bytes ≡ length l.initial.self.bytes + l.i;
  left : length l.self.rest + 8 * l.i ≡ length l.initial.self.rest;
}
