use Rattle.std.proofs.Common.{◌≡◌, ◌≤◌, ◌-◌, length, None}
use Rattle.flac_salvage.specs.Standing.{NoneBetween}
use Rattle.flac_salvage.proofs.next.next_whole.Given as goal

abbrev pub invariant-looking : goal.invariant-looking
invariant-looking l = record {
  reached : l.from ≤ l.at;
  first : l.buffers.before ≡ None;
  channels : l.buffers.channels ≡ l.initial.buffers.channels;
  max_block : l.buffers.max_block ≡ l.initial.buffers.max_block;
  none : NoneBetween l.profile l.info l.bytes l.from l.at;
}

abbrev pub decreases-looking : goal.decreases-looking
decreases-looking l = length l.bytes - l.at
