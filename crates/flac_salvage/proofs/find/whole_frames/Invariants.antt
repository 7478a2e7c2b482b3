use Rattle.std.proofs.Common.{◌≡◌, ◌≤◌, ◌-◌, length, Some, None}
use Rattle.flac_salvage.specs.Kept.{AreFound}
use Rattle.flac_salvage.proofs.find.whole_frames.Given as goal

abbrev pub invariant-looking : goal.invariant-looking
invariant-looking l = record {
  within : l.at ≤ length l.bytes;
  channels : l.buffers.channels ≡ l.info.channels;
  max_block : l.buffers.max_block ≡ l.info.greatest_block;
  before : l.buffers.before ≡ None;
  none : l.cut ≡ None;
  found : AreFound l.profile l.info l.bytes l.from (Some l.at) l.frames.items;
}

abbrev pub decreases-looking : goal.decreases-looking
decreases-looking l = length l.bytes - l.at
