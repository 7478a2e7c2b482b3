use Rattle.std.proofs.Common.{◌≡◌, ◌≤◌, ◌-◌, length, None}
use Rattle.flac_rescue.proofs.Pointing.{PointsTo}
use Rattle.flac_rescue.proofs.points.points_from.Given as goal

abbrev pub invariant-frames : goal.invariant-frames
invariant-frames l = record {
  within : l.at ≤ length l.bytes;
  channels : l.info.channels ≤ l.buffers.channels;
  block : l.info.greatest_block ≤ l.buffers.max_block;
  before : l.buffers.before ≡ None;
  so_far : PointsTo l.info l.bytes l.front l.every l.at l.sample l.points.items;
}

abbrev pub decreases-frames : goal.decreases-frames
decreases-frames l = length l.bytes - l.at
