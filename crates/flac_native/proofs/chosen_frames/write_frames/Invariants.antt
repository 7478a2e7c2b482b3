use Rattle.std.proofs.Common.{◌≡◌, ◌≤◌, ◌-◌, ◌*◌}
use Rattle.flac_frame.specs.Audio.{samples_each}
use Rattle.flac_native.specs.Given.{blocks_in, room_of}
use Rattle.flac_native.proofs.WrittenFrames.{WrittenFrames}
use Rattle.flac_native.proofs.chosen_frames.write_frames.Given as goal

abbrev pub invariant-loop-start : goal.invariant-loop-start
invariant-loop-start g l = record {
  written : WrittenFrames l.plan l.audio l.number l.fn.writer l.writer;
  buffers : l.buffers ≡ room_of l.plan;
  start : l.start ≡ l.plan.block_size * l.number;
  few : l.number ≤ blocks_in l.plan.block_size (samples_each l.audio.channels);
}

abbrev pub decreases-loop-start : goal.decreases-loop-start
decreases-loop-start g l = l.total - l.start
