use Rattle.std.proofs.Common.{◌≡◌, ◌<◌, ◌≤◌, ◌-◌, ◌*◌, min}
use Rattle.flac_frame.specs.Audio.{samples_each}
use Rattle.flac_native.specs.Given.{blocks_in, room_of}
use Rattle.flac_native.proofs.Spelled.{came_out}
use Rattle.flac_ogg.specs.inner.Writing.{SendsPackets}
use Rattle.flac_ogg.proofs.SentPackets.{SentPackets}
use Rattle.flac_ogg.proofs.encoding.send_frames.Given as goal

abbrev pub invariant-loop-start : goal.invariant-loop-start
invariant-loop-start g l = record {
  going : l.number < blocks_in l.plan.block_size (samples_each l.audio.channels) → SentPackets g.W.Target l.headers.serial l.headers.held.next l.plan l.audio l.number l.sequence l.fn.target l.target;
  over : l.number ≡ blocks_in l.plan.block_size (samples_each l.audio.channels) → SendsPackets g.W.Target l.headers.serial l.headers.held.next l.plan l.audio l.fn.target l.target came_out;
  buffers : l.buffers ≡ room_of l.plan;
  room : l.room.places ≡ l.fn.room.places;
  pages : l.pages.places ≡ l.fn.pages.places;
  start : l.start ≡ min (samples_each l.audio.channels) (l.plan.block_size * l.number);
  few : l.number ≤ blocks_in l.plan.block_size (samples_each l.audio.channels);
}

abbrev pub decreases-loop-start : goal.decreases-loop-start
decreases-loop-start g l = l.total - l.start
