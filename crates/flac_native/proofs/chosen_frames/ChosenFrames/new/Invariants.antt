use Rattle.std.proofs.Common.{◌≡◌, ◌≤◌, ◌-◌, ◌*◌, min, length}
use Rattle.flac_frame.specs.Audio.{samples_each}
use Rattle.flac_frame.specs.Chosen.{HasPlaces}
use Rattle.flac_native.specs.Given.{blocks_in, room_of}
use Rattle.flac_native.specs.Message.{sample_width, rows_bytes}
use Rattle.flac_native.specs.Writing.{AreChoices}
use Rattle.flac_native.proofs.Gathered.{Gathered}
use Rattle.md5.specs.Md5.{Holds}
use Rattle.flac_native.proofs.chosen_frames.ChosenFrames.new.Given as goal

abbrev pub invariant-loop-start : goal.invariant-loop-start
invariant-loop-start l = record {
  gathered : Gathered l.plan l.audio l.number l.offset l.least l.greatest l.points.items;
  choices : AreChoices l.plan l.audio l.choices.items;
  kept : length l.choices.items ≡ min l.number l.most;
  places : HasPlaces (length l.audio.channels) l.buffers.most l.choice;
  fed : Holds l.hasher (rows_bytes (sample_width l.audio.bits) l.audio.channels l.start 0);
  buffers : l.buffers ≡ room_of l.plan;
  start : l.start ≡ min (samples_each l.audio.channels) (l.plan.block_size * l.number);
  few : l.number ≤ blocks_in l.plan.block_size (samples_each l.audio.channels);
  greatest : l.greatest ≤ 16777215;
  least : l.least ≤ l.greatest;
}

abbrev pub decreases-loop-start : goal.decreases-loop-start
decreases-loop-start l = l.total - l.start
