use Rattle.std.proofs.Common.{rules, Some}
use Rattle.flac_native.specs.Stream.{frame_after}
use Rattle.flac_native.specs.Track.{stand_of, shown}
use Rattle.flac_bits.proofs.Within.{reads_within}
use Rattle.flac_ogg.proofs.packets.frame_by_layout.Goals as goal

pub returns-clause-reading : goal.returns-clause-reading
returns-clause-reading g c = record {
  spends = search rules;
  counts = search rules;
  memory = search rules;
  reads = (let s = stand_of c.args.track.now in
      reads_within (Some 16777215) (λ _. shown c.next_frame.new.self) (frame_after s.profile s.info s.before) c.args.bits.now c.next_frame.new.bits c.next_frame.result c.next_frame.ensures.reading.reads);
}
