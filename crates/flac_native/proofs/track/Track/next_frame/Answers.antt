use Rattle.std.proofs.Common.{rules, Some}
use Rattle.flac_native.specs.Stream.{frame_after}
use Rattle.flac_native.specs.Track.{stand_of, shown}
use Rattle.flac_bits.proofs.Within.{means_within}
use Rattle.flac_native.proofs.track.Track.next_frame.Goals as goal

pub returns-clause-reading : goal.returns-clause-reading
returns-clause-reading g c = record {
  spends = search rules;
  counts = search rules;
  memory = search rules;
  reads = (let s = stand_of c.args.self.now in
      means_within (Some 16777215) (λ _. shown c.next_frame_by_layout.new.self) (frame_after s.profile s.info s.before) c.args.bits.now c.next_frame_by_layout.new.bits c.next_frame_by_layout.result c.next_frame_by_layout.ensures.reading.reads);
}
