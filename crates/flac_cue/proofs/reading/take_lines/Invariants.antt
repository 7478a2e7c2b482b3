use Rattle.std.proofs.Common.{◌≡◌, ◌+◌, length, drop}
use Rattle.std.specs.List.{slice_split}
use Rattle.std.specs.Prelude.{◌==◌}
use Rattle.flac_cue.specs.Reading.{after_lines}
use Rattle.flac_cue.proofs.reading.take_lines.Given as goal

abbrev pub invariant-loop-index : goal.invariant-loop-index
invariant-loop-index l = record {
  taken :
      after_lines l.audio 1 l.fn.open (slice_split (λ byte. byte == 10) l.text)
      ≡ after_lines l.audio (length l.yielded + 1) l.open (drop (length l.yielded) (slice_split (λ byte. byte == 10) l.text));
  counted : l.count ≡ length l.yielded;
}
