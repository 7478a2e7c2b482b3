use Rattle.std.proofs.Common.{◌≡◌}
use Rattle.flac_frame.specs.Viewed.{frame_of}
use Rattle.flac_compare.specs.Samples.{samples_from}
use Rattle.flac_compare.proofs.frames.first_difference.Given as goal

abbrev pub invariant-loop-k : goal.invariant-loop-k
invariant-loop-k l = samples_from (frame_of l.first).channels l.k l.i ≡ samples_from (frame_of l.second).channels l.k l.j
