use Rattle.std.proofs.Common.{◌≡◌, ◌⊎◌, [], true}
use Rattle.flac_native.specs.Track.{is_going}
use Rattle.flac_native.specs.Giving.{stage_of}
use Rattle.flac_reader.proofs.Heads.{HeadSoFar}
use Rattle.flac_reader.proofs.head.read_counted.Given as goal

abbrev pub invariant-loop-index : goal.invariant-loop-index
invariant-loop-index g l = record {
  head : HeadSoFar g.C.Container (stage_of l.initial.decoder) (stage_of l.decoder) l.keep l.kept.items l.initial.size l.size;
  past : (l.kept.items ≡ []) ⊎ (is_going (stage_of l.decoder).course ≡ true);
}
