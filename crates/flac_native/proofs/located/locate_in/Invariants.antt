use Rattle.flac_bits.specs.Fencing.{lifted}
use Rattle.flac_bits.proofs.Handing.{SoFar, Went}
use Rattle.flac_native.specs.Stream.{Progress, grammar}
use Rattle.flac_native.specs.Track.{IsAt}
use Rattle.flac_native.proofs.Locating.{nothing, no_errors}
use Rattle.flac_native.proofs.located.locate_in.Given as goal

abbrev pub invariant-loop-fault : goal.invariant-loop-fault
invariant-loop-fault g l = record {
  went : Went (lifted l.initial.reader) (lifted l.reader);
  far : (p : Progress) → IsAt l.initial.track p → (q : Progress) × IsAt l.track q × SoFar grammar nothing no_errors p q (lifted l.initial.reader) (lifted l.reader) tt tt;
}

abbrev pub decreases-loop-fault : goal.decreases-loop-fault
decreases-loop-fault g l = l.reader.most
