use Rattle.flac_bits.specs.Fencing.{lifted}
use Rattle.flac_bits.proofs.Handing.{SoFar, Went}
use Rattle.std.proofs.Common.{◌≡◌}
use Rattle.flac_header.specs.declared.subset.Profile.TheVariants.{Subset}
use Rattle.flac_native.specs.Stream.{Progress, grammar, opening}
use Rattle.flac_native.specs.Track.{position_of}
use Rattle.flac_native.specs.inner.Retag.{keeps}
use Rattle.flac_native.proofs.Metadata.{no_errors}
use Rattle.flac_native.proofs.retagging.keep_all.Given as goal

abbrev pub invariant-loop-alloc : goal.invariant-loop-alloc
invariant-loop-alloc g l = record {
  went : Went (lifted l.initial.reader) (lifted l.reader);
  far : (p : Progress) × (position_of p.stand ≡ l.position) × SoFar grammar (keeps l.initial.all) no_errors (opening Subset) p (lifted l.initial.reader) (lifted l.reader) l.initial.kept.items l.kept.items;
}

abbrev pub decreases-loop-alloc : goal.decreases-loop-alloc
decreases-loop-alloc g l = l.reader.most
