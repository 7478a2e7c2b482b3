use Rattle.flac_native.specs.Giving.{stage_of}
use Rattle.flac_reader.proofs.Searches.{SearchSoFar}
use Rattle.flac_reader.proofs.seeking.find_frame.Given as goal

abbrev pub invariant-loop : goal.invariant-loop
invariant-loop g l = SearchSoFar g.C.Container (stage_of l.initial.decoder) (stage_of l.decoder) l.info l.sample
