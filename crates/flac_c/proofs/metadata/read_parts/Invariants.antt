use Rattle.flac_header.specs.declared.subset.Profile.{Profile}
use Rattle.flac_c.specs.inner.Blocks.{BlocksCome, FoundOf}
use Rattle.flac_c.proofs.metadata.read_parts.Given as goal

abbrev pub invariant-loop-index : goal.invariant-loop-index
invariant-loop-index l = (profile : Profile) → BlocksCome profile l.fn.bits l.bits (FoundOf profile l.fn.found.sample l.found) l.seen l.index
