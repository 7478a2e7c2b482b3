use Rattle.flac_header.specs.declared.subset.Profile.{Profile}
use Rattle.flac_c.specs.inner.Blocks.{BlocksCome}
use Rattle.flac_c.specs.inner.Described.{ListOf}
use Rattle.flac_c.proofs.blocks.list_parts.Given as goal

abbrev pub invariant-loop-index : goal.invariant-loop-index
invariant-loop-index l = (profile : Profile) → BlocksCome profile l.fn.bits l.bits (ListOf l.list.items) l.seen l.index
