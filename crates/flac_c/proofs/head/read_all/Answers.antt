use Rattle.std.proofs.Common.{sym, ◌∙◌, inl, inr}
use Rattle.flac_c.proofs.head.read_all.Goals as goal

pub returns-then-is_memory-clause-refused : goal.returns-then-is_memory-clause-refused
returns-then-is_memory-clause-refused c = inl (c.in-Err.ensures.refused (sym c.count.ensures ∙ c.if-count-ne0.false))

pub returns-in-Err-clause-begun : goal.returns-in-Err-clause-begun
returns-in-Err-clause-begun c = inr (c.in-Err.ensures.stopped (sym c.count.ensures ∙ c.if-count-ne0.false) (c.is_memory.ensures.other c.if-is_memory.false))
