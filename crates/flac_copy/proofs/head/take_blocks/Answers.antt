use Rattle.std.proofs.Common.{sym, ◌∙◌}
use Rattle.flac_copy.proofs.HeadLemmas.{more_blocks, no_block}
use Rattle.flac_copy.proofs.head.take_blocks.Goals as goal

pub reading-preserved : goal.reading-preserved
reading-preserved g c =
    let a = c.reading.invariant.counts in
    let b = c.in_default.ensures.counts in
    record {
      taken = λ end s list later. c.reading.invariant.taken end s list
          (more_blocks c.reading.track c.take_block.new.track end c.reading.reader c.take_block.new.reader s c.reading.blocks.items c.take_block.new.blocks.items list
          (sym c.is_past_metadata.ensures ∙ c.reading-test.true) c.in_default.ensures.taken later);
      counts = (λ k. b.0 (a.0 k), b.1 ∙ a.1, b.2 ∙ a.2, λ k. b.3 (a.0 k) ∙ a.3 k, b.4 ∙ a.4);
    }

pub returns-clause-taken : goal.returns-clause-taken
returns-clause-taken g c =
    c.reading.invariant.taken c.reading.track c.reading.reader c.reading.blocks.items (no_block c.reading.track c.reading.reader c.reading.blocks.items (sym c.is_past_metadata.ensures ∙ c.reading-test.false))
