use Rattle.std.proofs.Common.{sym, ◌∙◌}
use Rattle.flac_copy.proofs.HeadLemmas.{more_headers, no_header}
use Rattle.flac_copy.proofs.ogg_head.take_headers.Goals as goal

pub reading-preserved : goal.reading-preserved
reading-preserved g c = record {
  taken = λ end q list later. c.reading.invariant.taken end q list
      (more_headers c.reading.track c.take_header.new.track end c.reading.pages c.take_header.new.pages q c.reading.blocks.items c.take_header.new.blocks.items list
      (sym c.is_past_metadata.ensures ∙ c.if-is_past_metadata.false) c.in-Ok.ensures later);
}

pub returns-then-is_past_metadata : goal.returns-then-is_past_metadata
returns-then-is_past_metadata g c =
    c.reading.invariant.taken c.reading.track c.reading.pages c.reading.blocks.items
    (no_header c.reading.track c.reading.pages c.reading.blocks.items (sym c.is_past_metadata.ensures ∙ c.if-is_past_metadata.true))
