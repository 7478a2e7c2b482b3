use Rattle.std.proofs.Common.{rules, ◌∙◌, sym}
use Rattle.flac_pages.proofs.PageMeaning.{next_after_byte, next_cut}
use Rattle.flac_pages.proofs.page_buffer.next_page_by_layout.Goals as goal

pub returns-in-Ok-read_after-clause-reading : goal.returns-in-Ok-read_after-clause-reading
returns-in-Ok-read_after-clause-reading g c = record {
  spends = search rules;
  counts = search rules;
  memory = search rules;
  reads = (λ known same.
      let first = c.in-Ok.ensures in
      let page = c.in-Ok-read_after.ensures in
      next_after_byte c.args.before _ _ _ _ (first.reading.reads known first.reading.counts.1) (page.reading.reads (first.reading.counts.0 known) page.reading.counts.1));
}

pub returns-in-Err-read_after-clause-reading : goal.returns-in-Err-read_after-clause-reading
returns-in-Err-read_after-clause-reading g c = record {
  spends = search rules;
  counts = search rules;
  memory = search rules;
  reads = (λ known same.
      let first = c.in-Ok.ensures in
      next_after_byte c.args.before _ _ _ _ (first.reading.reads known first.reading.counts.1) (c.in-Err-read_after.ensures.reading.reads (first.reading.counts.0 known) (same ∙ sym first.reading.counts.1)));
}

pub returns-in-Err-clause-reading : goal.returns-in-Err-clause-reading
returns-in-Err-clause-reading g c = record {
  spends = search rules;
  counts = search rules;
  memory = search rules;
  reads = (λ known same. next_cut c.args.before _ c.in-Err.why c.between.result (c.in-Err.ensures.reading.reads known same) c.between.ensures);
}
