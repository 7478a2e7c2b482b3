use Rattle.flac_pages.proofs.PageMeaning.{means_page}
use Rattle.flac_pages.proofs.page_buffer.next_page.Goals as goal

pub returns-clause-means : goal.returns-clause-means
returns-clause-means g c = means_page (λ _. c.next_page_by_layout.new.room) c.args.before c.args.reader.now c.next_page_by_layout.new.reader c.next_page_by_layout.result c.next_page_by_layout.ensures.reading.reads
