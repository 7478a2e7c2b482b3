use Rattle.std.proofs.Common.{None, Ok, sym, ◌∙◌}
use Rattle.test_library.proofs.Onward.{shows}
use Rattle.test_library.proofs.reading_on.frame_on.Goals as goal

pub returns-in-Ok-next_frame-clause-shows : goal.returns-in-Ok-next_frame-clause-shows
returns-in-Ok-next_frame-clause-shows g c =
    let told = c.in-Ok.ensures in
    record {
      moved = told.found.moved;
      there = told.found.there;
      shows = λ known frames is.
          shows c.args.reader.info c.args.sample frames c.in-Ok.reader (Ok c.in-Ok-next_frame.seen) (told.found.sought known frames None is) told.ahead told.first.1 (sym c.in-Ok-next_frame.is ∙ c.next_frame.ensures told.ahead);
    }
