use Rattle.std.proofs.Common.{◌≡◌, ◌≤◌, true}
use Rattle.flac_shelf.specs.Past.{without_good}
use Rattle.flac_shelf.specs.Records.{report_of}
use Rattle.flac_shelf.proofs.resumed_shelf.ResumedShelfShelf.next.Given as goal

-- The files that were passed are left out.
abbrev pub invariant-files : goal.invariant-files
invariant-files g l = record {
  good : l.self.good ≡ l.fn.self.good;
  known : g.S.Shelf.known l.fn.self.shelf ≡ true → g.S.Shelf.known l.self.shelf ≡ true;
  same : g.S.Shelf.known l.fn.self.shelf ≡ true
      → without_good (report_of l.fn.self.good) (g.S.Shelf.files l.fn.self.shelf) ≡ without_good (report_of l.self.good) (g.S.Shelf.files l.self.shelf);
  gone : g.S.Shelf.known l.fn.self.shelf ≡ true → g.S.Shelf.gone l.self.shelf ≡ g.S.Shelf.gone l.fn.self.shelf;
  faults : g.S.Shelf.faults l.self.shelf ≡ g.S.Shelf.faults l.fn.self.shelf;
  most : g.S.Shelf.most l.self.shelf ≤ g.S.Shelf.most l.fn.self.shelf;
}

abbrev pub decreases-files : goal.decreases-files
decreases-files g l = g.S.Shelf.most l.self.shelf
