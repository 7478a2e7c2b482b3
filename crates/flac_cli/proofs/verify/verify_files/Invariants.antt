use Rattle.std.proofs.Common.{◌≡◌, ◌≤◌, true}
use Rattle.flac_cli.specs.inner.Verifying.{Underway}
use Rattle.flac_cli.proofs.verify.verify_files.Given as goal

-- If no device failed so far, the lines and the counts are those of the files so far.
abbrev pub invariant-files : goal.invariant-files
invariant-files g l = record {
  gone : g.S.Shelf.known l.fn.shelf ≡ true → g.S.Shelf.faults l.shelf ≡ g.S.Shelf.faults l.fn.shelf → g.S.Shelf.gone l.shelf ≡ g.S.Shelf.gone l.fn.shelf;
  kept : g.S.Shelf.faults l.fn.shelf ≤ g.S.Shelf.faults l.shelf;
  under : g.S.Shelf.known l.fn.shelf ≡ true → g.S.Shelf.faults l.shelf ≡ g.S.Shelf.faults l.fn.shelf
      → (g.S.Shelf.known l.shelf ≡ true) × Underway g.O.Target g.E.Target g.P.Target l.checks (g.S.Shelf.files l.fn.shelf) (g.S.Shelf.files l.shelf) l.fn.out l.out l.fn.err l.err l.fn.report_to l.report_to l.tally;
}

abbrev pub decreases-files : goal.decreases-files
decreases-files g l = g.S.Shelf.most l.shelf
