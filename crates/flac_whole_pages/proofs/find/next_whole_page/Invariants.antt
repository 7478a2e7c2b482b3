use Rattle.std.proofs.Common.{◌≤◌, ◌-◌, length}
use Rattle.flac_whole_pages.specs.Standing.{NoneBetween}
use Rattle.flac_whole_pages.proofs.find.next_whole_page.Given as goal

abbrev pub invariant-looking : goal.invariant-looking
invariant-looking l = record {
  reached : l.from ≤ l.at;
  none : NoneBetween l.bytes l.from l.at;
}

abbrev pub decreases-looking : goal.decreases-looking
decreases-looking l = length l.bytes - l.at
