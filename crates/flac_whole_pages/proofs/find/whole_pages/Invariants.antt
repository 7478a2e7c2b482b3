use Rattle.std.proofs.Common.{◌≡◌, ◌≤◌, ◌-◌, length, None}
use Rattle.flac_whole_pages.specs.Found.{FoundUpTo}
use Rattle.flac_whole_pages.proofs.find.whole_pages.Given as goal

abbrev pub invariant-looking : goal.invariant-looking
invariant-looking l = record {
  within : l.at ≤ length l.bytes;
  none : l.cut ≡ None;
  found : FoundUpTo l.bytes l.at l.from l.pages.items;
}

abbrev pub decreases-looking : goal.decreases-looking
decreases-looking l = length l.bytes - l.at
