use Rattle.std.proofs.Common.{◌≡◌, drop}
use Rattle.flac_whole_pages.specs.Left.{native_parts}
use Rattle.flac_whole_pages.specs.inner.Adding.{AreStanding}
use Rattle.flac_whole_pages.proofs.native.first_of_flac.Given as goal

abbrev pub invariant-loop-i : goal.invariant-loop-i
invariant-loop-i l = record {
  same : native_parts l.bytes (drop l.i l.pages) ≡ native_parts l.bytes l.pages;
  stand : AreStanding l.bytes (drop l.i l.pages);
}
