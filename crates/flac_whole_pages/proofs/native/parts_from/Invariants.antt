use Rattle.std.proofs.Common.{◌≡◌, ◌++◌, ◌∷◌, false, drop}
use Rattle.flac_whole_pages.specs.Left.{first_part, parts_after}
use Rattle.flac_whole_pages.specs.inner.Adding.{AreStanding}
use Rattle.flac_whole_pages.proofs.native.parts_from.Given as goal

abbrev pub invariant-loop-page : goal.invariant-loop-page
invariant-loop-page l = record {
  so_far : l.parts.items ++ parts_after l.bytes l.first.serial l.frames l.from (drop l.page-index l.rest) ≡ first_part l.first ∷ parts_after l.bytes l.first.serial false l.first.end l.rest;
  stand : AreStanding l.bytes (drop l.page-index l.rest);
}
