use Rattle.std.proofs.Common.{◌≡◌, ◌≤◌, ◌-◌, length, take, drop}
use Rattle.flac_whole_pages.specs.Parts.{place_of, sizes, AreInside}
use Rattle.flac_whole_pages.proofs.part.place.Given as goal

abbrev pub invariant-loop-reached : goal.invariant-loop-reached
invariant-loop-reached l = record {
  index : l.reached.index ≤ length l.parts;
  before : l.reached.before ≡ sizes (take l.reached.index l.parts);
  least : l.reached.before ≤ l.at;
  place : place_of l.end (drop l.reached.index l.parts) (l.at - l.reached.before) ≡ place_of l.end l.parts l.at;
  inside : AreInside l.end (drop l.reached.index l.parts);
}

abbrev pub decreases-loop-reached : goal.decreases-loop-reached
decreases-loop-reached l = length l.parts - l.reached.index
