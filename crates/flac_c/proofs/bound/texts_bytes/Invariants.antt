use Rattle.std.proofs.Common.{◌≡◌, ◌≤◌, ◌*◌, take}
use Rattle.flac_c.specs.Bound.{texts_bytes}
use Rattle.flac_c.proofs.bound.texts_bytes.Given as goal

abbrev pub invariant-loop-text : goal.invariant-loop-text
invariant-loop-text l = record {
  value : l.sum ≡ texts_bytes (take l.text-index l.texts);
  few : l.sum ≤ 16777220 * l.text-index;
}
