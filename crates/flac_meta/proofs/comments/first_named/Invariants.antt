use Rattle.std.proofs.Common.{◌≡◌, drop}
use Rattle.flac_meta.specs.Named.{values_of}
use Rattle.flac_meta.proofs.comments.first_named.Given as goal

abbrev pub invariant-loop-i : goal.invariant-loop-i
invariant-loop-i l = values_of l.name l.texts ≡ values_of l.name (drop l.i l.texts)
