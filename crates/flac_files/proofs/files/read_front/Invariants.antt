use Rattle.std.proofs.Common.{◌≤◌, length}
use Rattle.flac_files.proofs.files.read_front.Given as goal

abbrev pub invariant-places : goal.invariant-places
invariant-places l = l.count ≤ length l.places
