use Rattle.std.proofs.Common.{◌≤◌, length}
use Rattle.flac_cli.proofs.frame_search.read_from.Given as goal

abbrev pub invariant-places : goal.invariant-places
invariant-places g l = l.count ≤ length l.places
