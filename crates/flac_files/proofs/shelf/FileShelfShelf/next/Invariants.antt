use Rattle.std.proofs.Common.{◌≤◌}
use Rattle.flac_files.proofs.shelf.FileShelfShelf.next.Given as goal

-- the room falls
abbrev pub invariant-paths : goal.invariant-paths
invariant-paths l = l.self.room ≤ l.fn.self.room

abbrev pub decreases-paths : goal.decreases-paths
decreases-paths l = l.self.room
