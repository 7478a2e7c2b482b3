use Rattle.std.proofs.Common.{◌≤◌, ◌<◌, ◌+◌, ◌-◌, length}
use Rattle.flac_pages.specs.inner.Packets.{Copies}
use Rattle.flac_pages.proofs.pages.Pages.copy_in_page.Given as goal

abbrev pub invariant-loop-done : goal.invariant-loop-done
invariant-loop-done g l = record {
  within : l.done ≤ length l.out;
  some : 0 < l.initial.self.rest → 0 < l.done + l.self.rest;
  copies : Copies l.initial.self l.self l.out l.done;
}

abbrev pub decreases-loop-done : goal.decreases-loop-done
decreases-loop-done g l = length l.out - l.done
