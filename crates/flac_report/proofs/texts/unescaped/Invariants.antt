use Rattle.std.proofs.Common.{◌≡◌, ◌-◌, ◌≤◌, [], length, drop}
use Rattle.flac_report.specs.inner.Reading.{unescaped}
use Rattle.flac_report.proofs.texts.unescaped.Given as goal

abbrev pub invariant-loop-place : goal.invariant-loop-place
invariant-loop-place l = record {
  within : l.place ≤ length l.text;
  taken : unescaped 0 l.bytes.items (drop l.place l.text) ≡ unescaped 0 [] l.text;
}

abbrev pub decreases-loop-place : goal.decreases-loop-place
decreases-loop-place l = length l.text - l.place
