use Rattle.std.proofs.Common.{◌≡◌, ◌+◌, drop}
use Rattle.flac_report.specs.inner.Reading.{digits_in}
use Rattle.flac_report.proofs.numbers.digits_in.Given as goal

abbrev pub invariant-loop-index : goal.invariant-loop-index
invariant-loop-index l = l.index + digits_in (drop l.index l.text) ≡ digits_in l.text
