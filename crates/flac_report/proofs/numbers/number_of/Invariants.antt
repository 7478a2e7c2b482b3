use Rattle.std.proofs.Common.{◌≡◌, drop}
use Rattle.flac_report.specs.inner.Reading.{number_after}
use Rattle.flac_report.proofs.numbers.number_of.Given as goal

abbrev pub invariant-loop-byte : goal.invariant-loop-byte
invariant-loop-byte l = number_after l.number (drop l.byte-index l.digits) ≡ number_after 0 l.digits
