use Rattle.std.proofs.Common.{◌≡◌, ◌<◌, length, drop}
use Rattle.flac_cli.specs.Predictors.{digits_after}
use Rattle.flac_cli.proofs.predictors.natural_in.Given as goal

abbrev pub invariant-loop-byte : goal.invariant-loop-byte
invariant-loop-byte l = record {
  some : 0 < length l.word;
  read : digits_after 0 l.word ≡ digits_after l.number (drop l.byte-index l.word);
  small : l.number < 100000;
}
