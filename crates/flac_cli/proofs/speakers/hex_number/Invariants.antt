use Rattle.std.proofs.Common.{◌≡◌, drop}
use Rattle.flac_cli.specs.Speakers.{hex_after}
use Rattle.flac_cli.proofs.speakers.hex_number.Given as goal

abbrev pub invariant-loop-digit : goal.invariant-loop-digit
invariant-loop-digit l = hex_after 0 l.digits ≡ hex_after l.number (drop l.digit-index l.digits)
