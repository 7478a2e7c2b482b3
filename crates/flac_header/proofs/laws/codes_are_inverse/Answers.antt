use Rattle.flac_header.proofs.Named.{rates_back, depths_back}
use Rattle.flac_header.proofs.laws.codes_are_inverse.Goals as goal

pub returns : goal.returns
returns c = record { rates = rates_back; depths = depths_back }
