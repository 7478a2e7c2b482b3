use Rattle.flac_header.proofs.HeaderTie.{headers_spelled, headers_again}
use Rattle.flac_header.proofs.laws.headers_are_spelled.Goals as goal

pub returns : goal.returns
returns c = record { spelled = headers_spelled; again = headers_again }
