use Rattle.std.proofs.Common.{rules}
use Rattle.flac_native.proofs.decoder.Decoder+BitReader+R.new.Goals as goal

pub returns-clause-track : goal.returns-clause-track
returns-clause-track g c = search rules
