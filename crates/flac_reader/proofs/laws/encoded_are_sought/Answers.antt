use Rattle.flac_reader.proofs.EncodedFinds.{searches_are_cut, samples_are_found}
use Rattle.flac_reader.proofs.laws.encoded_are_sought.Goals as goal

pub returns : goal.returns
returns g c = record { cut = searches_are_cut g.C.Container; found = samples_are_found g.C.Container g.D.Container }
