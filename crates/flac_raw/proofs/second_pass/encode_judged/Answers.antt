use Rattle.flac_raw.proofs.second_pass.encode_judged.Goals as goal

pub returns : goal.returns
returns g c = let e = c.encode_judged_in.ensures in record { written = e.written; samples = e.samples; table = e.fits; known = e.known; counted = e.counted; names = e.names; refused = e.refused; failed = e.failed; through = e.through }
