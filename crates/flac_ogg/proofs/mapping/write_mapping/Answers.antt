use Rattle.flac_ogg.proofs.mapping.write_mapping.Goals as goal

pub returns : goal.returns
returns g c = c.write_mapped.ensures
