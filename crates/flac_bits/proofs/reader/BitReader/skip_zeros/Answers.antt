use Rattle.flac_bits.proofs.Standing.{zeros_skipped}
use Rattle.flac_bits.proofs.reader.BitReader.skip_zeros.Goals as goal

pub returns-clause-skipped : goal.returns-clause-skipped
returns-clause-skipped g c = zeros_skipped (g.R.Source.known c.self.inside.source) (g.R.Source.errors c.self.inside.source) (g.R.Source.raised c.self.inside.source) (g.R.Source.most c.self.inside.source) (g.R.Source.after c.self.inside.source) (g.R.Source.names c.self.inside.source) (g.R.Source.coming c.self.inside.source) c.self.inside.held c.blank.new.self c.args.self.now c.self.view_is c.blank.result c.blank.ensures.taken
