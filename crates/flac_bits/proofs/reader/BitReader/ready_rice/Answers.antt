use Rattle.flac_bits.proofs.Standing.{rice_took, rice_held}
use Rattle.flac_bits.proofs.reader.BitReader.ready_rice.Goals as goal

pub returns-clause-some : goal.returns-clause-some
returns-clause-some g c = rice_took (g.R.Source.known c.self.inside.source) (g.R.Source.errors c.self.inside.source) (g.R.Source.raised c.self.inside.source) (g.R.Source.most c.self.inside.source) (g.R.Source.after c.self.inside.source) (g.R.Source.names c.self.inside.source) (g.R.Source.coming c.self.inside.source) c.self.inside.held c.rice.new.self c.args.self.now c.self.view_is c.args.k c.args.limit c.rice.result c.rice.ensures.some

pub returns-clause-held : goal.returns-clause-held
returns-clause-held g c = rice_held (g.R.Source.known c.self.inside.source) (g.R.Source.errors c.self.inside.source) (g.R.Source.raised c.self.inside.source) (g.R.Source.most c.self.inside.source) (g.R.Source.after c.self.inside.source) (g.R.Source.names c.self.inside.source) (g.R.Source.coming c.self.inside.source) c.self.inside.held c.rice.new.self c.args.self.now c.self.view_is c.args.k c.args.limit c.rice.result c.rice.ensures.some
