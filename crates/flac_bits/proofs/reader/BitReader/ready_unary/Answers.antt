use Rattle.flac_bits.proofs.Standing.{zeros_took, zeros_held}
use Rattle.flac_bits.proofs.reader.BitReader.ready_unary.Goals as goal

pub returns-clause-some : goal.returns-clause-some
returns-clause-some g c = zeros_took (g.R.Source.known c.self.inside.source) (g.R.Source.errors c.self.inside.source) (g.R.Source.raised c.self.inside.source) (g.R.Source.most c.self.inside.source) (g.R.Source.after c.self.inside.source) (g.R.Source.names c.self.inside.source) (g.R.Source.coming c.self.inside.source) c.self.inside.held c.unary.new.self c.args.self.now c.self.view_is c.args.limit c.unary.result c.unary.ensures.some

pub returns-clause-held : goal.returns-clause-held
returns-clause-held g c = zeros_held (g.R.Source.known c.self.inside.source) (g.R.Source.errors c.self.inside.source) (g.R.Source.raised c.self.inside.source) (g.R.Source.most c.self.inside.source) (g.R.Source.after c.self.inside.source) (g.R.Source.names c.self.inside.source) (g.R.Source.coming c.self.inside.source) c.self.inside.held c.unary.new.self c.args.self.now c.self.view_is c.args.limit c.unary.result c.unary.ensures.some
