use Rattle.flac_bits.proofs.Standing.{number_took, number_held}
use Rattle.flac_bits.proofs.reader.BitReader.ready.Goals as goal

pub returns-then-n-ready-clause-some : goal.returns-then-n-ready-clause-some
returns-then-n-ready-clause-some g c = number_took (g.R.Source.known c.self.inside.source) (g.R.Source.errors c.self.inside.source) (g.R.Source.raised c.self.inside.source) (g.R.Source.most c.self.inside.source) (g.R.Source.after c.self.inside.source) (g.R.Source.names c.self.inside.source) (g.R.Source.coming c.self.inside.source) c.self.inside.held c.take.new.self c.args.self.now c.self.view_is c.args.n c.take.result c.take.ensures.0 c.take.ensures.1

pub returns-then-n-ready-clause-held : goal.returns-then-n-ready-clause-held
returns-then-n-ready-clause-held g c = number_held (g.R.Source.known c.self.inside.source) (g.R.Source.errors c.self.inside.source) (g.R.Source.raised c.self.inside.source) (g.R.Source.most c.self.inside.source) (g.R.Source.after c.self.inside.source) (g.R.Source.names c.self.inside.source) (g.R.Source.coming c.self.inside.source) c.self.inside.held c.take.new.self c.args.self.now c.self.view_is c.args.n c.take.result c.take.ensures.0
