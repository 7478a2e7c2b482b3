use Rattle.flac_bits.proofs.Fencing.{lift_is}
use Rattle.flac_bits.proofs.reader.BitReader.lift.Goals as goal

pub returns : goal.returns
returns g c =
    let up = c.lift.ensures.held in
    lift_is (g.R.Source.known c.self.inside.source) (g.R.Source.errors c.self.inside.source) (g.R.Source.raised c.self.inside.source) (g.R.Source.most c.self.inside.source) (g.R.Source.after c.self.inside.source) (g.R.Source.names c.self.inside.source) (g.R.Source.coming c.self.inside.source) c.self.inside.held c.lift.new.self c.args.self.now c.self.view_is up.0 up.1 up.2 up.3 (c.lift.ensures.after (g.R.Source.coming c.self.inside.source))
