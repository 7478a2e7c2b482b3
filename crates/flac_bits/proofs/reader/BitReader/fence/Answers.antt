use Rattle.flac_bits.proofs.Fencing.{fence_is}
use Rattle.flac_bits.proofs.reader.BitReader.fence.Goals as goal

pub returns : goal.returns
returns g c =
    let held = c.fence.ensures.held in
    fence_is (g.R.Source.known c.self.inside.source) (g.R.Source.errors c.self.inside.source) (g.R.Source.raised c.self.inside.source) (g.R.Source.most c.self.inside.source) (g.R.Source.after c.self.inside.source) (g.R.Source.names c.self.inside.source) (g.R.Source.coming c.self.inside.source) c.self.inside.held c.fence.new.self c.args.self.now c.self.view_is c.args.bytes held.0 c.fence.ensures.mark c.fence.ensures.part held.1 held.2.0 held.2.1 (c.fence.ensures.after (g.R.Source.coming c.self.inside.source))
