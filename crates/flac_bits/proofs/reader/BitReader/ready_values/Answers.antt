use Rattle.flac_bits.proofs.Standing.{values_took, values_drawn}
use Rattle.flac_bits.proofs.Needing.{draws_none}
use Rattle.flac_bits.proofs.reader.BitReader.ready_values.Goals as goal

pub returns-clause-went : goal.returns-clause-went
returns-clause-went g c =
    let R = g.R.Source in
    let source = c.self.inside.source in
    let read = c.values.ensures.read in
    (values_took (R.known source) (R.errors source) (R.raised source) (R.most source) (R.after source) (R.names source) (R.coming source) c.self.inside.held c.values.new.self c.args.self.now c.self.view_is
    c.args.k read.0 c.args.values.now c.values.new.values c.args.from c.values.result read.1 read.2).0

pub returns-clause-reads : goal.returns-clause-reads
returns-clause-reads g c =
    let R = g.R.Source in
    let source = c.self.inside.source in
    let read = c.values.ensures.read in
    (values_took (R.known source) (R.errors source) (R.raised source) (R.most source) (R.after source) (R.names source) (R.coming source) c.self.inside.held c.values.new.self c.args.self.now c.self.view_is
    c.args.k read.0 c.args.values.now c.values.new.values c.args.from c.values.result read.1 read.2).1

pub returns-clause-drawn : goal.returns-clause-drawn
returns-clause-drawn g c =
    let R = g.R.Source in
    let source = c.self.inside.source in
    let read = c.values.ensures.read in
    values_drawn (R.known source) (R.errors source) (R.raised source) (R.most source) (R.after source) (R.names source) (R.coming source) c.self.inside.held c.values.new.self c.args.self.now c.self.view_is
    c.args.k read.0 c.args.values.now c.values.new.values c.args.from c.values.result read.1 read.2

pub returns-then-k-gt-MOST_READY-clause-drawn : goal.returns-then-k-gt-MOST_READY-clause-drawn
returns-then-k-gt-MOST_READY-clause-drawn g c = draws_none c.args.self.now _
