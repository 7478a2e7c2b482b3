use Rattle.std.proofs.Common.{rules, ◌+◌}
use Rattle.flac_native.proofs.Threes.{IsSample, two_threes, rows_put}
use Rattle.flac_native.proofs.sample_bytes.put_four.Goals as goal

pub returns : goal.returns
returns g c =
    let channels = g.C.Channels.lists c.args.samples.now in
    let i = c.args.index in
    let a : IsSample channels 0 i c.sample.result = (search rules, c.sample.ensures) in
    let b : IsSample channels 0 (i + 1) c.sample-2.result = (search rules, c.sample-2.ensures) in
    let d : IsSample channels 0 (i + 2) c.sample-3.result = (search rules, c.sample-3.ensures) in
    let e : IsSample channels 0 (i + 3) c.sample-4.result = (search rules, c.sample-4.ensures) in
    let p : IsSample channels 1 i c.sample-5.result = (search rules, c.sample-5.ensures) in
    let q : IsSample channels 1 (i + 1) c.sample-6.result = (search rules, c.sample-6.ensures) in
    let r : IsSample channels 1 (i + 2) c.sample-7.result = (search rules, c.sample-7.ensures) in
    let s : IsSample channels 1 (i + 3) c.sample-8.result = (search rules, c.sample-8.ensures) in
    rows_put c.args.at i channels c.args.out.now c.put_twelve.new.out c.put_twelve-2.new.out _ _
    c.put_twelve.ensures (two_threes channels i (i + 1) c.sample.result c.sample-5.result c.sample-2.result c.sample-6.result c.requires.channels a p b q)
    c.put_twelve-2.ensures (two_threes channels (i + 2) (i + 3) c.sample-3.result c.sample-7.result c.sample-4.result c.sample-8.result c.requires.channels d r e s)
