use Rattle.std.proofs.Common.{◌≡◌, ◌-◌, ◌++◌, arith, length, take, drop}
use Rattle.std.proofs.lemmas.List.{length-take}
use Rattle.flac_around.proofs.Lefts.{given_last, ended_left}
use Rattle.flac_around.proofs.between.Between.give_last.Goals as goal

pub returns-clause-bytes : goal.returns-clause-bytes
returns-clause-bytes g c = λ known.
    let self = c.args.self.now in
    let n = c.min-count.result in
    let copied = c.copy_from_slice in
    let long : length copied.new.self ≡ n = omega (arith, copied.ensures.len, length-take n c.args.buf.now, c.min-count.ensures) in
    let coming = g.S.Source.coming self.source in
    ended_left self.stage _ _ self.held self.held (take (self.to - self.from) (drop self.from self.held)) _ coming coming (take n (copied.new.self ++ drop n c.args.buf.now)) c.requires.stage
    (given_last self.from self.to n self.held copied.new.self c.args.buf.now coming (omega (arith, c.min-count.ensures)) long copied.ensures.after)
