use Rattle.std.proofs.Common.{rules, ◌+◌, ◌-◌, length, take, drop}
use Rattle.flac_meta.specs.Named.{values_of}
use Rattle.flac_meta.proofs.Named.{values_after, one_less}
use Rattle.flac_meta.proofs.comments.ValuesIterator.next.Goals as goal

pub returns-clause-goes : goal.returns-clause-goes
returns-clause-goes c =
    let name = c.args.self.now.name.now in
    let texts = c.args.self.now.texts.now in
    let value = c.in_ok-i.value.now in
    let less = one_less (values_of name texts) (values_of name (take (length texts - (c.in_ok-i.i + 1)) (drop (c.in_ok-i.i + 1) texts))) value (values_after name texts c.in_ok-i.i value c.in_ok-i.ensures.1) in
    search rules

pub returns-clause-steps : goal.returns-clause-steps
returns-clause-steps c = values_after c.args.self.now.name.now c.args.self.now.texts.now c.in_ok-i.i c.in_ok-i.value.now c.in_ok-i.ensures.1
