use Rattle.std.proofs.Common.{◌≡◌, ◌≤◌, ◌-◌, length, arith}
use Rattle.std.proofs.lemmas.List.{length-take}
use Rattle.flac_around.proofs.Sourced.{part_given}
use Rattle.flac_around.proofs.trimmed.give_part.Goals as goal

pub returns-clause-bytes : goal.returns-clause-bytes
returns-clause-bytes c =
    let n = c.min-count.result in
    let copied = c.copy_from_slice in
    let few : n ≤ c.args.end - c.args.at = omega (arith, c.min-count.ensures) in
    let long : length copied.new.self ≡ n = omega (arith, copied.ensures.len, length-take n c.args.buf.now, c.min-count.ensures) in
    part_given c.args.at c.args.end n c.args.held.now copied.new.self c.args.buf.now few long copied.ensures.after
