use Rattle.std.proofs.Common.{rules, ◌+◌}
use Rattle.flac_bits.proofs.Holding.{four_bits}
use Rattle.flac_bits.proofs.stretch.four_bytes.Goals as goal

pub returns : goal.returns
returns c =
    let a = c.type_inv.bytes c.args.place in
    let b = c.type_inv.bytes (c.args.place + 1) in
    let d = c.type_inv.bytes (c.args.place + 2) in
    let e = c.type_inv.bytes (c.args.place + 3) in
    four_bits _ _ _ _ c.from_be_bytes.result (search (rules, a)) (search (rules, b)) (search (rules, d)) (search (rules, e)) c.from_be_bytes.ensures
