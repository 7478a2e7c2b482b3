use Rattle.std.proofs.Common.{rules, ◌<◌, ◌+◌, ◌^◌, ap, arith}
use Rattle.std.proofs.lemmas.Nat.{shl_whole}
use Rattle.flac_bits.proofs.Stretches.{eight_bits}
use Rattle.flac_bits.proofs.stretch.eight_bytes.Goals as goal

pub returns : goal.returns
returns c =
    let high : c.four_bytes-high.result < 2 ^ 32 = search rules in
    let low : c.four_bytes-low.result < 2 ^ 32 = search rules in
    rw (c.from.ensures, c.from-2.ensures) (eight_bits c.args.bytes.now c.args.place c.four_bytes-high.result c.four_bytes-low.result _ c.requires low
    (ap (λ v. v + c.four_bytes-low.result) (shl_whole c.four_bytes-high.result 32 32 64 high (omega arith))) c.four_bytes-high.ensures c.four_bytes-low.ensures)
