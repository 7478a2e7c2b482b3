use Rattle.std.proofs.Common.{List, Bool, length, ap, ◌∙◌, arith}
use Rattle.flac_bits.proofs.CodedTie.{spelled_0, spelled_1, spelled_2, spelled_3, spelled_4, spelled_5, spelled_6}
use Rattle.flac_bits.proofs.CodedLength.{in_long}
use Rattle.flac_bits.proofs.Words.{length-unsigned}
use Rattle.flac_bits.proofs.coded.number_len.Goals as goal

pub returns-then-value-lt128-clause-long : goal.returns-then-value-lt128-clause-long
returns-then-value-lt128-clause-long c = ap (λ (bs : List Bool). length bs) (spelled_0 c.args.value (omega arith)) ∙ length-unsigned 8 c.args.value

pub returns-then-value-lt2048-clause-long : goal.returns-then-value-lt2048-clause-long
returns-then-value-lt2048-clause-long c = ap (λ (bs : List Bool). length bs) (spelled_1 c.args.value (omega arith) (omega arith)) ∙ in_long 192 1 c.args.value

pub returns-then-value-lt65536-clause-long : goal.returns-then-value-lt65536-clause-long
returns-then-value-lt65536-clause-long c = ap (λ (bs : List Bool). length bs) (spelled_2 c.args.value (omega arith) (omega arith)) ∙ in_long 224 2 c.args.value

pub returns-then-value-lt2097152-clause-long : goal.returns-then-value-lt2097152-clause-long
returns-then-value-lt2097152-clause-long c = ap (λ (bs : List Bool). length bs) (spelled_3 c.args.value (omega arith) (omega arith)) ∙ in_long 240 3 c.args.value

pub returns-then-value-lt67108864-clause-long : goal.returns-then-value-lt67108864-clause-long
returns-then-value-lt67108864-clause-long c = ap (λ (bs : List Bool). length bs) (spelled_4 c.args.value (omega arith) (omega arith)) ∙ in_long 248 4 c.args.value

pub returns-then-value-lt2147483648-clause-long : goal.returns-then-value-lt2147483648-clause-long
returns-then-value-lt2147483648-clause-long c = ap (λ (bs : List Bool). length bs) (spelled_5 c.args.value (omega arith) (omega arith)) ∙ in_long 252 5 c.args.value

pub returns-else-value-lt2147483648-clause-long : goal.returns-else-value-lt2147483648-clause-long
returns-else-value-lt2147483648-clause-long c = ap (λ (bs : List Bool). length bs) (spelled_6 c.args.value (omega arith)) ∙ in_long 254 6 c.args.value
