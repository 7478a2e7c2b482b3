use Rattle.std.proofs.Common.{rules, ◌<◌, ◌-◌, ◌/◌, ◌^◌, ◌++◌, List, Bool, length, ap, ◌∙◌, arith}
use Rattle.flac_bits.specs.Bits.{unsigned}
use Rattle.flac_bits.proofs.Words.{length-unsigned, put_fits, put_clean, put_bits}
use Rattle.flac_bits.proofs.word.Word.put.Goals as goal

pub overflow_sub-self : goal.overflow_sub-self
overflow_sub-self c = let len = ap (λ (bs : List Bool). length bs) c.self.view_is in let long = length-unsigned c.self.inside.count (c.self.inside.word / 2 ^ (64 - c.self.inside.count)) in omega (arith, len, long, c.requires)

pub overflow_add-self : goal.overflow_add-self
overflow_add-self c = let len = ap (λ (bs : List Bool). length bs) c.self.view_is in let long = length-unsigned c.self.inside.count (c.self.inside.word / 2 ^ (64 - c.self.inside.count)) in let few : c.self.inside.count < 32 = omega (arith, len, long, c.requires) in let fits : c.self.inside.word < 2 ^ 64 = search rules in let small : c.from.result < 2 ^ 32 = let s : c.args.value < 2 ^ 32 = search rules in omega (arith, s, c.from.ensures) in let done = put_fits c.self.inside.word c.from.result c.self.inside.count few small fits c.self.invariant.1 in search rules

pub invariant_of-self : goal.invariant_of-self
invariant_of-self c = let len = ap (λ (bs : List Bool). length bs) c.self.view_is in let long = length-unsigned c.self.inside.count (c.self.inside.word / 2 ^ (64 - c.self.inside.count)) in let few : c.self.inside.count < 32 = omega (arith, len, long, c.requires) in let fits : c.self.inside.word < 2 ^ 64 = search rules in let small : c.from.result < 2 ^ 32 = let s : c.args.value < 2 ^ 32 = search rules in omega (arith, s, c.from.ensures) in (omega (arith, few), put_clean c.self.inside.word c.from.result c.self.inside.count few small c.self.invariant.1)

pub returns : goal.returns
returns c = let len = ap (λ (bs : List Bool). length bs) c.self.view_is in let long = length-unsigned c.self.inside.count (c.self.inside.word / 2 ^ (64 - c.self.inside.count)) in let few : c.self.inside.count < 32 = omega (arith, len, long, c.requires) in let fits : c.self.inside.word < 2 ^ 64 = search rules in let small : c.from.result < 2 ^ 32 = let s : c.args.value < 2 ^ 32 = search rules in omega (arith, s, c.from.ensures) in
    put_bits c.self.inside.word c.from.result c.self.inside.count few small c.self.invariant.1 ∙ ap (λ bs. bs ++ unsigned 32 c.from.result) c.self.view_is ∙ ap (λ v. c.args.self.now ++ unsigned 32 v) c.from.ensures
