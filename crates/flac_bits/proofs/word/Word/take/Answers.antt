use Rattle.std.proofs.Common.{rules, ◌<◌, ◌≤◌, ◌-◌, ◌/◌, ◌^◌, List, Bool, length, sym, ap, ◌∙◌, arith}
use Rattle.flac_bits.proofs.Words.{length-unsigned, taken, taken_small, taken_clean}
use Rattle.flac_bits.proofs.word.Word.take.Goals as goal

pub overflow_sub-value : goal.overflow_sub-value
overflow_sub-value c = let len = ap (λ (bs : List Bool). length bs) c.self.view_is in let long = length-unsigned c.self.inside.count (c.self.inside.word / 2 ^ (64 - c.self.inside.count)) in omega (arith, len, long, c.self.invariant.0, c.requires)

pub overflow_shl-self : goal.overflow_shl-self
overflow_shl-self c = let len = ap (λ (bs : List Bool). length bs) c.self.view_is in let long = length-unsigned c.self.inside.count (c.self.inside.word / 2 ^ (64 - c.self.inside.count)) in omega (arith, len, long, c.self.invariant.0, c.requires)

pub overflow_sub-self : goal.overflow_sub-self
overflow_sub-self c = let len = ap (λ (bs : List Bool). length bs) c.self.view_is in let long = length-unsigned c.self.inside.count (c.self.inside.word / 2 ^ (64 - c.self.inside.count)) in omega (arith, len, long, c.self.invariant.0, c.requires)

pub invariant_of-self : goal.invariant_of-self
invariant_of-self c = let len = ap (λ (bs : List Bool). length bs) c.self.view_is in let long = length-unsigned c.self.inside.count (c.self.inside.word / 2 ^ (64 - c.self.inside.count)) in (omega (arith, c.self.invariant.0), taken_clean c.self.inside.word c.args.n c.self.inside.count (omega (arith, len, long, c.requires)) c.self.invariant.0 c.self.invariant.1)

pub returns : goal.returns
returns c = let len = ap (λ (bs : List Bool). length bs) c.self.view_is in let long = length-unsigned c.self.inside.count (c.self.inside.word / 2 ^ (64 - c.self.inside.count)) in
    let fits : c.self.inside.word < 2 ^ 64 = search rules in
    let le : c.args.n ≤ c.self.inside.count = omega (arith, len, long, c.requires) in
    (sym c.self.view_is ∙ taken c.self.inside.word c.args.n c.self.inside.count le c.self.invariant.0, taken_small c.self.inside.word c.args.n fits (omega (arith, le, c.self.invariant.0)))
