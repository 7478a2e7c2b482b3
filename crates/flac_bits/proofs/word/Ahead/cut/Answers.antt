use Rattle.std.proofs.Common.{rules, ◌<◌, ◌^◌, ap, ◌∙◌}
use Rattle.flac_bits.specs.Bits.{unsigned}
use Rattle.flac_bits.proofs.Words.{taken_small, first_bits}
use Rattle.flac_bits.proofs.word.Ahead.cut.Goals as goal

pub of_bits-requires-clause-small : goal.of_bits-requires-clause-small
of_bits-requires-clause-small c = let wide : c.args.self.word < 2 ^ 64 = search rules in taken_small c.args.self.word c.args.self.count wide c.requires

pub returns : goal.returns
returns c = c.of_bits.ensures ∙ ap (unsigned c.args.self.count) (first_bits c.args.self.word c.args.self.count c.requires)
