use Rattle.std.proofs.Common.{rules, ◌-◌}
use Rattle.flac_bits.proofs.Words.{length-unsigned}
use Rattle.flac_header.specs.Spelling.{size_spelling}
use Rattle.flac_header.proofs.Lengths.{size_none}
use Rattle.flac_header.proofs.write.size_bytes.Goals as goal

pub returns-in-6-clause-long : goal.returns-in-6-clause-long
unfolding size_spelling
returns-in-6-clause-long c = λ size. rw c.in-6.is (length-unsigned 8 (size - 1))

pub returns-in-7-clause-long : goal.returns-in-7-clause-long
unfolding size_spelling
returns-in-7-clause-long c = λ size. rw c.in-7.is (length-unsigned 16 (size - 1))

pub returns-in_default-clause-long : goal.returns-in_default-clause-long
returns-in_default-clause-long c = λ size. size_none c.args.code size (search rules) (search rules)
