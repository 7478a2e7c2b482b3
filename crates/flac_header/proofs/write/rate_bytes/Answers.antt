use Rattle.std.proofs.Common.{rules, ◌/◌}
use Rattle.flac_bits.proofs.Words.{length-unsigned}
use Rattle.flac_header.specs.Spelling.{rate_spelling}
use Rattle.flac_header.proofs.Lengths.{rate_none}
use Rattle.flac_header.proofs.write.rate_bytes.Goals as goal

pub returns-in-12-clause-long : goal.returns-in-12-clause-long
unfolding rate_spelling
returns-in-12-clause-long c = λ rate. rw c.in-12.is (length-unsigned 8 (rate / 1000))

pub returns-in-13-clause-long : goal.returns-in-13-clause-long
unfolding rate_spelling
returns-in-13-clause-long c = λ rate. rw c.in-13.is (length-unsigned 16 rate)

pub returns-in-14-clause-long : goal.returns-in-14-clause-long
unfolding rate_spelling
returns-in-14-clause-long c = λ rate. rw c.in-14.is (length-unsigned 16 (rate / 10))

pub returns-in_default-clause-long : goal.returns-in_default-clause-long
returns-in_default-clause-long c = λ rate. rate_none c.args.code rate (search rules) (search rules) (search rules)
