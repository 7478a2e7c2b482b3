use Rattle.std.proofs.Common.{Ok, Err}
use Rattle.flac_bits.proofs.Meaning.{reads}
use Rattle.flac_meta.specs.Block.{block}
use Rattle.flac_c.specs.inner.Blocks.{Noted}
use Rattle.flac_c.proofs.Heading.{block_was_read, block_was_refused}
use Rattle.flac_c.proofs.metadata.next_block.Goals as goal

pub returns-in-Ok-clause-read : goal.returns-in-Ok-clause-read
returns-in-Ok-clause-read c =
    block_was_read c.args.seen.now c.read_block.new.seen c.args.bits.now c.start_checks.new.self c.read_block.new.bits (λ b. Noted c.args.found.now b c.note.new.self) c.in-Ok.read.0 c.in-Ok.read.1 c.requires c.start_checks.ensures
    (λ room. reads (λ x. x) (block c.args.seen.now) c.start_checks.new.self c.read_block.new.bits (Ok c.in-Ok.read) (c.in-Ok.ensures.reading.reads room)) c.in-Ok.ensures.reading.counts c.in-Ok.ensures.seen c.note.ensures

pub returns-in-Err-clause-refused : goal.returns-in-Err-clause-refused
returns-in-Err-clause-refused c = λ quiet other.
    block_was_refused c.args.seen.now c.args.bits.now c.start_checks.new.self c.read_block.new.bits c.in-Err.why c.requires c.start_checks.ensures (λ room. reads (λ x. x) (block c.args.seen.now) c.start_checks.new.self c.read_block.new.bits (Err c.in-Err.why) (c.in-Err.ensures.reading.reads room)) quiet other
