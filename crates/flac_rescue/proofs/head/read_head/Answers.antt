use Rattle.flac_rescue.proofs.Heads.{head_is, head_refused}
use Rattle.flac_rescue.proofs.head.read_head.Goals as goal

pub returns-in-Ok-clause-head : goal.returns-in-Ok-clause-head
returns-in-Ok-clause-head c = head_is c.args.bytes.now c.new.result.bytes.now c.new-reader.result c.read_blocks-outcome.new.reader c.in-Ok.blocks.items c.bytes_of-front.result c.new.ensures c.new-reader.ensures c.in-Ok.ensures.read (cc)

pub returns-in-Err-clause-fault : goal.returns-in-Err-clause-fault
returns-in-Err-clause-fault c = head_refused c.args.bytes.now c.new.result.bytes.now c.new-reader.result c.read_blocks-outcome.new.reader c.in-Err.fault c.new.ensures c.new-reader.ensures c.into_source-source.ensures.errors c.in-Err.ensures.refused
