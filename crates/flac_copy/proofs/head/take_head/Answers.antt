use Rattle.std.proofs.lemmas.Result.{IfOk-weaker}
use Rattle.flac_copy.proofs.HeadLemmas.{head_taken}
use Rattle.flac_copy.proofs.head.take_head.Goals as goal

pub returns-in-Ok-clause-taken : goal.returns-in-Ok-clause-taken
returns-in-Ok-clause-taken g c =
    IfOk-weaker c.bytes_read.result _ _ (λ n k.
    head_taken c.args.track.now c.take_blocks.new.track c.args.reader.now c.read_marker.new.reader c.take_blocks.new.reader c.args.blocks.now.items c.take_blocks.new.blocks.items n
    c.in_default.ensures.reading c.in-Ok.ensures.taken c.in-Ok.ensures.counts k.count k.whole k.few)
    c.bytes_read.ensures
