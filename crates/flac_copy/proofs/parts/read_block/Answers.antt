use Rattle.flac_native.specs.Track.{stand_of}
use Rattle.flac_copy.proofs.PartLemmas.{block_text}
use Rattle.flac_copy.proofs.parts.read_block.Goals as goal

pub returns-clause-spelled : goal.returns-clause-spelled
returns-clause-spelled g c = block_text (stand_of c.args.track.now) c.args.reader.now c.block.new.bits c.block.result c.block.ensures.reading
