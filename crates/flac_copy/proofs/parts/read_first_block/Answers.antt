use Rattle.std.proofs.lemmas.Result.{IfOk-weaker}
use Rattle.flac_native.specs.Stream.{block}
use Rattle.flac_native.specs.Track.{stand_of}
use Rattle.flac_copy.proofs.PartLemmas.{first_text}
use Rattle.flac_copy.proofs.parts.read_first_block.Goals as goal

pub returns-clause-spelled : goal.returns-clause-spelled
returns-clause-spelled g c = λ phase.
    IfOk-weaker c.read_block.result _ _ (λ b part. first_text (stand_of c.args.track.now) c.args.reader.now c.read_mapping.new.bits c.read_block.new.reader tt (block b.0 b.1) c.requires c.in_ok-read_mapping.ensures.reading part) (c.read_block.ensures.spelled phase)
