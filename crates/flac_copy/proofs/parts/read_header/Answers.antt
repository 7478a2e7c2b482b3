use Rattle.std.proofs.Common.{sym, ◌∙◌}
use Rattle.std.proofs.lemmas.Result.{IfOk-weaker}
use Rattle.flac_native.specs.Stream.{block}
use Rattle.flac_native.specs.Track.{stand_of}
use Rattle.flac_copy.proofs.PartLemmas.{later_text}
use Rattle.flac_copy.proofs.parts.read_header.Goals as goal

pub returns-clause-spelled : goal.returns-clause-spelled
returns-clause-spelled g c = λ phase.
    IfOk-weaker c.read_block.result _ _ (λ b part. later_text (stand_of c.args.track.now) c.args.reader.now c.read_block.new.reader (block b.0 b.1) (sym c.is_first_block.ensures ∙ c.if-is_first_block.false) part) (c.read_block.ensures.spelled phase)
