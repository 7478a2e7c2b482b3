use Rattle.std.proofs.Common.{rules, subst, ◌∙◌}
use Rattle.std.specs.Prelude.{IfOk}
use Rattle.std.proofs.lemmas.Result.{IfOk-weaker}
use Rattle.flac_native.specs.Track.{stand_of, shown}
use Rattle.flac_copy.specs.Frames.{PassesFrame}
use Rattle.flac_copy.proofs.FramesKept.{passed, tail_is}
use Rattle.flac_copy.proofs.frames.pass_frame.Goals as goal

pub returns-clause-passed : goal.returns-clause-passed
returns-clause-passed g c =
    let taken = rw c.new-reader.ensures at c.take_frame-taken.ensures.taken in
    let names = rw c.new-reader.ensures at c.take_frame-taken.ensures.names in
    let back = c.into_source-again.ensures in
    let all = IfOk-weaker c.take_frame-taken.result _ _ (λ n t.
    passed g.R.Source (stand_of c.args.track.now) (shown c.take_frame-taken.new.track) c.args.again.now c.into_source-again.result.now _ n _ c.take_frame-taken.new.reader c.requires
    (tail_is _ _ _ _ (back.names ∙ names)) t
    (record { told = back.told; errors = back.errors; raised = back.raised; after = back.after }))
    taken in
    subst (λ a. IfOk c.take_frame-taken.result (λ n. PassesFrame g.R.Source (stand_of c.args.track.now) (shown c.take_frame-taken.new.track) c.args.again.now a n)) (search (rules, back, names)) all
