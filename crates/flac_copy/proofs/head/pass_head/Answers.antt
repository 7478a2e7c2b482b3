use Rattle.std.proofs.Common.{rules, subst, ◌∙◌}
use Rattle.std.specs.Prelude.{IfOk}
use Rattle.std.proofs.lemmas.Result.{IfOk-weaker}
use Rattle.flac_copy.specs.Heads.{PassesHead}
use Rattle.flac_copy.proofs.FramesKept.{tail_is}
use Rattle.flac_copy.proofs.HeadLemmas.{passed_head}
use Rattle.flac_copy.proofs.head.pass_head.Goals as goal

pub returns : goal.returns
returns g c =
    let taken = rw c.new-reader.ensures at c.take_head-taken.ensures.taken in
    let names = rw c.new-reader.ensures at c.take_head-taken.ensures.names in
    let back = c.into_source-again.ensures in
    let all = IfOk-weaker c.take_head-taken.result _ _ (λ n t.
    passed_head g.R.Source c.args.track.now c.take_head-taken.new.track c.args.again.now c.into_source-again.result.now _ n _ c.take_head-taken.new.reader
    c.args.blocks.now.items c.take_head-taken.new.blocks.items c.requires (tail_is _ _ _ _ (back.names ∙ names)) t
    (record { told = back.told; errors = back.errors; raised = back.raised; after = back.after }))
    taken in
    subst (λ a. IfOk c.take_head-taken.result (PassesHead g.R.Source c.args.track.now c.take_head-taken.new.track c.args.again.now a c.args.blocks.now.items c.take_head-taken.new.blocks.items)) (search (rules, back, names)) all
