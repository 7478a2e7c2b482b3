use Rattle.std.proofs.Common.{subst}
use Rattle.std.specs.Prelude.{IfOk}
use Rattle.flac_encoder.specs.Pushing.{shape_of, SentHead, FailsHead}
use Rattle.flac_draft.proofs.Planned.{none_fits}
use Rattle.flac_draft.proofs.Points.{no_place}
use Rattle.flac_draft.proofs.draft_encoder.DraftEncoder.new_in.Goals as goal

pub begin-requires-clause-fits : goal.begin-requires-clause-fits
begin-requires-clause-fits g c = λ shape. none_fits (shape_of c.args.format.now) c.args.list c.none.result c.none.ensures

pub returns-clause-written : goal.returns-clause-written
returns-clause-written g c = subst (λ l. IfOk c.begin.result (λ e. SentHead g.W.Target l c.args.target e.pushed)) (no_place c.args.format.now.block_size c.none.result c.args.list c.none.ensures) c.begin.ensures.written

pub returns-clause-failed : goal.returns-clause-failed
returns-clause-failed g c = subst (λ l. FailsHead g.W.Target (shape_of c.args.format.now) l c.args.target c.begin.result) (no_place c.args.format.now.block_size c.none.result c.args.list c.none.ensures) c.begin.ensures.failed
