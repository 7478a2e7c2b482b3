use Rattle.std.proofs.Common.{sym, subst, ◌∙◌}
use Rattle.std.specs.Prelude.{IfOk}
use Rattle.flac_encoder.specs.Pushing.{shape_of, SentHead}
use Rattle.flac_draft.specs.Table.{Table, table_for, with_place}
use Rattle.flac_draft.proofs.Planned.{total_small, never_written}
use Rattle.flac_draft.proofs.draft_encoder.DraftEncoder.new_with_table.Goals as goal

pub new-table-requires : goal.new-table-requires
new-table-requires g c = λ some. total_small (shape_of c.args.format.now) c.args.list c.args.total c.args.seek_every (sym c.begin_fault.ensures ∙ c.in_default.is) some

pub returns-in-Some-clause-failed : goal.returns-in-Some-clause-failed
returns-in-Some-clause-failed g c = λ w. never_written (shape_of c.args.format.now) c.args.list (table_for c.args.total c.args.seek_every) c.begin_fault.result c.in-Some.fault c.begin_fault.ensures c.in-Some.is w

pub returns-clause-written : goal.returns-clause-written
returns-clause-written g c = subst (λ (t : Table). IfOk c.begin.result (λ e. SentHead g.W.Target (with_place c.args.format.now.block_size t c.args.list) c.args.target e.pushed)) c.new-table.ensures c.begin.ensures.written
