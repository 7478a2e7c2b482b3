use Rattle.flac_edit.proofs.LinesRead.{no_lines}
use Rattle.flac_edit.proofs.lines.comments_of_lines.Goals as goal

pub returns-then-is_empty-clause-read : goal.returns-then-is_empty-clause-read
returns-then-is_empty-clause-read c = no_lines c.args.text.now c.new.result.items c.is_empty.result c.is_empty.ensures c.if-is_empty.true c.new.ensures.items
