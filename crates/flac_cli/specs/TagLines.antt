-- What is printed of a file that is no list of comments.
use Rattle.std.specs.Prelude.{ℕ, List, codes}
use Rattle.flac_edit.specs.declared.lines.LinesFault.{LinesFault}
use Rattle.flac_edit.specs.declared.lines.LinesFault.TheVariants as fault
use Rattle.flac_cli.specs.declared.lines.At.{At}
use Rattle.flac_cli.specs.declared.lines.At.TheVariants as at

-- the line that is no comment
abbrev pub lines_place : LinesFault → At
lines_place fault.Memory = at.Whole
lines_place (fault.Line number) = at.Line number

-- the number and the name of the reason
abbrev pub lines_name : LinesFault → List ℕ
lines_name fault.Memory = codes "2 Memory"
lines_name (fault.Line number) = codes "49 CommentLine"
