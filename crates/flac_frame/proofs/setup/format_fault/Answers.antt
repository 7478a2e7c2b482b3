use Rattle.std.proofs.Common.{ap, sym, ◌∙◌, is_some}
use Rattle.flac_frame.proofs.Sounds.{depth_small}
use Rattle.flac_frame.proofs.setup.format_fault.Goals as goal

pub returns-clause-bits : goal.returns-clause-bits
returns-clause-bits c = λ _. depth_small c.args.profile c.args.bits (ap is_some (sym c.depth_code_in.ensures.code) ∙ c.if-is_none-2.ensures)
