use Rattle.std.proofs.Common.{codes, decimal}
use Rattle.flac_cue.proofs.Pushed.{one_number}
use Rattle.flac_cue.proofs.text.push_lead_in.Goals as goal

pub returns : goal.returns
returns c =
    one_number c.args.text.now.items c.extend_from_slice.new.self.items c.push_number.new.text.items c.push.new.self.items (codes "REM FLAC__lead-in ") (decimal c.args.lead_in)
    c.in_ok-extend_from_slice.ensures.items c.in_ok-push_number.ensures c.in_ok-push.ensures.items
