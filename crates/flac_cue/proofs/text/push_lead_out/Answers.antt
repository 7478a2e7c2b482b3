use Rattle.std.proofs.Common.{◌∙◌, ap, ◌++◌, codes, decimal}
use Rattle.flac_cue.proofs.Pushed.{two_numbers}
use Rattle.flac_cue.proofs.text.push_lead_out.Goals as goal

pub returns : goal.returns
returns c =
    two_numbers c.args.text.now.items c.extend_from_slice.new.self.items c.push_number.new.text.items c.push.new.self.items c.push_number-2.new.text.items c.push-2.new.self.items
    (codes "REM FLAC__lead-out ") (decimal c.args.track.now.number) (decimal c.args.track.now.offset)
    c.in_ok-extend_from_slice.ensures.items (c.in_ok-push_number.ensures ∙ ap (λ n. c.extend_from_slice.new.self.items ++ decimal n) c.from.ensures) c.in_ok-push.ensures.items c.in_ok-push_number-2.ensures c.in_ok-push-2.ensures.items
