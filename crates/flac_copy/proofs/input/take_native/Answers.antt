use Rattle.std.proofs.Common.{◌++◌, ap, ◌∙◌}
use Rattle.flac_native.specs.Track.{stand_of, shown}
use Rattle.flac_copy.proofs.InputLemmas.{native_given}
use Rattle.flac_copy.proofs.input.take_native.Goals as goal

pub returns-clause-gives : goal.returns-clause-gives
returns-clause-gives g c =
    native_given g.R.Source (stand_of c.args.track.now) (shown c.next_frame.new.track) c.args.again.now c.next_frame.new.again c.skip.new.self c.in_ok-n.n c.extend_from_slice.new.self.items
    c.in_ok-n.ensures.given c.skip.ensures.held c.skip.ensures.source c.skip.ensures.fault
    (c.in_ok-extend_from_slice.ensures.items ∙ ap (λ l. l ++ c.front.result.now) c.clear.ensures.items ∙ c.front.ensures)
