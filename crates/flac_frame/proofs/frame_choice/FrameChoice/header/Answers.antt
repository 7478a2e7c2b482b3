use Rattle.flac_frame.proofs.Wholes.{header_at}
use Rattle.flac_frame.proofs.frame_choice.FrameChoice.header.Goals as goal

pub returns : goal.returns
returns c = header_at c.args.audio.now c.profile.result c.args.size c.rate.result c.args.self.now.code c.bits.result c.args.number c.chosen_in-header.result c.in-Some.header c.profile.ensures c.rate.ensures c.bits.ensures c.chosen_in-header.ensures.chosen c.in-Some.is
