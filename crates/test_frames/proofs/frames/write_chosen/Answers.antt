use Rattle.std.proofs.Common.{[]}
use Rattle.std.proofs.Math.Nat.{sub-zero}
use Rattle.test_frames.proofs.frames.write_chosen.Goals as goal

-- the choice that is kept is the one that was made
pub frame_bytes-bytes-requires-clause-chosen : goal.frame_bytes-bytes-requires-clause-chosen
frame_bytes-bytes-requires-clause-chosen g c =
    let same = c.in_ok-kept.ensures.same [] _ _ _ _ c.choose_frame.ensures.chosen in
    ([], _, rw (sub-zero c.len-len.result) at same)

pub write_frame-outcome-requires-clause-chosen : goal.write_frame-outcome-requires-clause-chosen
write_frame-outcome-requires-clause-chosen g c = c.in_ok-kept.ensures.same _ _ _ _ _ c.choose_frame.ensures.chosen
