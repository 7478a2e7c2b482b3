use Rattle.std.proofs.Math.Nat.{sub-zero}
use Rattle.flac_frame.specs.PlaneLists.{lists_of}
use Rattle.test_frames.proofs.by_plane.write_chosen.Goals as goal

-- the choice that is kept is the one that was made
pub frame_bytes_by_plane-bytes-requires-clause-chosen : goal.frame_bytes_by_plane-bytes-requires-clause-chosen
frame_bytes_by_plane-bytes-requires-clause-chosen g c =
    let lists = lists_of c.args.predictors.now in
    let same = c.in_ok-kept.ensures.same_by_plane lists _ _ _ _ c.choose_frame_by_plane.ensures.chosen in
    (lists, _, rw (sub-zero c.len-len.result) at same)

pub write_frame_by_plane-outcome-requires-clause-chosen : goal.write_frame_by_plane-outcome-requires-clause-chosen
write_frame_by_plane-outcome-requires-clause-chosen g c = c.in_ok-kept.ensures.same_by_plane _ _ _ _ _ c.choose_frame_by_plane.ensures.chosen
