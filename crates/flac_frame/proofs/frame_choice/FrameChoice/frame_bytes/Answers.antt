use Rattle.flac_frame.specs.PlaneLists.{same_list}
use Rattle.flac_frame.proofs.frame_choice.FrameChoice.frame_bytes.Goals as goal

pub frame_bytes_by_plane-requires-clause-chosen : goal.frame_bytes_by_plane-requires-clause-chosen
frame_bytes_by_plane-requires-clause-chosen c = (same_list c.requires.chosen.0, c.requires.chosen.1, c.requires.chosen.2)

pub returns-clause-bytes : goal.returns-clause-bytes
returns-clause-bytes c = λ ps block is. c.frame_bytes_by_plane.ensures.bytes (same_list ps) block is
