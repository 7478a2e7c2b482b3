-- The frame of a view.
use Rattle.flac_frame.specs.declared.view.FrameView.{FrameView}
use Rattle.flac_header.specs.Strategy.{is_variable}
use Rattle.flac_frame.specs.Frame.{Frame}
use Rattle.flac_frame.specs.View.{chunks}

-- the frame that a view shows
abbrev pub frame_of : FrameView → Frame
frame_of v = record { variable = is_variable v.strategy; number = v.number; size = v.block; channels = chunks v.channels v.block v.samples.now }
