-- The samples of a frame of two channels (RFC 9639, section 9.1.3).
use Rattle.std.specs.Prelude.{◌≡◌, ◌≢◌, [], length, slice_index_or, Option, MatchOption}
use Rattle.flac_frame.specs.Frame.{Frame}
use Rattle.flac_reader.specs.declared.stereo.StereoSamples.{StereoSamples}

-- those of both channels, left and right; none if the frame has not two channels
abbrev pub AreStereo : Frame → Option StereoSamples → Type 0
AreStereo f result = MatchOption result (length f.channels ≢ 2) (λ s. (length f.channels ≡ 2) × (s.left.now ≡ slice_index_or f.channels 0 []) × (s.right.now ≡ slice_index_or f.channels 1 []))
