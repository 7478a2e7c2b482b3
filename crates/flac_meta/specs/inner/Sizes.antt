-- The fields of STREAMINFO (RFC 9639, section 8.2) that are read together.
use Rattle.std.specs.Prelude.{ℕ, ◌<◌, ◌≤◌, ◌^◌}
use Rattle.flac_meta.specs.declared.stream_info.Format.{Format}
use Rattle.flac_meta.specs.declared.stream_info.Sizes.{Sizes}

-- smallest and largest block size, smallest and largest frame size
abbrev pub sizes_of : Sizes → ℕ × ℕ × ℕ × ℕ
sizes_of s = (s.least_block, s.greatest_block, s.least_frame, s.greatest_frame)

-- each number fits its field
abbrev pub FitsFields : Format → Type 0
FitsFields f = (f.rate < 2 ^ 20) × (1 ≤ f.channels) × (f.channels ≤ 8) × (f.depth ≤ 32) × (f.total < 2 ^ 36)
