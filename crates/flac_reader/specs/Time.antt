-- The time that samples take.
use Rattle.std.specs.Prelude.{◌≡◌, ◌≢◌, ℕ, ◌*◌, ◌/◌, Option, MatchOption}
use Rattle.std.specs.Duration.{as_nanos}
use Rattle.std.specs.declared.time.Duration.{Duration}
use Rattle.flac_info.specs.Info.{Info}

-- that of this many samples of each channel, in nanoseconds, rounded down
abbrev pub nanos_of : (samples rate : ℕ) → ℕ
nanos_of samples rate = samples * 1000000000 / rate

-- that of all samples; none if STREAMINFO does not state how many there are (RFC 9639, section 8.2)
abbrev pub IsLength : Info → Option Duration → Type 0
IsLength info result = MatchOption result (info.total ≡ 0) (λ d. (info.total ≢ 0) × (as_nanos d ≡ nanos_of info.total info.rate))
