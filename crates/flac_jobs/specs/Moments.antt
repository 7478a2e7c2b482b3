-- Points of a stream, between two inter-channel samples.
use Rattle.std.specs.Prelude.{ℕ, ◌-◌, ◌*◌, ◌/◌, ◌^◌, min}
use Rattle.flac_jobs.specs.declared.excerpts.Moment.{Moment}
use Rattle.flac_jobs.specs.declared.excerpts.Moment.TheVariants as moment

-- how many inter-channel samples are before this point at a rate in Hz, up to 2^64 - 1
unfoldable pub sample_at : Moment → (rate : ℕ) → ℕ
sample_at (moment.Sample number) rate = number
sample_at (moment.Time nanoseconds) rate = min (nanoseconds * rate / 1000000000) (2 ^ 64 - 1)
