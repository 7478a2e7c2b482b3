-- For the proof of taking a file apart: what comes next.
use Rattle.std.specs.Prelude.{◌≡◌, ◌≤◌, ◌-◌, ℕ, true, false, List, length, None, Some}
use Rattle.flac_wave.specs.Chunks.{fault_at, is_data, after_chunk, chunk_len, data_len}
use Rattle.flac_wave.specs.declared.seen.Seen.{Seen}
use Rattle.flac_wave.specs.declared.waves.Next.{Next}
use Rattle.flac_wave.specs.declared.waves.Next.TheVariants as next

-- this chunk, or the samples
abbrev pub IsNext : Seen → (bytes : List ℕ) → Next → Type 0
IsNext s bytes (next.Chunk t) = (fault_at s bytes ≡ None) × (is_data bytes ≡ false) × (t ≡ after_chunk s bytes) × (8 ≤ length bytes) × (chunk_len bytes ≤ length bytes)
IsNext s bytes (next.Samples format) = (fault_at s bytes ≡ None) × (is_data bytes ≡ true) × (s.format ≡ Some format) × (8 ≤ length bytes) × (data_len s bytes ≤ length bytes - 8)
