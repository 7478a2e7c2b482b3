-- For proofs of sources that give the samples of a WAV file as raw samples.
use Rattle.std.specs.Prelude.{◌<◌, ◌≤◌, ◌+◌, ◌*◌, ℕ, List, take, drop}
use Rattle.flac_wave.specs.Shift.{lowered_all}
use Rattle.flac_cli.specs.declared.wave_raw.Lowering.{Lowering}

-- samples of a file of 1 to 4 bytes, of which the highest bits are left, in as many bytes as they need
pub record Lowers (l : Lowering) : Type 0 where
  pub some : 0 < l.wide
  pub few : l.wide ≤ 4
  pub thin : 0 < l.width
  pub within : l.width ≤ l.wide
  pub less : l.shift < 8 * l.wide
  pub room : 8 * l.wide ≤ 8 * l.width + l.shift

-- whole samples of a file, lowered
abbrev pub low_of : Lowering → List ℕ → List ℕ
low_of l bytes = lowered_all l.wide l.width l.shift bytes

-- the bytes from one place to another
abbrev pub held_in : (from to : ℕ) → List ℕ → List ℕ
held_in from to bytes = drop from (take to bytes)
