-- What the names of files say of them.
use Rattle.std.specs.Prelude.{ℕ, ◌-◌, Bool, false, ◌&&◌, ◌||◌, nat_le, List, length, codes, drop}
use Rattle.std.specs.Str.{str_eq_ignore_ascii_case}
use Rattle.flac_jobs.specs.declared.jobs.Job.{Job}
use Rattle.flac_jobs.specs.declared.jobs.Job.TheVariants as job

-- the path ends so, in any case
abbrev pub ends_so : (path ending : List ℕ) → Bool
ends_so path ending = nat_le (length ending) (length path) && str_eq_ignore_ascii_case (drop (length path - length ending) path) ending

-- that of a native stream
abbrev pub names_native : (path : List ℕ) → Bool
names_native path = ends_so path (codes ".flac") || ends_so path (codes ".fla")

-- that of an Ogg stream, of FLAC or of something else
abbrev pub names_ogg : (path : List ℕ) → Bool
names_ogg path = ends_so path (codes ".oga") || ends_so path (codes ".ogg")

-- that of a WAV file
abbrev pub names_wave : (path : List ℕ) → Bool
names_wave path = ends_so path (codes ".wav")

-- The path that a job writes to is that of something else than what it writes: of a stream that is encoded anew, or salvaged, that of a WAV
-- file. Both are opened as an encoding of which a part is of no use.
unfoldable pub is_misnamed : Job → (is_whole : Bool) → (path : List ℕ) → Bool
is_misnamed (job.EncodeWave input output block seek_every container comments lax predictors effort keep to_end) is_whole path = is_whole && names_wave path
is_misnamed other is_whole path = false
