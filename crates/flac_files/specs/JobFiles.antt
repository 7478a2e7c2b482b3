-- The files of a job.
use Rattle.std.specs.Prelude.{◌≡◌, ◌⊎◌, ℕ, List, Some}
use Rattle.flac_jobs.specs.Asks.{input_of, list_of, output_of}
use Rattle.flac_jobs.specs.declared.jobs.Job.{Job}

-- the path of a file that the job reads or writes
abbrev pub IsFileOf : Job → (path : List ℕ) → Type 0
IsFileOf job path = (path ≡ input_of job) ⊎ ((list_of job ≡ Some path) ⊎ (output_of job ≡ Some path))
