-- What a job that gives a stream other comments has written.
use Rattle.std.specs.Prelude.{ℕ, Bool, List, map}
use Rattle.flac_bits.specs.Bits.{bits_of}
use Rattle.flac_bits.specs.State.{After, short_of}
use Rattle.flac_bits.specs.declared.source.Source as source
use Rattle.flac_bits.specs.declared.target.Target as target
use Rattle.flac_native.specs.Decoding.{beginning}
use Rattle.flac_native.specs.Retag.{Retags}
use Rattle.flac_cli.specs.Calls.{HasWritten}
use Rattle.flac_cli.specs.Encoded.{comments_of}
use Rattle.flac_jobs.specs.declared.jobs.Job.{Job}
use Rattle.flac_jobs.specs.declared.jobs.Job.TheVariants as job

-- After the bits that were there, the stream was written with the program's name and these words in place of its
-- comments.
abbrev pub RetagsWith : (words : List (List ℕ)) → (bytes : List ℕ) → After → (before later : List Bool) → Type 0
RetagsWith words bytes after before later = Retags (beginning (short_of after.fails)) (bits_of bytes) (comments_of words) before later

-- the same of a source and a target, if their bytes are known
abbrev pub RetagsTo : {S T : Type 0} (g : source.Ghosts S) (h : target.Ghosts T) → (words : List (List ℕ)) → (from : S) (old new : T) → Type 0
RetagsTo g h words from old new = HasWritten g h from old new (λ bytes. RetagsWith words bytes (g.after from))

-- this holds if the job asks for other comments
abbrev pub HasRetagged : Job → (bytes : List ℕ) → After → (before later : List Bool) → Type 0
HasRetagged (job.Retag input output comments) bytes after before later = RetagsWith (map (λ c. c.now) comments.items) bytes after before later
HasRetagged other bytes after before later = Unit {0}
