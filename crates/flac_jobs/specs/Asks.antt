-- What a job asks for.
use Rattle.std.specs.Prelude.{ℕ, Bool, false, List, Option, Some, None, option_map}
use Rattle.flac_jobs.specs.declared.jobs.Job.{Job}
use Rattle.flac_jobs.specs.declared.jobs.Job.TheVariants as job

-- the job is a decoding
abbrev pub AsksDecode : Job → Type 0
AsksDecode (job.Decode input output lax) = Unit {0}
AsksDecode other = ⊥

-- the job reads a whole stream
abbrev pub AsksStream : Job → Type 0
AsksStream (job.Encode input output format container comments lax predictors effort raw) = ⊥
AsksStream (job.Retag input output comments) = ⊥
AsksStream (job.DecodeWave input output lax) = ⊥
AsksStream (job.EncodeWave input output block seek_every container comments lax predictors effort keep to_end) = ⊥
AsksStream other = Unit {0}

-- the job is a decoding to a WAV file
abbrev pub AsksDecodeWave : Job → Type 0
AsksDecodeWave (job.DecodeWave input output lax) = Unit {0}
AsksDecodeWave other = ⊥

-- the job accepts, or writes, streams outside the streamable subset too
abbrev pub asks_lax : Job → Bool
asks_lax (job.Test input lax) = lax
asks_lax (job.Decode input output lax) = lax
asks_lax (job.List input lax) = lax
asks_lax (job.DecodeWave input output lax) = lax
asks_lax (job.EncodeWave input output block seek_every container comments lax predictors effort keep to_end) = lax
asks_lax (job.Encode input output format container comments lax predictors effort raw) = lax
asks_lax other = false

-- the path of the file that is read
abbrev pub input_of : Job → List ℕ
input_of (job.Test input lax) = input.now
input_of (job.Decode input output lax) = input.now
input_of (job.List input lax) = input.now
input_of (job.Encode input output format container comments lax predictors effort raw) = input.now
input_of (job.Retag input output comments) = input.now
input_of (job.DecodeWave input output lax) = input.now
input_of (job.EncodeWave input output block seek_every container comments lax predictors effort keep to_end) = input.now

-- the path of the file that is written, if there is one
abbrev pub output_of : Job → Option (List ℕ)
output_of (job.Decode input output lax) = Some output.now
output_of (job.Encode input output format container comments lax predictors effort raw) = Some output.now
output_of (job.Retag input output comments) = Some output.now
output_of (job.DecodeWave input output lax) = Some output.now
output_of (job.EncodeWave input output block seek_every container comments lax predictors effort keep to_end) = Some output.now
output_of other = None

-- the path of the list of predictors, if there is one
abbrev pub list_of : Job → Option (List ℕ)
list_of (job.Encode input output format container comments lax predictors effort raw) = option_map (λ path. path.now) predictors
list_of (job.EncodeWave input output block seek_every container comments lax predictors effort keep to_end) = option_map (λ path. path.now) predictors
list_of other = None
