-- What a test of a stream prints: how many frames it has, and how many samples each of its channels has.
use Rattle.std.specs.Prelude.{ℕ, ◌+◌, ◌++◌, min, List, [], ◌∷◌, codes, decimal}
use Rattle.flac_bits.specs.declared.source.Source as source
use Rattle.flac_bits.specs.declared.target.Target as target
use Rattle.flac_header.specs.declared.subset.Profile.{Profile}
use Rattle.flac_native.specs.Stream.{Piece, marked, block, framed}
use Rattle.flac_cli.specs.Streams.{SendsOfStream}
use Rattle.flac_jobs.specs.declared.jobs.Job.{Job}
use Rattle.flac_jobs.specs.declared.jobs.Job.TheVariants as job

-- the job is a test
abbrev pub AsksTest : Job → Type 0
AsksTest (job.Test input lax) = Unit {0}
AsksTest other = ⊥

-- the number of frames
abbrev pub frames_in : List Piece → ℕ
frames_in [] = 0
frames_in (marked ∷ xs) = frames_in xs
frames_in (block last b ∷ xs) = frames_in xs
frames_in (framed f ∷ xs) = frames_in xs + 1

-- the number of samples of each channel
abbrev pub samples_in_all : List Piece → ℕ
samples_in_all [] = 0
samples_in_all (marked ∷ xs) = samples_in_all xs
samples_in_all (block last b ∷ xs) = samples_in_all xs
samples_in_all (framed f ∷ xs) = samples_in_all xs + f.size

-- a count as it is printed: at most 2^64 - 1
abbrev pub printed : ℕ → ℕ
printed n = min n 18446744073709551615

-- the line of these counts
abbrev pub line_of : (frames samples : ℕ) → List ℕ
line_of frames samples = codes "frames " ++ (decimal frames ++ (codes " samples " ++ (decimal samples ++ codes "\n")))

-- the line of a stream of these parts
abbrev pub counts_line : List Piece → List ℕ
counts_line parts = line_of (printed (frames_in parts)) (printed (samples_in_all parts))

-- If the source did not fail, and the bytes of the target are known: the source gives a stream, and the target was sent
-- exactly the line of its counts.
abbrev pub SendsCounts : {S T : Type 0} (g : source.Ghosts S) (h : target.Ghosts T) → Profile → (from to : S) (old new : T) → Type 0
SendsCounts g h profile from to old new = SendsOfStream g h profile counts_line from to old new
