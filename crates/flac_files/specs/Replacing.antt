-- Which files a job may replace, by their first bytes.
use Rattle.std.specs.Prelude.{ℕ, ◌%◌, Bool, true, false, not, ◌&&◌, ◌||◌, eqb, nat_eq, nat_le, List, [], ◌∷◌, length, codes, take, drop, slice_index, Option, Some, None, is_none}
use Rattle.std.specs.Cmp.Lexicographic.{pointwise}
use Rattle.flac_jobs.specs.Kinds.{begins, file_kind}
use Rattle.flac_jobs.specs.declared.jobs.Job.{Job}
use Rattle.flac_jobs.specs.declared.jobs.Job.TheVariants as job
use Rattle.flac_jobs.specs.declared.kinds.FileKind.{FileKind}
use Rattle.flac_jobs.specs.declared.kinds.FileKind.TheVariants as kind

-- no file of these kinds, or a stream
abbrev pub may_be_stream : Option FileKind → Bool
may_be_stream None = true
may_be_stream (Some kind.Stream) = true
may_be_stream (Some kind.Wave) = false
may_be_stream (Some kind.Other) = false

-- no file of these kinds, or a WAV file
abbrev pub may_be_wave : Option FileKind → Bool
may_be_wave None = true
may_be_wave (Some kind.Wave) = true
may_be_wave (Some kind.Stream) = false
may_be_wave (Some kind.Other) = false

-- These bytes are the marker, then the header of STREAMINFO, with or without the flag of the last block, and its
-- content (RFC 9639, sections 6, 8.1 and 8.2).
abbrev pub begins_native : List ℕ → Bool
begins_native front =
    nat_le 42 (length front) && (begins front (codes "fLaC") && (nat_eq (slice_index front 4 % 128) 0
    && (nat_eq (slice_index front 5) 0 && (nat_eq (slice_index front 6) 0 && nat_eq (slice_index front 7) 34))))

-- a digest that is not known
abbrev pub unknown_digest : List ℕ
unknown_digest = 0 ∷ 0 ∷ 0 ∷ 0 ∷ 0 ∷ 0 ∷ 0 ∷ 0 ∷ 0 ∷ 0 ∷ 0 ∷ 0 ∷ 0 ∷ 0 ∷ 0 ∷ 0 ∷ []

-- two native streams that begin so have the same STREAMINFO
abbrev pub is_same_info : (one other : List ℕ) → Bool
is_same_info one other = pointwise eqb (take 34 (drop 8 one)) (take 34 (drop 8 other))

-- Two native streams that begin so have the same samples by their STREAMINFO: the rate, the channels, the bits per sample,
-- the total, and the digest, which is known (RFC 9639, section 8.2).
abbrev pub is_same_sound : (one other : List ℕ) → Bool
is_same_sound one other = pointwise eqb (take 24 (drop 18 one)) (take 24 (drop 18 other)) && not (pointwise eqb (take 16 (drop 26 one)) unknown_digest)

-- A stream that is encoded anew, from a file that begins with `input`, may replace a file that begins with the bytes `old`:
-- one that is no file of sound, or a native stream of the same samples.
unfoldable pub may_replace_recoded : (input old : List ℕ) → Bool
may_replace_recoded input old = is_none (file_kind old) || (begins_native input && (begins_native old && is_same_sound input old))

-- The job may replace a file that begins with the bytes `old`, if the file that it reads begins with `input`. One that
-- writes raw samples replaces no stream, no WAV file and no other file of sound; one that writes a WAV file no stream
-- and no other file of sound; one that writes a stream no WAV file and no other file of sound. A retagging of a native
-- stream replaces a native stream of the same STREAMINFO alone.
unfoldable pub may_replace : Job → (input old : List ℕ) → Bool
may_replace (job.Decode path output lax) input old = is_none (file_kind old)
may_replace (job.DecodeWave path output lax) input old = may_be_wave (file_kind old)
may_replace (job.Encode path output format container comments lax predictors effort raw) input old = may_be_stream (file_kind old)
may_replace (job.EncodeWave path output block seek_every container comments lax predictors effort keep to_end) input old = may_be_stream (file_kind old)
may_replace (job.Retag path output comments) input old = begins_native input && (begins_native old && is_same_info input old)
may_replace other input old = true
