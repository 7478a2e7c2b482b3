-- What is said of a job, where another of its kind is known.
use Rattle.std.proofs.Common.{◌≡◌, ◌∙◌, ◌≤◌, ◌<◌, ℕ, Bool, true, false, List, Option, Some, None, Vec, Global, map, subst, ap, sym, arith}
use denote.Bor.{Bor}
use Rattle.flac_jobs.specs.declared.formats.ContainerKind.{ContainerKind}
use Rattle.flac_jobs.specs.declared.formats.RawFormat.{RawFormat}
use Rattle.flac_jobs.specs.declared.search_effort.SearchEffort.{SearchEffort}
use Rattle.flac_header.specs.declared.subset.Profile.{Profile}
use Rattle.flac_jobs.specs.declared.jobs.Job.{Job}
use Rattle.flac_jobs.specs.declared.jobs.Job.TheVariants as job
use Rattle.flac_cli.specs.Asked.{Asked}
use Rattle.flac_cli.specs.Encoded.{asked_for, HasEncoded, HasBegun}
use Rattle.flac_cli.specs.Refusals.{CanBeEncoded}
use Rattle.flac_cli.specs.Reports.{Files, Reports}
use Rattle.flac_cli.specs.Streams.{profile_of}
use Rattle.flac_cli.specs.WaveRefusals.{CanBeKept, ReportsWaveEncoding}
use Rattle.flac_cli.specs.Waves.{asked_for_wave, HasEncodedWave, HasBegunWave}

-- a job that encodes nothing
module _ (o : Option Asked) (none : o ≡ None) where
  pub none_encoded : (bytes : List ℕ) (before after : List Bool) → HasEncoded o bytes before after
  none_encoded bytes before after = subst (λ a. HasEncoded a bytes before after) (sym none) tt

  pub none_begun : (bytes : List ℕ) (before after : List Bool) → HasBegun o bytes before after
  none_begun bytes before after = subst (λ a. HasBegun a bytes before after) (sym none) tt

  pub none_accepted : (bytes : List ℕ) → CanBeEncoded o bytes
  none_accepted bytes = subst (λ a. CanBeEncoded a bytes) (sym none) tt

  pub none_refused : (bytes : List ℕ) (files : Files) (status : ℕ) (before after : List ℕ) → Reports o bytes files status before after
  none_refused bytes files status before after = subst (λ a. Reports a bytes files status before after) (sym none) tt

-- what an encoding asks for
pub asked_is : (j : Job) (list : List ℕ) {input output : Bor (List ℕ)} {format : RawFormat} {container : ContainerKind} {comments : Vec (Bor (List ℕ)) Global} {lax : Bool} {predictors : Option (Bor (List ℕ))} {effort : SearchEffort} {raw : Bool} (profile : Profile) (words : List (Bor (List ℕ)))
    → j ≡ job.Encode input output format container comments lax predictors effort raw → profile ≡ profile_of lax → words ≡ comments.items
    → asked_for j list ≡ Some (record { profile = profile; format = format; container = container; words = map (λ w. w.now) words; list = list; effort = effort; any = raw; keep = false; to_end = false })
asked_is j list {format = format} {container = container} {comments = comments} {effort = effort} {raw = raw} profile words is of same =
    ap (λ k. asked_for k list) is ∙ ap (λ p. Some (record { profile = p; format = format; container = container; words = map (λ w. w.now) comments.items; list = list; effort = effort; any = raw; keep = false; to_end = false })) (sym of)
    ∙ ap (λ ws. Some (record { profile = profile; format = format; container = container; words = map (λ w. w.now) ws; list = list; effort = effort; any = raw; keep = false; to_end = false })) (sym same)

pub wave_asked_is : (j : Job) (list : List ℕ) {input output : Bor (List ℕ)} {block seek_every : ℕ} {container : ContainerKind} {comments : Vec (Bor (List ℕ)) Global} {lax : Bool} {predictors : Option (Bor (List ℕ))} {effort : SearchEffort} {keep to_end : Bool} (profile : Profile) (words : List (Bor (List ℕ)))
    → j ≡ job.EncodeWave input output block seek_every container comments lax predictors effort keep to_end → profile ≡ profile_of lax → words ≡ comments.items
    → asked_for_wave j list ≡ Some (record { profile = profile; format = record { rate = 0; channels = 0; bits = 0; block = block; seek_every = seek_every }; container = container; words = map (λ w. w.now) words; list = list; effort = effort; any = true; keep = keep; to_end = to_end })
wave_asked_is j list {block = block} {seek_every = seek_every} {container = container} {comments = comments} {effort = effort} {keep = keep} {to_end = to_end} profile words is of same =
    ap (λ k. asked_for_wave k list) is ∙ ap (λ p. Some (record { profile = p; format = record { rate = 0; channels = 0; bits = 0; block = block; seek_every = seek_every }; container = container; words = map (λ w. w.now) comments.items; list = list; effort = effort; any = true; keep = keep; to_end = to_end })) (sym of)
    ∙ ap (λ ws. Some (record { profile = profile; format = record { rate = 0; channels = 0; bits = 0; block = block; seek_every = seek_every }; container = container; words = map (λ w. w.now) ws; list = list; effort = effort; any = true; keep = keep; to_end = to_end })) (sym same)

-- a job that encodes no WAV file
module _ (o : Option Asked) (none : o ≡ None) where
  pub none_wave : (bytes : List ℕ) (before after : List Bool) → HasEncodedWave o bytes before after
  none_wave bytes before after = subst (λ a. HasEncodedWave a bytes before after) (sym none) tt

  pub none_begun_wave : (bytes : List ℕ) (before after : List Bool) → HasBegunWave o bytes before after
  none_begun_wave bytes before after = subst (λ a. HasBegunWave a bytes before after) (sym none) tt

  pub none_kept : (bytes : List ℕ) → CanBeKept o bytes
  none_kept bytes = subst (λ a. CanBeKept a bytes) (sym none) tt

  pub none_wave_refused : (bytes : List ℕ) (files : Files) (status : ℕ) (before after : List ℕ) → ReportsWaveEncoding o bytes files status before after
  none_wave_refused bytes files status before after = subst (λ a. ReportsWaveEncoding a bytes files status before after) (sym none) tt

-- a count that rose is not as it was
pub rose : {X : Type 0} (a b : ℕ) → a < b → b ≡ a → X
rose a b more same = absurd (omega (arith, more, same))

pub at_most_one : (n : ℕ) → n ≡ 1 → n ≤ 1
at_most_one n is = omega (arith, is)

pub not_both : {X : Type 0} (n : ℕ) → n ≡ 1 → n ≡ 0 → X
not_both n one none = absurd (omega (arith, one, none))
