-- What an iterator over samples still has to return, and what one call of it returns.
use Rattle.std.specs.Prelude.{◌≡◌, ◌≢◌, ◌<◌, ◌⊎◌, ℕ, ◌+◌, min, cond, ℤ, List, [], ◌∷◌, ◌++◌, length, Option, Some, None, Result, Ok, Err, IfOk, IfErr, MatchResult, IfSome}
use Rattle.flac_bits.specs.declared.why.Why.{Why}
use Rattle.flac_bits.specs.declared.why.Why.TheVariants.{Memory}
use Rattle.flac_frame.specs.Frame.{Frame}
use Rattle.flac_native.specs.Giving.{stage_of}
use Rattle.flac_native.specs.declared.fault.Place.{Place}
use Rattle.flac_native.specs.declared.fault.Place.TheVariants as place
use Rattle.flac_native.specs.declared.fault.Fault.{Fault}
use Rattle.flac_native.specs.declared.container.Container as container
use Rattle.flac_reader.specs.Coming.{FramesCome, IsCalm, IsPast, HadMemory, Counted, size_of}
use Rattle.flac_reader.specs.Giving.{last_frame}
use Rattle.flac_reader.specs.Places.{all_samples, left_at, is_over}
use Rattle.flac_reader.specs.declared.reader.Reader.{Reader}
use Rattle.flac_reader.specs.declared.samples.Samples.{Samples}
use Rattle.flac_reader.specs.declared.spot.Spot.{Spot}
use Rattle.flac_reader.specs.declared.spot.Spot.TheVariants as spot

-- ---- what is still to come

-- these samples come: those that are left of one frame, and those of the frames that a reader still has to return, and
-- then this end
pub record SamplesLeft {C : Type 0} {g : container.Ghosts C} (reader : Reader C g) (first : List ℤ) (samples : List ℤ) (end : Option (Place × Why)) : Type 0 where
  pub frames : List Frame
  pub split : samples ≡ first ++ all_samples frames
  pub come : FramesCome g reader.ahead (stage_of reader.decoder) frames end

-- after the end, and after a refusal, nothing is left, and no further refusal
abbrev pub ComeAfter : {C : Type 0} {g : container.Ghosts C} → Spot → Reader C g → List ℤ → Option (Place × Why) → Type 0
ComeAfter spot.Over reader samples end = (samples ≡ []) × (end ≡ None)
ComeAfter spot.Next reader samples end = SamplesLeft reader [] samples end
ComeAfter (spot.Inside channel index) reader samples end = SamplesLeft reader (left_at (spot.Inside channel index) (last_frame reader)) samples end

abbrev pub SamplesCome : {C : Type 0} {g : container.Ghosts C} → Samples C g → List ℤ → Option (Place × Why) → Type 0
SamplesCome s samples end = ComeAfter s.spot s.reader samples end

-- a reader was made an iterator over the samples of the frames that it still has to return
abbrev pub SamplesOf : {C : Type 0} {g : container.Ghosts C} → Reader C g → Samples C g → Type 0
SamplesOf {g = g} reader s = (frames : List Frame) (end : Option (Place × Why)) → FramesCome g reader.ahead (stage_of reader.decoder) frames end → SamplesCome s (all_samples frames) end

-- ---- what a call returns

-- the call returned the first of these samples, or else the end or the refusal, which is returned once
abbrev pub IsFirstSample : {C : Type 0} {g : container.Ghosts C} → List ℤ → Option (Place × Why) → Result (Option ℤ) Fault → Samples C g → Type 0
IsFirstSample [] None answer s = (answer ≡ Ok None) × SamplesCome s [] None
IsFirstSample [] (Some f) answer s = (answer ≡ Err (record { at = f.0; why = f.1 })) × SamplesCome s [] None
IsFirstSample (x ∷ xs) end answer s = (answer ≡ Ok (Some x)) × SamplesCome s xs end

-- how many calls may still return something, at most
abbrev pub calls_left : Spot → ℕ → ℕ
calls_left at left = cond (is_over at) 0 (left + 1)

-- ---- which frames a call reads

-- the number of samples of each channel after these frames, the last of them first here; it stops at 2^64 - 1
unfoldable pub count_after : ℕ → List Frame → ℕ
count_after n [] = n
count_after n (f ∷ fs) = min (count_after n fs + f.size) 18446744073709551615

-- the number of the first sample of the last of them
abbrev pub first_after : (first n : ℕ) → List Frame → ℕ
first_after first n [] = first
first_after first n (f ∷ fs) = count_after n fs

-- It read none, and this many steps fewer are left.
pub record Stays {C : Type 0} {g : container.Ghosts C} (old new : Samples C g) (steps : ℕ) : Type 0 where
  pub reader : new.reader ≡ old.reader
  pub left : old.left ≡ new.left + steps

-- It read these, which have no samples, the last of them first here, and then one more, or the end.
pub record Enters {C : Type 0} {g : container.Ghosts C} (old new : Samples C g) (passed : List Frame) (steps : ℕ) : Type 0 where
  pub empty : all_samples passed ≡ []
  pub first : new.reader.first ≡ count_after old.reader.after passed
  pub next : new.reader.after ≡ min (new.reader.first + size_of (last_frame new.reader)) 18446744073709551615
  pub left : old.left ≡ new.left + length passed + 1 + steps

-- one of both: a step for each frame, and so many more
abbrev pub Steps : {C : Type 0} {g : container.Ghosts C} → Samples C g → Samples C g → ℕ → Type 0
Steps old new steps = Stays old new steps ⊎ ((passed : List Frame) × Enters old new passed steps)

-- It read these, which have no samples, the last of them first here, and the next one was refused, or the end.
pub record Stops {C : Type 0} {g : container.Ghosts C} (old new : Samples C g) (passed : List Frame) (f : Fault) : Type 0 where
  pub empty : all_samples passed ≡ []
  pub first : new.reader.first ≡ first_after old.reader.first old.reader.after passed
  pub next : new.reader.after ≡ count_after old.reader.after passed
  pub memory : IsPast (stage_of old.reader.decoder) → f.why ≢ Memory

-- no step was left
pub record RunsOut {C : Type 0} {g : container.Ghosts C} (old new : Samples C g) (f : Fault) : Type 0 where
  pub fault : f ≡ record { at = place.Frame 18446744073709551615; why = Memory }
  pub none : new.left ≡ 0
  pub steps : Steps old new 0

-- A sample takes a step; so does each frame, and the end.
abbrev pub Reads : {C : Type 0} {g : container.Ghosts C} → Samples C g → Samples C g → Result (Option ℤ) Fault → Type 0
Reads old new (Ok (Some x)) = Steps old new 1
Reads old new (Ok None) = Steps old new 0
Reads old new (Err f) = ((passed : List Frame) × Stops old new passed f) ⊎ RunsOut old new f

-- The call returned the first sample of those that were to come, and left the others. The metadata stays.
pub record GivesSample {C : Type 0} {g : container.Ghosts C} (old new : Samples C g) (answer : Result (Option ℤ) Fault) : Type 0 where
  pub sample : IsCalm g (stage_of old.reader.decoder) (stage_of new.reader.decoder) → HadMemory answer → (samples : List ℤ) (end : Option (Place × Why)) → SamplesCome old samples end → IsFirstSample samples end answer new
  pub counts : Counted g (stage_of old.reader.decoder) (stage_of new.reader.decoder) answer
  -- the numbers of the first sample and of the next, and the steps, fall and rise by the frames that it read
  pub reads : Reads old new answer
  pub past : IsPast (stage_of old.reader.decoder) → IfOk answer (λ o. IfSome o (λ _. IsPast (stage_of new.reader.decoder)))
  -- after the end, and after any error, it returns that nothing is left, and stays so
  pub ended : answer ≡ Ok None → new.spot ≡ spot.Over
  pub spent : IfErr answer (λ _. new.spot ≡ spot.Over)
  pub over : old.spot ≡ spot.Over → (answer ≡ Ok None) × (new ≡ old)
  -- each call that returns something brings it nearer to the end
  pub nearer : MatchResult answer (λ o. IfSome o (λ _. calls_left new.spot new.left < calls_left old.spot old.left)) (λ _. calls_left new.spot new.left < calls_left old.spot old.left)
  pub blocks : new.reader.blocks ≡ old.reader.blocks
  pub info : new.reader.info ≡ old.reader.info
  pub start : new.reader.start ≡ old.reader.start

-- an item of an iterator as the result of a call
abbrev pub turned : Option (Result ℤ Fault) → Result (Option ℤ) Fault
turned None = Ok None
turned (Some (Ok x)) = Ok (Some x)
turned (Some (Err f)) = Err f
