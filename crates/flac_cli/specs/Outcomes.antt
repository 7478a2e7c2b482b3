-- What the program reports of a job that reads a stream, native or Ogg.
use Rattle.std.specs.Prelude.{◌≡◌, ◌⊎◌, ◌≤◌, ◌<◌, true, ℕ, List, [], ◌++◌, map, codes, Option, Some, None, Result, OnOk}
use Rattle.flac_bits.specs.Bits.{bits_of}
use Rattle.flac_bits.specs.Handing.{InputReading}
use Rattle.flac_bits.specs.Reasons as reasons
use Rattle.flac_bits.specs.Forms.{AreBytes}
use Rattle.flac_bits.specs.State.{After, short_of, the_end}
use Rattle.flac_bits.specs.declared.source.Source as source
use Rattle.flac_bits.specs.declared.target.Target as target
use Rattle.flac_bits.specs.declared.why.Why.{Why}
use Rattle.flac_bits.specs.declared.why.Why.TheVariants as why
use Rattle.flac_meta.specs.Spelling.{comments_length}
use Rattle.flac_header.specs.declared.subset.Profile.{Profile}
use Rattle.flac_native.specs.Decoding.{beginning}
use Rattle.flac_native.specs.Places.{fault_text}
use Rattle.flac_native.specs.Retag.{HasHead, IsRefused}
use Rattle.flac_native.specs.Stream.{Piece}
use Rattle.flac_native.specs.declared.fault.Place.{Place}
use Rattle.flac_ogg.specs.Either.{begins_page, read_any}
use Rattle.flac_cli.specs.Asked.{Asked}
use Rattle.flac_cli.specs.Calls.{Passed, HasServed, IfBothServe, IfAllServe}
use Rattle.flac_cli.specs.Encoded.{comments_of}
use Rattle.flac_cli.specs.Reports.{fault_line}
use Rattle.flac_cli.specs.Streams.{profile_of, Tells}
use Rattle.flac_cli.specs.Waves.{kept_fault, wave_in, EncodesWave}
use Rattle.flac_cli.specs.declared.held_wave.KeptFault.{KeptFault}
use Rattle.flac_cli.specs.declared.held_wave.KeptFault.TheVariants as kept
use Rattle.flac_jobs.specs.declared.jobs.Job.{Job}
use Rattle.flac_jobs.specs.declared.jobs.Job.TheVariants as job

-- ---- what is reported

-- nothing, or the place of a refusal, if it has one, and its reason
abbrev pub Outcome : Type 0
Outcome = Option (Option Place × Why)

-- the number and the name of a reason, as a fault at this place is printed
abbrev pub reason_text : Option Place → Why → List ℕ
reason_text None why = reasons.text_of why
reason_text (Some at) why = fault_text (record { at = at; why = why })

-- The status, and what was added to standard error: 0 and nothing, or 1 and the line of the place and the reason.
abbrev pub IsAnswer : Outcome → (path : List ℕ) → (status : ℕ) → (before after : List ℕ) → Type 0
IsAnswer None path status before after = (status ≡ 0) × (after ≡ before)
IsAnswer (Some f) path status before after = (status ≡ 1) × (after ≡ before ++ fault_line path (reason_text f.0 f.1))

-- ---- what an input is

-- how an input is read: as an Ogg stream if its first byte is that of a page, else as a native one
abbrev pub input_reading : Profile → List ℕ → After → InputReading Piece Place
input_reading profile bytes after = read_any profile (begins_page bytes) (beginning (short_of after.fails)) (bits_of bytes)

-- the bytes that the source has to give are read as parts of which this holds
abbrev pub IsReadAs : {S : Type 0} (g : source.Ghosts S) → Profile → S → (List Piece → Type 0) → Type 0
IsReadAs g profile s Says = (parts : List Piece) × (input_reading profile (g.coming s) (g.after s)).whole parts × Says parts

-- If the source did not fail, and the bytes of the target are known: the source's bytes are read as parts, of which the
-- target was sent exactly this text.
abbrev pub SendsOfReading : {S T : Type 0} (g : source.Ghosts S) (h : target.Ghosts T) → Profile → (text : List Piece → List ℕ) → (from to : S) (old new : T) → Type 0
SendsOfReading g h profile text from to old new = Tells g from to → h.known old ≡ true → IsReadAs g profile from (λ parts. h.sent new ≡ h.sent old ++ text parts)

-- the same of a call that returned Ok
abbrev pub HasSentOfReading : {S T X E : Type 0} (g : source.Ghosts S) (h : target.Ghosts T) → Profile → (text : List Piece → List ℕ) → (from to : S) (old new : T) → Result X E → Type 0
HasSentOfReading g h profile text from to old new result = Tells g from to → h.known old ≡ true → OnOk result (IsReadAs g profile from (λ parts. h.sent new ≡ h.sent old ++ text parts))

-- The same of a decoding to a WAV file: the target was sent exactly the WAV file of the stream.
abbrev pub SendsWave : {S T : Type 0} (g : source.Ghosts S) (h : target.Ghosts T) → Profile → (from to : S) (old new : T) → Type 0
SendsWave g h profile from to old new = SendsOfReading g h profile wave_in from to old new

-- it is a stream, or is refused at this place and for this reason
abbrev pub Reads : Profile → List ℕ → After → Outcome → Type 0
Reads profile bytes after None = (items : List Piece) × (input_reading profile bytes after).whole items
Reads profile bytes after (Some f) = (at : Place) × (f.0 ≡ Some at) × ((items : List Piece) × (input_reading profile bytes after).refused items at f.1)

-- These words are too long for a block of comments, or else the input begins with a marker and blocks, or its marker or
-- a block is refused at this place and for this reason.
abbrev pub IsRetagged : (words : List (List ℕ)) → List ℕ → After → Outcome → Type 0
IsRetagged words bytes after None = (comments_length (comments_of words) ≤ 16777215) × HasHead (beginning (short_of after.fails)) (bits_of bytes)
IsRetagged words bytes after (Some f) =
    ((16777215 < comments_length (comments_of words)) × (f.0 ≡ None) × (f.1 ≡ why.BlockLength))
    ⊎ ((comments_length (comments_of words) ≤ 16777215) × ((at : Place) × (f.0 ≡ Some at) × IsRefused (beginning (short_of after.fails)) (bits_of bytes) at f.1))

-- ---- what no input shows

-- memory ran out at some place
abbrev pub IsOutOfMemory : Outcome → Type 0
IsOutOfMemory outcome = (at : Place) × (outcome ≡ Some (Some at, why.Memory))

-- memory ran out, at some place or before anything was read
abbrev pub IsRetagOutOfMemory : Outcome → Type 0
IsRetagOutOfMemory outcome = (at : Option Place) × (outcome ≡ Some (at, why.Memory))

-- memory ran out at some place; or, which is so only if standard output failed, a block could not be listed: `printed`
-- says that standard output did not fail
abbrev pub IsUnlisted : (printed : Type 0) → Outcome → Type 0
IsUnlisted printed outcome = IsOutOfMemory outcome ⊎ ((printed → ⊥) × ((at : Place) × (outcome ≡ Some (Some at, why.Sink))))

-- ---- both ways

-- What was reported is what the input is, and what the input is was reported, unless the outcome is one that no input
-- shows.
pub record Fits {O : Type 0} (outside is : O → Type 0) (outcome : O) : Type 0 where
  pub right : outside outcome ⊎ is outcome
  pub each : (other : O) → is other → outside outcome ⊎ (outcome ≡ other)

-- The status and the line are those of such an outcome.
pub record Reports (outside is : Outcome → Type 0) (path : List ℕ) (status : ℕ) (before after : List ℕ) : Type 0 where
  pub outcome : Outcome
  pub answer : IsAnswer outcome path status before after
  pub fits : Fits outside is outcome

-- The same, in the order in which calls name what they were given and what they returned: of a stream that is read
-- whole; of one whose blocks are listed, which `printed` says could be; and of one that gets these words as comments.
abbrev pub ReportsStream : Profile → (path : List ℕ) → (status : ℕ) → List ℕ → After → (before later : List ℕ) → Type 0
ReportsStream profile path status bytes after before later = Reports IsOutOfMemory (Reads profile bytes after) path status before later

abbrev pub ReportsListing : (printed : Type 0) → Profile → (path : List ℕ) → (status : ℕ) → List ℕ → After → (before later : List ℕ) → Type 0
ReportsListing printed profile path status bytes after before later = Reports (IsUnlisted printed) (Reads profile bytes after) path status before later

abbrev pub ReportsRetagging : (words : List (List ℕ)) → (path : List ℕ) → (status : ℕ) → List ℕ → After → (before later : List ℕ) → Type 0
ReportsRetagging words path status bytes after before later = Reports IsRetagOutOfMemory (IsRetagged words bytes after) path status before later

-- the same of devices: the line was added to standard error, if none of them failed
abbrev pub ReportsRead : {S T E : Type 0} (g : source.Ghosts S) (h : target.Ghosts T) (k : target.Ghosts E) → Profile → (path : List ℕ) → (status : ℕ) → Passed S → Passed T → Passed E → Type 0
ReportsRead g h k profile path status source target err = IfAllServe g h k source target err (ReportsStream profile path status)

-- if the source and standard error did not
abbrev pub ReportsListed : {S T E : Type 0} (g : source.Ghosts S) (h : target.Ghosts T) (k : target.Ghosts E) → Profile → (path : List ℕ) → (status : ℕ) → Passed S → Passed T → Passed E → Type 0
ReportsListed g h k profile path status source out err = IfBothServe g k source err (ReportsListing (HasServed h out) profile path status)

-- ---- decoding to a WAV file

-- What is reported: of the stream, or why there is no WAV file of its samples.
pub data WaveOutcome : Type 0 where
  streamed : Outcome → WaveOutcome
  unkept : KeptFault → WaveOutcome

-- The input is a stream that becomes a WAV file; or a stream that becomes none, for this reason; or it is refused at
-- this place and for this reason.
abbrev pub ReadsWave : Profile → List ℕ → After → WaveOutcome → Type 0
ReadsWave profile bytes after (streamed None) = (items : List Piece) × (input_reading profile bytes after).whole items × (kept_fault items ≡ None)
ReadsWave profile bytes after (streamed (Some f)) = Reads profile bytes after (Some f)
ReadsWave profile bytes after (unkept fault) = (items : List Piece) × (input_reading profile bytes after).whole items × (kept_fault items ≡ Some fault)

-- memory ran out at some place
abbrev pub IsWaveOutOfMemory : WaveOutcome → Type 0
IsWaveOutOfMemory outcome = (at : Place) × (outcome ≡ streamed (Some (Some at, why.Memory)))

-- the number and the name
abbrev pub text_of_kept : KeptFault → List ℕ
text_of_kept kept.OtherBits = codes "72 OtherBits"

abbrev pub IsWaveAnswer : WaveOutcome → (path : List ℕ) → (status : ℕ) → (before after : List ℕ) → Type 0
IsWaveAnswer (streamed outcome) path status before after = IsAnswer outcome path status before after
IsWaveAnswer (unkept fault) path status before after = (status ≡ 1) × (after ≡ before ++ fault_line path (text_of_kept fault))

-- The status and the line are those of what the input is; or memory ran out: then the line says that.
pub record ReportsWaveDecoding (profile : Profile) (bytes : List ℕ) (after : After) (path : List ℕ) (status : ℕ) (before later : List ℕ) : Type 0 where
  pub outcome : WaveOutcome
  pub answer : IsWaveAnswer outcome path status before later
  pub fits : Fits IsWaveOutOfMemory (ReadsWave profile bytes after) outcome

-- the same, in the order in which calls name it
abbrev pub ReportsWave : Profile → (path : List ℕ) → (status : ℕ) → List ℕ → After → (before later : List ℕ) → Type 0
ReportsWave profile path status bytes after before later = ReportsWaveDecoding profile bytes after path status before later

abbrev pub ReportsReadWave : {S T E : Type 0} (g : source.Ghosts S) (h : target.Ghosts T) (k : target.Ghosts E) → Profile → (path : List ℕ) → (status : ℕ) → Passed S → Passed T → Passed E → Type 0
ReportsReadWave g h k profile path status source target err = IfAllServe g h k source target err (ReportsWave profile path status)

-- The bytes of a stream that was encoded of a WAV file and keeps it are a stream that becomes a WAV file.
abbrev pub KeptFilesAreRead : Type 0
KeptFilesAreRead = (asked : Asked) (bytes stream : List ℕ) → asked.keep ≡ true → AreBytes stream → EncodesWave asked bytes [] (bits_of stream) → ReadsWave asked.profile stream the_end (streamed None)

-- So what is reported of decoding them, in the same profile, is that this is done, or that memory ran out at some
-- place.
abbrev pub KeptFilesAreDecoded : Type 0
KeptFilesAreDecoded =
    (asked : Asked) (bytes stream : List ℕ) → asked.keep ≡ true → AreBytes stream → EncodesWave asked bytes [] (bits_of stream)
    → (path : List ℕ) (status : ℕ) (before after : List ℕ) → ReportsWaveDecoding asked.profile stream the_end path status before after
    → ((status ≡ 0) × (after ≡ before)) ⊎ ((at : Place) × (status ≡ 1) × (after ≡ before ++ fault_line path (fault_text (record { at = at; why = why.Memory }))))

-- ---- each job

-- This holds for each job that reads a stream. Decoding and retagging write to the target, of which `served` says that
-- it did not fail, and a test prints to standard output, of which `printed` says so. Listing prints too, and of its
-- text nothing is claimed.
abbrev pub ReportsInput : Job → (bytes : List ℕ) → After → (served printed : Type 0) → (status : ℕ) → (before later : List ℕ) → Type 0
ReportsInput (job.Test input lax) bytes after served printed status before later = printed → Reports IsOutOfMemory (Reads (profile_of lax) bytes after) input.now status before later
ReportsInput (job.Decode input output lax) bytes after served printed status before later = served → Reports IsOutOfMemory (Reads (profile_of lax) bytes after) input.now status before later
ReportsInput (job.List input lax) bytes after served printed status before later = Reports (IsUnlisted printed) (Reads (profile_of lax) bytes after) input.now status before later
ReportsInput (job.Encode input output format c comments lax predictors effort raw) bytes after served printed status before later = Unit {0}
ReportsInput (job.DecodeWave input output lax) bytes after served printed status before later = served → ReportsWaveDecoding (profile_of lax) bytes after input.now status before later
ReportsInput (job.EncodeWave input output block seek_every c comments lax predictors effort keep to_end) bytes after served printed status before later = Unit {0}
ReportsInput (job.Retag input output comments) bytes after served printed status before later =
    served → Reports IsRetagOutOfMemory (IsRetagged (map (λ c. c.now) comments.items) bytes after) input.now status before later

-- the same, in the order in which calls name it
abbrev pub ReportsJob : Job → (served printed : Type 0) → (status : ℕ) → List ℕ → After → (before later : List ℕ) → Type 0
ReportsJob j served printed status bytes after before later = ReportsInput j bytes after served printed status before later
