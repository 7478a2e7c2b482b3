-- What `flac decode` writes with `--from` or `--to`: a part of the inter-channel samples of a stream.
use Rattle.std.specs.Prelude.{◌≡◌, ◌≢◌, ◌⊎◌, ◌≤◌, ◌<◌, ℕ, ℤ, ◌+◌, ◌*◌, ◌-◌, ◌%◌, Bool, true, false, cond, not, ◌&&◌, nat_eq, nat_lt, List, [], ◌∷◌, ◌++◌, length, take, drop, codes, option_map, Option, Some, None, Result, Ok, Err, ⊤}
use Rattle.flac_bits.specs.Handing.{InputReading}
use Rattle.flac_bits.specs.State.{After}
use Rattle.flac_bits.specs.declared.source.Source as source
use Rattle.flac_bits.specs.declared.target.Target as target
use Rattle.flac_bits.specs.declared.why.Why.{Why}
use Rattle.flac_bits.specs.declared.why.Why.TheVariants as why
use Rattle.flac_info.specs.Info.{Info}
use Rattle.flac_meta.specs.declared.block.Block.{Block}
use Rattle.flac_meta.specs.declared.comments.Comments.{Comments}
use Rattle.flac_frame.specs.Frame.{Frame}
use Rattle.flac_native.specs.Item.{fault_pair}
use Rattle.flac_native.specs.Message.{sample_bytes, sample_width}
use Rattle.flac_native.specs.Places.{fault_text}
use Rattle.flac_native.specs.Stream.{Piece}
use Rattle.flac_native.specs.declared.fault.Place.{Place}
use Rattle.flac_reader.specs.Inputs.{any_input}
use Rattle.flac_reader.specs.Kept.{first_info, first_comments}
use Rattle.flac_reader.specs.Opening.{IsReadAs}
use Rattle.flac_reader.specs.Refusing.{IsRefusal}
use Rattle.flac_compare.specs.Samples.{samples_of}
use Rattle.flac_wave.specs.Format.{row_of}
use Rattle.flac_wave.specs.Plain.{plain_format, plain_head}
use Rattle.flac_wave.specs.declared.format.WaveFormat.{WaveFormat}
use Rattle.flac_cli.specs.Calls.{Passed, old_of, new_of, IfAllServe}
use Rattle.flac_cli.specs.Outcomes.{reason_text}
use Rattle.flac_cli.specs.Reports.{fault_line}
use Rattle.flac_cli.specs.Speakers.{mask_in}
use Rattle.flac_cli.specs.Streams.{profile_of, Tells}
use Rattle.flac_cli.specs.Waves.{file_samples}
use Rattle.flac_cli.specs.declared.excerpt.RangeFault.{RangeFault}
use Rattle.flac_cli.specs.declared.excerpt.RangeFault.TheVariants as range
use Rattle.flac_cli.specs.declared.excerpt.ExcerptFault.{ExcerptFault}
use Rattle.flac_cli.specs.declared.excerpt.ExcerptFault.TheVariants.{Unread, Range, Write}
use Rattle.flac_jobs.specs.Moments.{sample_at}
use Rattle.flac_jobs.specs.declared.excerpts.Excerpt.{Excerpt}
use Rattle.flac_jobs.specs.declared.excerpts.Moment.{Moment}

-- ---- a part of some inter-channel samples

-- those from the one of this number on, the first is 0, up to another one, which is not among them, or to the end
abbrev pub part_of : (from : ℕ) (to : Option ℕ) → List (List ℤ) → List (List ℤ)
part_of from None rows = drop from rows
part_of from (Some to) rows = take (to - from) (drop from rows)

-- how many there have to be for it: one up to the end has one at least
abbrev pub last_of : (from : ℕ) (to : Option ℕ) → ℕ
last_of from None = from + 1
last_of from (Some to) = to

-- inter-channel samples as bytes: one after another, channel by channel, each sample in `width` bytes, the lowest first
unfoldable pub row_text : (width : ℕ) → List ℤ → List ℕ
row_text width [] = []
row_text width (x ∷ xs) = sample_bytes width x ++ row_text width xs

unfoldable pub rows_text : (width : ℕ) → List (List ℤ) → List ℕ
rows_text width [] = []
rows_text width (r ∷ rs) = row_text width r ++ rows_text width rs

-- ---- files

-- the samples of a file, each in as many bytes as hold the bits of a sample: raw, or as a WAV file has them
abbrev pub samples_text : (wave : Bool) (depth : ℕ) → List (List ℤ) → List ℕ
samples_text false depth rows = rows_text (sample_width depth) rows
samples_text true depth rows = file_samples (sample_width depth) depth (rows_text (sample_width depth) rows)

-- a format for these speakers, if there are some
abbrev pub with_speakers : WaveFormat → (mask : Option ℕ) → WaveFormat
with_speakers f None = f
with_speakers f (Some mask) = record f { mask = Some mask }

-- the speakers that comments state, if there are comments
abbrev pub speakers_in : Option Comments → Option ℕ
speakers_in None = None
speakers_in (Some comments) = mask_in comments.list

-- the format of the WAV file: that of STREAMINFO, for those speakers
abbrev pub format_for : Info → Option Comments → WaveFormat
format_for info comments = with_speakers (plain_format info.rate info.channels info.depth) (speakers_in comments)

-- How many inter-channel samples its head states: those of the part; 0, for which it states no length, if their number
-- is not known, or 2^36 or more, which no stream has.
abbrev pub stated_length : (from : ℕ) (to : Option ℕ) (total : ℕ) → ℕ
stated_length from None total = total - from
stated_length from (Some to) total = cond (nat_lt (to - from) 68719476736) (to - from) 0

-- the zero after samples of this many bytes, if they are odd
abbrev pub zero_after : ℕ → List ℕ
zero_after n = cond (nat_eq (n % 2) 0) [] (0 ∷ [])

-- the file of these samples: raw; or a plain WAV file, its head, the samples, and a zero if they are of odd length
abbrev pub file_text : (wave : Bool) → Info → Option Comments → (total : ℕ) → (rows : List (List ℤ)) → List ℕ
file_text false info comments total rows = samples_text false info.depth rows
file_text true info comments total rows = plain_head (format_for info comments) total ++ (samples_text true info.depth rows ++ zero_after (total * row_of (format_for info comments)))

-- ---- a part of a stream

-- no sample is asked for
abbrev pub is_empty : (from : ℕ) (to : Option ℕ) → Bool
is_empty from None = false
is_empty from (Some to) = not (nat_lt from to)

-- the part ends after the last sample, if STREAMINFO states how many there are (RFC 9639, section 8.2)
abbrev pub is_beyond : (from : ℕ) (to : Option ℕ) → (total : ℕ) → Bool
is_beyond from to total = not (nat_eq total 0) && nat_lt total (last_of from to)

-- why such a part is asked of no stream with this number of samples
abbrev pub range_fault : (from : ℕ) (to : Option ℕ) → (total : ℕ) → Option RangeFault
range_fault from to total = cond (is_empty from to) (Some range.Empty) (cond (is_beyond from to total) (Some range.End) None)

-- the stream need not be whole, or it is
abbrev pub IsWholeFor : (to : Option ℕ) → (end : Option (Place × Why)) → Type 0
IsWholeFor None end = end ≡ None
IsWholeFor (Some to) end = ⊤

-- there are fewer samples than the part needs; one up to the end needs all
abbrev pub IsShortOf : (to : Option ℕ) → List (List ℤ) → Type 0
IsShortOf None rows = ⊤
IsShortOf (Some to) rows = length rows < to

-- What is said of a part of a stream with this STREAMINFO, these comments, these inter-channel samples, and then this
-- end, which is a refusal or none: exactly the file of the part was added; why it is no part of the stream; or at what
-- the stream is refused before the end of the part, unless memory ran out. Nothing is said if the file could not be
-- written.
abbrev pub SaysPart : (wave : Bool) → Info → Option Comments → (from : ℕ) (to : Option ℕ) → (rows : List (List ℤ)) (end : Option (Place × Why)) → (before after : List ℕ) → Result ⊤ ExcerptFault → Type 0
SaysPart wave info comments from to rows end before after (Ok done) =
    (range_fault from to info.total ≡ None) × (last_of from to ≤ length rows) × IsWholeFor to end
    × (after ≡ before ++ file_text wave info comments (stated_length from to info.total) (part_of from to rows))
SaysPart wave info comments from to rows end before after (Err (Range r)) =
    (range_fault from to info.total ≡ Some r) ⊎ ((range_fault from to info.total ≡ None) × (r ≡ range.End) × (end ≡ None) × (length rows < last_of from to))
SaysPart wave info comments from to rows end before after (Err (Unread f)) = f.why ≢ why.Memory → (end ≡ Some (fault_pair f)) × IsShortOf to rows
SaysPart wave info comments from to rows end before after (Err Write) = ⊤

-- ---- what is asked for

-- the number of the first sample, and that of the one after the last, if it is given, by the rate that STREAMINFO
-- states
abbrev pub start_of : Moment → Info → ℕ
start_of from info = sample_at from info.rate

abbrev pub stop_of : Option Moment → Info → Option ℕ
stop_of to info = option_map (λ m. sample_at m info.rate) to

-- the same of the part that is asked for
abbrev pub SaysAsked : Excerpt → (blocks : List Block) (frames : List Frame) (end : Option (Place × Why)) → (before after : List ℕ) → Result ⊤ ExcerptFault → Type 0
SaysAsked e blocks frames end before after result = (info : Info) × (first_info blocks ≡ Some info) × SaysPart e.wave info (first_comments blocks) (start_of e.from info) (stop_of e.to info) (samples_of frames) end before after result

-- What is said of a stream of these blocks and frames, and this end: that; or it is refused before its first frame.
abbrev pub SaysStream : Excerpt → (blocks : List Block) (frames : List Frame) (end : Option (Place × Why)) → (before after : List ℕ) → Result ⊤ ExcerptFault → Type 0
SaysStream e blocks frames end before after (Err (Unread f)) = f.why ≢ why.Memory → IsRefusal blocks frames end f ⊎ SaysAsked e blocks frames end before after (Err (Unread f))
SaysStream e blocks frames end before after other = SaysAsked e blocks frames end before after other

-- the bytes of a source as the stream that is asked for, native or Ogg
abbrev pub excerpt_input : Excerpt → (bytes : List ℕ) → After → InputReading Piece Place
excerpt_input e bytes follows = any_input (profile_of e.lax) bytes follows

-- The input is read as blocks and frames up to its end, or up to its first fault, which may be after the part; exactly
-- the file of those of their samples that are asked for was added.
pub record HasDecoded (e : Excerpt) (r : InputReading Piece Place) (before after : List ℕ) : Type 0 where
  pub blocks : List Block
  pub frames : List Frame
  pub end : Option (Place × Why)
  pub read : IsReadAs r blocks frames end
  pub says : SaysAsked e blocks frames end before after (Ok tt)

-- The same of a source that did not fail, and of a target whose bytes are known.
abbrev pub DecodesPart : {S T : Type 0} (g : source.Ghosts S) (h : target.Ghosts T) → Excerpt → (from to : S) (old new : T) → Type 0
DecodesPart g h e from to old new = Tells g from to → h.known old ≡ true → HasDecoded e (excerpt_input e (g.coming from) (g.after from)) (h.sent old) (h.sent new)

-- ---- reports

abbrev pub range_text : RangeFault → List ℕ
range_text range.Empty = codes "73 EmptyRange"
range_text range.End = codes "74 RangeEnd"

-- the path of the file at fault, and the reason as it is printed
abbrev pub excerpt_path : Excerpt → ExcerptFault → List ℕ
excerpt_path e Write = e.output.now
excerpt_path e other = e.input.now

abbrev pub excerpt_text : ExcerptFault → List ℕ
excerpt_text (Unread f) = fault_text f
excerpt_text (Range r) = range_text r
excerpt_text Write = reason_text None why.Write

-- The status, and what was added to standard error: 0 and nothing, or 1 and the line of the fault.
abbrev pub IsExcerptAnswer : Excerpt → Result ⊤ ExcerptFault → (status : ℕ) → (told later : List ℕ) → Type 0
IsExcerptAnswer e (Ok done) status told later = (status ≡ 0) × (later ≡ told)
IsExcerptAnswer e (Err fault) status told later = (status ≡ 1) × (later ≡ told ++ fault_line (excerpt_path e fault) (excerpt_text fault))

-- They are those of what the input is, whose file could be written.
pub record ReportsExcerpt (e : Excerpt) (r : InputReading Piece Place) (before after : List ℕ) (status : ℕ) (told later : List ℕ) : Type 0 where
  pub blocks : List Block
  pub frames : List Frame
  pub end : Option (Place × Why)
  pub read : IsReadAs r blocks frames end
  pub result : Result ⊤ ExcerptFault
  pub says : SaysStream e blocks frames end before after result
  pub written : result ≢ Err Write
  pub answer : IsExcerptAnswer e result status told later

-- the same, in the order in which calls name it
abbrev pub ReportsDecoding : Excerpt → (before after : List ℕ) → (status : ℕ) → List ℕ → After → (told later : List ℕ) → Type 0
ReportsDecoding e before after status bytes follows told later = ReportsExcerpt e (excerpt_input e bytes follows) before after status told later

-- the same of devices, if none of them failed
abbrev pub ReportsPart : {S T E : Type 0} (g : source.Ghosts S) (h : target.Ghosts T) (k : target.Ghosts E) → Excerpt → (status : ℕ) → Passed S → Passed T → Passed E → Type 0
ReportsPart g h k e status source target err = IfAllServe g h k source target err (ReportsDecoding e (h.sent (old_of target)) (h.sent (new_of target)) status)

-- the line of an excerpt that failed, of the file at fault
abbrev pub NamesExcerpt : Excerpt → (told later : List ℕ) → Type 0
NamesExcerpt e told later = (fault : ExcerptFault) × (later ≡ told ++ fault_line (excerpt_path e fault) (excerpt_text fault))
