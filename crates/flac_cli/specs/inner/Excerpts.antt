-- For proofs of excerpts: what is still wanted of the samples that come.
use Rattle.std.specs.Prelude.{◌≡◌, ◌≢◌, ◌≤◌, ◌<◌, ℕ, ◌+◌, ◌-◌, min, Bool, true, false, cond, not, ◌&&◌, nat_eq, nat_lt, ℤ, List, [], ◌++◌, length, take, drop, is_none, Option, Some, None, Result, Ok, Err, ⊤}
use Rattle.flac_bits.specs.Handing.{InputReading}
use Rattle.flac_bits.specs.declared.why.Why.{Why}
use Rattle.flac_bits.specs.declared.why.Why.TheVariants as why
use Rattle.flac_bits.specs.declared.source.Source as source
use Rattle.flac_bits.specs.declared.target.Target as target
use Rattle.flac_info.specs.Info.{Info}
use Rattle.flac_meta.specs.declared.block.Block.{Block}
use Rattle.flac_frame.specs.Frame.{Frame}
use Rattle.flac_native.specs.Item.{fault_pair}
use Rattle.flac_native.specs.Message.{sample_width}
use Rattle.flac_native.specs.Stream.{Piece}
use Rattle.flac_native.specs.declared.fault.Place.{Place}
use Rattle.flac_native.specs.declared.container.Container as container
use Rattle.flac_reader.specs.Kept.{first_comments}
use Rattle.flac_reader.specs.Opening.{IsReadAs}
use Rattle.flac_reader.specs.declared.reader.Reader.{Reader}
use Rattle.flac_compare.specs.Samples.{samples_from}
use Rattle.flac_compare.specs.inner.Stepping.{SamplesLeft, IsCalmIn, IsKnown}
use Rattle.flac_cli.specs.Excerpts.{last_of, file_text, samples_text, range_fault, start_of, stop_of, excerpt_input, SaysPart, SaysStream}
use Rattle.flac_cli.specs.Streams.{Tells}
use Rattle.flac_cli.specs.Waves.{file_samples}
use Rattle.flac_cli.specs.declared.excerpt.Span.{Span}
use Rattle.flac_cli.specs.declared.excerpt.Cut.{Cut}
use Rattle.flac_cli.specs.declared.excerpt.Form.{Form}
use Rattle.flac_cli.specs.declared.excerpt.RangeFault.{RangeFault}
use Rattle.flac_cli.specs.declared.excerpt.RangeFault.TheVariants as range
use Rattle.flac_cli.specs.declared.excerpt.ExcerptFault.{ExcerptFault}
use Rattle.flac_cli.specs.declared.excerpt.ExcerptFault.TheVariants.{Unread, Range, Write}
use Rattle.flac_jobs.specs.declared.excerpts.Excerpt.{Excerpt}
use Rattle.flac_jobs.specs.declared.excerpts.Moment.{Moment}

-- ---- a span

-- all, or the first n
abbrev pub first_of : (unbounded : Bool) (n : ℕ) → List (List ℤ) → List (List ℤ)
first_of true n rows = rows
first_of false n rows = take n rows

-- those of the span
abbrev pub wanted : Span → List (List ℤ) → List (List ℤ)
wanted s rows = first_of s.unbounded s.least (drop s.skip rows)

-- how many there have to be
abbrev pub needs : Span → ℕ
needs s = s.skip + s.least

-- whether a part goes up to the end, and how many it has at least
abbrev pub least_of : (from : ℕ) (to : Option ℕ) → ℕ
least_of from None = 1
least_of from (Some to) = to - from

-- this is the span of a part
pub record IsSpanOf (from : ℕ) (to : Option ℕ) (s : Span) : Type 0 where
  pub skip : s.skip ≡ from
  pub least : s.least ≡ least_of from to
  pub unbounded : s.unbounded ≡ is_none to
  pub needs : needs s ≡ last_of from to

-- why there is no such part of a stream with this STREAMINFO
abbrev pub part_fault : (from : Moment) (to : Option Moment) → Info → Option RangeFault
part_fault from to info = range_fault (start_of from info) (stop_of to info) info.total

-- nothing is wanted any more, whatever comes
abbrev pub is_done : Span → Bool
is_done s = not s.unbounded && nat_eq (needs s) 0

-- ---- a frame

-- how many of the next n are wanted
abbrev pub count_of : (unbounded : Bool) (least n : ℕ) → ℕ
count_of true least n = n
count_of false least n = min least n

-- These are the indices of a frame of this size that are wanted, and this is wanted after it.
pub record Cuts (s : Span) (size : ℕ) (cut : Cut) : Type 0 where
  pub start : cut.start ≡ min s.skip size
  pub end : cut.end ≡ cut.start + count_of s.unbounded s.least (size - cut.start)
  pub skip : cut.rest.skip ≡ s.skip - cut.start
  pub least : cut.rest.least ≡ s.least - (cut.end - cut.start)
  pub unbounded : cut.rest.unbounded ≡ s.unbounded

-- ---- the bytes of samples

-- raw samples of this depth as those of the file
abbrev pub bytes_text : (wave : Bool) (depth : ℕ) → List ℕ → List ℕ
bytes_text false depth bytes = bytes
bytes_text true depth bytes = file_samples (sample_width depth) depth bytes

-- inter-channel samples as those of a file of this form
abbrev pub text_of : Form → List (List ℤ) → List ℕ
text_of form rows = samples_text form.wave form.depth rows

-- those of a frame, from an index up to another one, which is not among them
abbrev pub rows_in : Frame → (start end : ℕ) → List (List ℤ)
rows_in f start end = samples_from f.channels (end - start) start

-- memory ran out, or the target failed
abbrev pub IsOutside : ExcerptFault → Type 0
IsOutside (Unread f) = f.why ≡ why.Memory
IsOutside (Range r) = ⊥
IsOutside Write = ⊤

-- ---- a reader

-- these inter-channel samples come of the frames that were not read yet, and then this end
abbrev pub RowsCome : {C : Type 0} {g : container.Ghosts C} → Reader C g → List (List ℤ) → Option (Place × Why) → Type 0
RowsCome reader rows end = SamplesLeft reader 0 rows end

-- What was sent and what is still wanted are the same together as before, by these texts of samples; and what was short
-- of samples is, and the other way round.
pub record Goes {C : Type 0} {g : container.Ghosts C} (text : List (List ℤ) → List ℕ) (now : Reader C g) (span later : Span) (before after : List ℕ) (rows : List (List ℤ)) (end : Option (Place × Why)) : Type 0 where
  pub rest : List (List ℤ)
  pub come : RowsCome now rest end
  pub sent : after ++ text (wanted later rest) ≡ before ++ text (wanted span rows)
  pub enough : needs later ≤ length rest → needs span ≤ length rows
  pub short : length rest < needs later → length rows < needs span
  pub unbounded : later.unbounded ≡ span.unbounded

-- A frame was read, and what is wanted of it was sent; or there is none; or a refusal came in its place.
abbrev pub Turns : {C : Type 0} {g : container.Ghosts C} → (text : List (List ℤ) → List ℕ) → (old new : Reader C g) → (span later : Span) → (before after : List ℕ) → Result Bool ExcerptFault → Type 0
Turns text old new span later before after (Ok true) = IsKnown old → (rows : List (List ℤ)) (end : Option (Place × Why)) → RowsCome old rows end → Goes text new span later before after rows end
Turns text old new span later before after (Ok false) = (later ≡ span) × (after ≡ before) × (IsKnown old → (rows : List (List ℤ)) (end : Option (Place × Why)) → RowsCome old rows end → (rows ≡ []) × (end ≡ None))
Turns text old new span later before after (Err (Unread f)) = IsCalmIn old new → f.why ≢ why.Memory → (rows : List (List ℤ)) (end : Option (Place × Why)) → RowsCome old rows end → (rows ≡ []) × (end ≡ Some (fault_pair f))
Turns text old new span later before after (Err (Range r)) = ⊥
Turns text old new span later before after (Err Write) = ⊤

-- the same of a target whose bytes are known
abbrev pub SendsTurn : {C W : Type 0} {g : container.Ghosts C} → target.Ghosts W → (text : List (List ℤ) → List ℕ) → (old new : Reader C g) → (span later : Span) → (from to : W) → Result Bool ExcerptFault → Type 0
SendsTurn h text old new span later from to result = h.known from ≡ true → Turns text old new span later (h.sent from) (h.sent to) result

-- ---- a whole span

-- what is said of all that is wanted of these samples, before this end
abbrev pub SaysSpan : (text : List (List ℤ) → List ℕ) → Span → (rows : List (List ℤ)) (end : Option (Place × Why)) → (before after : List ℕ) → Result ⊤ ExcerptFault → Type 0
SaysSpan text span rows end before after (Ok done) = (needs span ≤ length rows) × (span.unbounded ≡ true → end ≡ None) × (after ≡ before ++ text (wanted span rows))
SaysSpan text span rows end before after (Err (Unread f)) = f.why ≢ why.Memory → (end ≡ Some (fault_pair f)) × (span.unbounded ≡ false → length rows < needs span)
SaysSpan text span rows end before after (Err (Range r)) = (r ≡ range.End) × (end ≡ None) × (length rows < needs span)
SaysSpan text span rows end before after (Err Write) = ⊤

-- the same of a reader and a target whose bytes are known, if the reader's source returned no error
abbrev pub SendsSpan : {C W : Type 0} {g : container.Ghosts C} → target.Ghosts W → (text : List (List ℤ) → List ℕ) → (old new : Reader C g) → Span → (from to : W) → Result ⊤ ExcerptFault → Type 0
SendsSpan h text old new span from to result = IsCalmIn old new → h.known from ≡ true → (rows : List (List ℤ)) (end : Option (Place × Why)) → RowsCome old rows end → SaysSpan text span rows end (h.sent from) (h.sent to) result

-- ---- a part, and an input

-- the length that the head of a file states
abbrev pub stated_in : Span → (total : ℕ) → ℕ
stated_in s total = cond s.unbounded (total - s.skip) (cond (nat_lt s.least 68719476736) s.least 0)

-- what is said of the file of all that is wanted, whose head states this length
abbrev pub SendsFile : {C W : Type 0} {g : container.Ghosts C} → target.Ghosts W → (wave : Bool) (total : ℕ) → (old new : Reader C g) → Span → (from to : W) → Result ⊤ ExcerptFault → Type 0
SendsFile h wave total old new span from to result = SendsSpan h (file_text wave old.info (first_comments old.blocks.items) total) old new span from to result

abbrev pub SendsPart : {C W : Type 0} {g : container.Ghosts C} → target.Ghosts W → (wave : Bool) → (old new : Reader C g) → Moment → Option Moment → (from to : W) → Result ⊤ ExcerptFault → Type 0
SendsPart h wave old new start stop from to result =
    IsCalmIn old new → h.known from ≡ true → (rows : List (List ℤ)) (end : Option (Place × Why)) → RowsCome old rows end
    → SaysPart wave old.info (first_comments old.blocks.items) (start_of start old.info) (stop_of stop old.info) rows end (h.sent from) (h.sent to) result

-- the same of the part that is asked for
abbrev pub SendsAsked : {C W : Type 0} {g : container.Ghosts C} → target.Ghosts W → Excerpt → (old new : Reader C g) → (from to : W) → Result ⊤ ExcerptFault → Type 0
SendsAsked h e old new from to result = SendsPart h e.wave old new e.from e.to from to result

-- what is said of all that the input may be read as
abbrev pub SaysInput : Excerpt → InputReading Piece Place → (before after : List ℕ) → Result ⊤ ExcerptFault → Type 0
SaysInput e r before after result = (blocks : List Block) (frames : List Frame) (end : Option (Place × Why)) → IsReadAs r blocks frames end → SaysStream e blocks frames end before after result

-- the same of a source that did not fail, and of a target whose bytes are known
abbrev pub SendsInput : {S W : Type 0} (g : source.Ghosts S) (h : target.Ghosts W) → Excerpt → (old new : S) → (from to : W) → Result ⊤ ExcerptFault → Type 0
SendsInput g h e old new from to result = Tells g old new → h.known from ≡ true → SaysInput e (excerpt_input e (g.coming old) (g.after old)) (h.sent from) (h.sent to) result
