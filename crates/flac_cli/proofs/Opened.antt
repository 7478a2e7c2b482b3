-- A stream that is opened, and a part of it that is sent.
use Rattle.std.proofs.Common.{◌≡◌, inl, inr, ℕ, ℤ, List, [], ◌∷◌, ◌++◌, filter, Option, Some, Result, Ok, Err, refl, sym, ap, subst, ◌∙◌}
use Rattle.std.specs.Prelude.{◌≢◌, ⊤}
use Rattle.flac_bits.specs.Handing.{InputReading}
use Rattle.flac_bits.specs.State.{After}
use Rattle.flac_bits.specs.declared.why.Why.{Why}
use Rattle.flac_bits.specs.declared.why.Why.TheVariants as why
use Rattle.flac_header.specs.declared.subset.Profile.{Profile}
use Rattle.flac_meta.specs.declared.block.Block.{Block}
use Rattle.flac_meta.specs.declared.block.Block.TheVariants as of_block
use Rattle.flac_frame.specs.Frame.{Frame}
use Rattle.flac_native.specs.Giving.{stage_of}
use Rattle.flac_native.specs.Stream.{Piece}
use Rattle.flac_native.specs.declared.fault.Place.{Place}
use Rattle.flac_native.specs.declared.fault.Fault.{Fault}
use Rattle.flac_native.specs.declared.container.Container as container
use Rattle.flac_reader.specs.Coming.{FramesCome}
use Rattle.flac_reader.specs.Giving.{last_frame}
use Rattle.flac_reader.specs.Inputs.{any_input}
use Rattle.flac_reader.specs.Kept.{or_info, first_info, or_comments, first_comments, keeps}
use Rattle.flac_reader.specs.Opening.{IsReadAs, OfInput, Opens}
use Rattle.flac_reader.specs.Refusing.{IsRefusal}
use Rattle.flac_reader.specs.declared.keep.Keep.TheVariants.{Tags}
use Rattle.flac_reader.specs.declared.reader.Reader.{Reader}
use Rattle.flac_compare.specs.Samples.{samples_of}
use Rattle.flac_compare.proofs.Ordered.{input_read}
use Rattle.flac_compare.proofs.Samples.{left_none}
use Rattle.flac_cli.specs.Excerpts.{start_of, stop_of, SaysPart, SaysAsked, SaysStream, excerpt_input, HasDecoded, IsExcerptAnswer, ReportsExcerpt}
use Rattle.flac_cli.specs.inner.Excerpts.{RowsCome, SaysInput}
use Rattle.flac_cli.specs.Streams.{profile_of}
use Rattle.flac_cli.specs.declared.excerpt.ExcerptFault.{ExcerptFault}
use Rattle.flac_cli.specs.declared.excerpt.ExcerptFault.TheVariants.{Unread, Range, Write}
use Rattle.flac_jobs.specs.declared.excerpts.Excerpt.{Excerpt}

-- ---- STREAMINFO is kept

kept_info : (bs : List Block) → first_info (filter (keeps Tags) bs) ≡ first_info bs
unfolding first_info
kept_info [] = refl
kept_info (b ∷ bs) = go b (kept_info bs)
  where
    go : (b : Block) → first_info (filter (keeps Tags) bs) ≡ first_info bs → first_info (filter (keeps Tags) (b ∷ bs)) ≡ or_info b (first_info bs)
    go (of_block.StreamInfo info) later = refl
    go (of_block.Padding n) later = later
    go (of_block.Application id bytes) later = later
    go (of_block.SeekTable points) later = later
    go (of_block.VorbisComment found) later = later
    go (of_block.CueSheet found) later = later
    go (of_block.Picture found) later = later
    go (of_block.Other kind bytes) later = later

pub info_of : {C : Type 0} {g : container.Ghosts C} (reader : Reader C g) (r : InputReading Piece Place) (blocks : List Block) (frames : List Frame) (end : Option (Place × Why)) → Opens r Tags reader → IsReadAs r blocks frames end → first_info blocks ≡ Some reader.info
info_of reader r blocks frames end opens is = sym (kept_info blocks) ∙ ap first_info (sym (opens.blocks blocks frames end is)) ∙ opens.info

kept_comments : (bs : List Block) → first_comments (filter (keeps Tags) bs) ≡ first_comments bs
unfolding first_comments
kept_comments [] = refl
kept_comments (b ∷ bs) = go b (kept_comments bs)
  where
    go : (b : Block) → first_comments (filter (keeps Tags) bs) ≡ first_comments bs → first_comments (filter (keeps Tags) (b ∷ bs)) ≡ or_comments b (first_comments bs)
    go (of_block.StreamInfo info) later = later
    go (of_block.Padding n) later = later
    go (of_block.Application id bytes) later = later
    go (of_block.SeekTable points) later = later
    go (of_block.VorbisComment found) later = refl
    go (of_block.CueSheet found) later = later
    go (of_block.Picture found) later = later
    go (of_block.Other kind bytes) later = later

pub comments_of : {C : Type 0} {g : container.Ghosts C} (reader : Reader C g) (r : InputReading Piece Place) (blocks : List Block) (frames : List Frame) (end : Option (Place × Why)) → Opens r Tags reader → IsReadAs r blocks frames end → first_comments reader.blocks.items ≡ first_comments blocks
comments_of reader r blocks frames end opens is = ap first_comments (opens.blocks blocks frames end is) ∙ kept_comments blocks

-- ---- an input

pub rows_come : {C : Type 0} {g : container.Ghosts C} (reader : Reader C g) (frames : List Frame) (end : Option (Place × Why)) → FramesCome g reader.ahead (stage_of reader.decoder) frames end → RowsCome reader (samples_of frames) end
rows_come reader frames end come = record { frames = frames; split = ap (λ l. l ++ samples_of frames) (sym (left_none (last_frame reader))); come = come }

stream_said : (e : Excerpt) (blocks : List Block) (frames : List Frame) (end : Option (Place × Why)) (before after : List ℕ) (result : Result ⊤ ExcerptFault) → SaysAsked e blocks frames end before after result → SaysStream e blocks frames end before after result
stream_said e blocks frames end before after (Ok done) says = says
stream_said e blocks frames end before after (Err (Unread f)) says = λ room. inr says
stream_said e blocks frames end before after (Err (Range r)) says = says
stream_said e blocks frames end before after (Err Write) says = says

pub part_opened : {C : Type 0} {g : container.Ghosts C} (reader : Reader C g) (e : Excerpt) (r : InputReading Piece Place) (before after : List ℕ) (result : Result ⊤ ExcerptFault) → Opens r Tags reader
    → ((rows : List (List ℤ)) (end : Option (Place × Why)) → RowsCome reader rows end → SaysPart e.wave reader.info (first_comments reader.blocks.items) (start_of e.from reader.info) (stop_of e.to reader.info) rows end before after result) → SaysInput e r before after result
part_opened reader e r before after result opens says = λ blocks frames end is.
    stream_said e blocks frames end before after result (
      reader.info,
      info_of reader r blocks frames end opens is,
      subst (λ comments. SaysPart e.wave reader.info comments (start_of e.from reader.info) (stop_of e.to reader.info) (samples_of frames) end before after result) (comments_of reader r blocks frames end opens is) (says (samples_of frames) end (rows_come reader frames end (opens.frames blocks frames end is))),
    )

pub opening_refused : (e : Excerpt) (r : InputReading Piece Place) (before after : List ℕ) (f : Fault) → (f.why ≢ why.Memory → OfInput r (λ blocks frames end. IsRefusal blocks frames end f)) → SaysInput e r before after (Err (Unread f))
opening_refused e r before after f refused = λ blocks frames end is room. inl (refused room blocks frames end is)

pub by_profile : (e : Excerpt) (profile : Profile) (bytes : List ℕ) (follows : After) (before after : List ℕ) (result : Result ⊤ ExcerptFault) → profile ≡ profile_of e.lax → SaysInput e (any_input profile bytes follows) before after result → SaysInput e (excerpt_input e bytes follows) before after result
by_profile e profile bytes follows before after result is says = subst (λ p. SaysInput e (any_input p bytes follows) before after result) is says

-- ---- what is reported

pub decoded : (e : Excerpt) (bytes : List ℕ) (follows : After) (before after : List ℕ) → SaysInput e (excerpt_input e bytes follows) before after (Ok tt) → HasDecoded e (excerpt_input e bytes follows) before after
decoded e bytes follows before after says =
    let r = input_read (profile_of e.lax) bytes follows in
    record { blocks = r.blocks; frames = r.frames; end = r.end; read = r.read; says = says r.blocks r.frames r.end r.read }

pub part_reported : (e : Excerpt) (bytes : List ℕ) (follows : After) (before after : List ℕ) (result : Result ⊤ ExcerptFault) (status : ℕ) (told later : List ℕ) → SaysInput e (excerpt_input e bytes follows) before after result → result ≢ Err Write
    → IsExcerptAnswer e result status told later → ReportsExcerpt e (excerpt_input e bytes follows) before after status told later
part_reported e bytes follows before after result status told later says written answer =
    let r = input_read (profile_of e.lax) bytes follows in
    record { blocks = r.blocks; frames = r.frames; end = r.end; read = r.read; result = result; says = says r.blocks r.frames r.end r.read; written = written; answer = answer }

-- the file could be written
abbrev pub answer_of : ExcerptFault → Result ⊤ ExcerptFault
answer_of e = Err e

pub ok_written : Ok tt ≢ answer_of Write
ok_written e = absurd cc

pub err_written : (fault : ExcerptFault) → (fault ≡ Write → ⊥) → answer_of fault ≢ answer_of Write
err_written fault other e = other (inside e)
  where
    inside : answer_of fault ≡ answer_of Write → fault ≡ Write
    inside same = cc
