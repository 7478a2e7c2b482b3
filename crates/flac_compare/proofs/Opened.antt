-- Streams that are opened and compared.
use Rattle.std.proofs.Common.{◌≡◌, inl, inr, ℤ, List, [], ◌∷◌, ◌++◌, filter, Option, Some, None, Result, Ok, Err, IfOk, refl, sym, ap, subst, ◌∙◌}
use Rattle.std.specs.Prelude.{◌≢◌}
use Rattle.flac_bits.specs.Handing.{InputReading}
use Rattle.flac_bits.specs.declared.why.Why.{Why}
use Rattle.flac_bits.specs.declared.why.Why.TheVariants.{Memory}
use Rattle.flac_info.specs.Info.{Info}
use Rattle.flac_meta.specs.declared.block.Block.{Block}
use Rattle.flac_meta.specs.declared.block.Block.TheVariants as of_block
use Rattle.flac_frame.specs.Frame.{Frame}
use Rattle.flac_native.specs.Stream.{Piece}
use Rattle.flac_native.specs.declared.fault.Place.{Place}
use Rattle.flac_native.specs.declared.fault.Fault.{Fault}
use Rattle.flac_native.specs.declared.container.Container as container
use Rattle.flac_reader.specs.Kept.{or_info, first_info, keeps}
use Rattle.flac_reader.specs.Opening.{IsReadAs, OfInput, Opens}
use Rattle.flac_reader.specs.Refusing.{IsRefusal}
use Rattle.flac_reader.specs.declared.keep.Keep.TheVariants.{Tags}
use Rattle.flac_reader.specs.declared.reader.Reader.{Reader}
use Rattle.flac_compare.specs.Samples.{samples_of}
use Rattle.flac_compare.specs.Format.{SaysFormat}
use Rattle.flac_compare.specs.Compared.{OneBegins, SaysSamples, ComparesFrames}
use Rattle.flac_compare.specs.Streams.{SaysStreams, ComparesInputs, AreSame}
use Rattle.flac_compare.specs.inner.Opening.{SaysWith, ComparesWith}
use Rattle.flac_compare.specs.declared.difference.Difference.{Difference}
use Rattle.flac_compare.specs.declared.difference.Unread.{Unread}
use Rattle.flac_compare.specs.declared.difference.Unread.TheVariants.{First, Second}
use Rattle.flac_compare.proofs.Ordered.{IsRead}

-- ---- STREAMINFO is kept

kept_info : (bs : List Block) → first_info (filter (keeps Tags) bs) ≡ first_info bs
unfolding first_info
kept_info [] = refl
kept_info (b ∷ bs) = go b (kept_info bs)
  where
    go : (b : Block) → first_info (filter (keeps Tags) bs) ≡ first_info bs → first_info (filter (keeps Tags) (b ∷ bs)) ≡ or_info b (first_info bs)
    go (of_block.StreamInfo info) later = refl
    go (of_block.Padding n) later = later
    go (of_block.Application id bytes) later = later
    go (of_block.SeekTable points) later = later
    go (of_block.VorbisComment found) later = later
    go (of_block.CueSheet found) later = later
    go (of_block.Picture found) later = later
    go (of_block.Other kind bytes) later = later

info_of : {C : Type 0} {g : container.Ghosts C} (reader : Reader C g) (r : InputReading Piece Place) (blocks : List Block) (frames : List Frame) (end : Option (Place × Why)) → Opens r Tags reader → IsReadAs r blocks frames end → first_info blocks ≡ Some reader.info
info_of reader r blocks frames end opens is = sym (kept_info blocks) ∙ ap first_info (sym (opens.blocks blocks frames end is)) ∙ opens.info

-- ---- a refused stream

none_begins : (xs ys : List (List ℤ)) → ys ≡ [] → OneBegins xs ys
none_begins xs ys none = inr (xs, ap (λ l. l ++ xs) (sym none))

begins_none : (xs ys : List (List ℤ)) → xs ≡ [] → OneBegins xs ys
begins_none xs ys none = inl (ys, ap (λ l. l ++ ys) (sym none))

no_samples : (frames : List Frame) → frames ≡ [] → samples_of frames ≡ []
unfolding samples_of
no_samples frames none = ap samples_of none

pub second_refused : {C : Type 0} {g : container.Ghosts C} (first : Reader C g) (s : InputReading Piece Place) (f : Fault) → (f.why ≢ Memory → OfInput s (λ blocks frames end. IsRefusal blocks frames end f)) → ComparesWith first s (Err (Second f))
second_refused first s f refused = λ frames rows end stop others p is room. elim (refused room others rows stop is) [
  | inl e ↦ inl (none_begins (samples_of frames) (samples_of rows) (no_samples rows e.0), e.1)
  | inr e ↦ inr e
]

pub first_refused : (r s : InputReading Piece Place) (f : Fault) → (f.why ≢ Memory → OfInput r (λ blocks frames end. IsRefusal blocks frames end f)) → ComparesInputs r s (Err (First f))
first_refused r s f refused = λ blocks others frames rows end stop is are room. elim (refused room blocks frames end is) [
  | inl e ↦ inl (begins_none (samples_of frames) (samples_of rows) (no_samples frames e.0), e.1)
  | inr e ↦ inr e
]

-- ---- two streams

said_with : (info other : Info) (others : List Block) (xs ys : List (List ℤ)) (end stop : Option (Place × Why)) (result : Result (Option Difference) Unread) → SaysSamples xs ys end stop result → IfOk result (λ found. SaysFormat info other found) → first_info others ≡ Some other
    → SaysWith info others xs ys end stop result
said_with info other others xs ys end stop (Ok found) says format is = ((other, is, format), says)
said_with info other others xs ys end stop (Err (First f)) says format is = says
said_with info other others xs ys end stop (Err (Second f)) says format is = λ room. inl (says room)

pub with_opened : {C D : Type 0} {g : container.Ghosts C} {h : container.Ghosts D} (first : Reader C g) (reader : Reader D h) (s : InputReading Piece Place) (result : Result (Option Difference) Unread)
    → Opens s Tags reader → ComparesFrames first reader result → IfOk result (λ found. SaysFormat first.info reader.info found) → ComparesWith first s result
with_opened first reader s result opens compares format = λ frames rows end stop others p is.
    said_with first.info reader.info others (samples_of frames) (samples_of rows) end stop result (compares frames rows end stop p (opens.frames others rows stop is)) format (info_of reader s others rows stop opens is)

said_streams : (info : Info) (blocks others : List Block) (frames rows : List Frame) (end stop : Option (Place × Why)) (result : Result (Option Difference) Unread) → SaysWith info others (samples_of frames) (samples_of rows) end stop result → first_info blocks ≡ Some info
    → SaysStreams blocks others frames rows end stop result
said_streams info blocks others frames rows end stop (Ok found) says is = (record { info = info; other = says.0.0; first = is; second = says.0.1; says = says.0.2 }, says.1)
said_streams info blocks others frames rows end stop (Err (First f)) says is = λ room. inl (says room)
said_streams info blocks others frames rows end stop (Err (Second f)) says is = says

pub inputs_opened : {C : Type 0} {g : container.Ghosts C} (reader : Reader C g) (r s : InputReading Piece Place) (result : Result (Option Difference) Unread) → Opens r Tags reader → ComparesWith reader s result → ComparesInputs r s result
inputs_opened reader r s result opens compares = λ blocks others frames rows end stop is are.
    said_streams reader.info blocks others frames rows end stop result (compares frames rows end stop others (opens.frames blocks frames end is) are) (info_of reader r blocks frames end opens is)

pub same_of : (r s : InputReading Piece Place) → IsRead r → IsRead s → ComparesInputs r s (Ok None) → AreSame r s
same_of r s one two compares =
    let c = compares one.blocks two.blocks one.frames two.frames one.end two.end one.read two.read in
    record {
      blocks = one.blocks;
      others = two.blocks;
      frames = one.frames;
      rows = two.frames;
      info = c.0.info;
      other = c.0.other;
      first = subst (λ e. IsReadAs r one.blocks one.frames e) c.1.1 one.read;
      second = subst (λ e. IsReadAs s two.blocks two.frames e) c.1.2 two.read;
      info_first = c.0.first;
      info_second = c.0.second;
      format = c.0.says;
      samples = c.1.0;
    }
