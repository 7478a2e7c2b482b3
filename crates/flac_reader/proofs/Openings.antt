-- A reader that was opened over an input.
use Rattle.std.proofs.Common.{◌≡◌, ℕ, Bool, true, List, Option, Some, None, sym, subst, ◌∙◌}
use Rattle.std.specs.Borrow.{GName}
use Rattle.flac_bits.specs.Handing.{InputReading}
use Rattle.flac_bits.specs.declared.why.Why.{Why}
use Rattle.flac_meta.specs.declared.block.Block.{Block}
use Rattle.flac_frame.specs.Frame.{Frame}
use Rattle.flac_native.specs.Stream.{Piece, Progress}
use Rattle.flac_native.specs.Track.{IsAt}
use Rattle.flac_native.specs.Coming.{ReadAs}
use Rattle.flac_native.specs.Item.{Item}
use Rattle.flac_native.specs.Giving.{Stage, stage_of, StillGives}
use Rattle.flac_native.specs.declared.fault.Place.{Place}
use Rattle.flac_native.specs.declared.decoder.Course.TheVariants as course
use Rattle.flac_native.specs.declared.container.Container as container
use Rattle.flac_reader.specs.Coming.{Comes, ComesAfter, HeadOf, IsPast, stream_items}
use Rattle.flac_reader.specs.Kept.{first_info}
use Rattle.flac_reader.specs.Opening.{IsReadAs, Opens, Starts}
use Rattle.flac_reader.specs.declared.keep.Keep.{Keep}
use Rattle.flac_reader.specs.declared.reader.Reader.{Reader}

-- before the first call
pub begun_comes : {C : Type 0} (g : container.Ghosts C) (s : Stage C) (p : Progress) (items : List Item) (end : Option (Place × Why)) → s.course ≡ course.Begun → IsAt s.track p → StillGives (g.gives s.container) p items end → Comes g s items end
begun_comes g s p items end begun at still = subst (λ k. ComesAfter g k s items end) (sym begun) (p, at, still)

-- where the decoder was to give what the input is
pub opens_over : {C : Type 0} {g : container.Ghosts C} (r : InputReading Piece Place) (keep : Keep) (reader : Reader C g) (s : Stage C) (p : Progress) → s.course ≡ course.Begun → IsAt s.track p
    → ((parts : List Piece) (end : Option (Place × Why)) → ReadAs r parts end → g.gives s.container p parts end) → g.known s.container ≡ true
    → HeadOf g s (stage_of reader.decoder) keep reader.blocks.items reader.ahead reader.start → first_info reader.blocks.items ≡ Some reader.info → Opens r keep reader
opens_over {g = g} r keep reader s p begun at gives known head info = record {
  blocks = λ blocks frames end is. head.blocks known blocks frames end (comes blocks frames end is);
  frames = λ blocks frames end is. head.frames known blocks frames end (comes blocks frames end is);
  start = λ blocks frames end is. head.counted known blocks frames end (comes blocks frames end is);
  info = info;
}
  where
    comes : (blocks : List Block) (frames : List Frame) (end : Option (Place × Why)) → IsReadAs r blocks frames end → Comes g s (stream_items blocks frames) end
    comes blocks frames end is = begun_comes g s p (stream_items blocks frames) end begun at (is.parts, sym is.items, gives is.parts end is.read)

-- where the decoder was over this source
pub starts_over : {C : Type 0} {g : container.Ghosts C} (reader : Reader C g) (s : Stage C) (keep : Keep) (known : Bool) (errors raised : ℕ) (names : List GName)
    → g.known s.container ≡ known → g.errors s.container ≡ errors → g.met s.container ≡ raised → g.names s.container ≡ names
    → HeadOf g s (stage_of reader.decoder) keep reader.blocks.items reader.ahead reader.start → first_info reader.blocks.items ≡ Some reader.info → reader.ahead ≡ true → (reader.first ≡ 0) × (reader.after ≡ 0) → IsPast (stage_of reader.decoder) → Starts known errors raised names reader
starts_over reader s keep known errors raised names is e m n head info ahead numbers past = record {
  info = info;
  ahead = ahead;
  first = numbers.0;
  next = numbers.1;
  source = record { known = λ k. head.known (is ∙ k); errors = head.errors ∙ e; met = head.met ∙ m; names = head.names ∙ n };
  past = past;
}

-- the input is a stream, or is refused
pub either_end : (gives : List Piece → Option (Place × Why) → Type 0) (r : InputReading Piece Place) → ((parts : List Piece) → r.whole parts → gives parts None) → ((parts : List Piece) (at : Place) (why : Why) → r.refused parts at why → gives parts (Some (at, why)))
    → (parts : List Piece) (end : Option (Place × Why)) → ReadAs r parts end → gives parts end
either_end gives r whole refused parts None is = whole parts is
either_end gives r whole refused parts (Some (at, why)) is = refused parts at why is
