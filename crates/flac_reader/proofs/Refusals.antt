-- Why a stream is not opened.
use Rattle.std.proofs.Common.{◌≡◌, ◌<◌, ◌≤◌, ℕ, Bool, true, false, List, [], ◌∷◌, ◌++◌, filter, Option, Some, None, Result, Ok, Err, refl, sym, ap, subst, ◌∙◌, arith}
use Rattle.std.specs.Prelude.{◌≢◌, ⊤}
use Rattle.std.proofs.Common.{inl, inr}
use Rattle.flac_bits.specs.Bits.{bits_of}
use Rattle.flac_bits.specs.Reasons.{of_output}
use Rattle.flac_bits.specs.State.{Rises, Mark}
use Rattle.flac_bits.specs.Handing.{InputReading}
use Rattle.flac_bits.specs.declared.why.Why.{Why}
use Rattle.flac_bits.specs.declared.why.Why.TheVariants.{Memory, Read, NotStreamInfoFirst}
use Rattle.flac_meta.specs.declared.block.Block.{Block}
use Rattle.flac_meta.specs.declared.block.Block.TheVariants as blocks
use Rattle.flac_header.specs.declared.subset.Profile.{Profile}
use Rattle.flac_frame.specs.Frame.{Frame}
use Rattle.flac_native.specs.Stream.{Piece, Progress}
use Rattle.flac_native.specs.Track.{IsAt}
use Rattle.flac_native.specs.Coming.{ReadAs}
use Rattle.flac_native.specs.Item.{fault_pair}
use Rattle.flac_native.specs.Giving.{Stage}
use Rattle.flac_native.specs.declared.decoder.Course.TheVariants as course
use Rattle.flac_native.specs.declared.fault.Place.{Place}
use Rattle.flac_native.specs.declared.fault.Place.TheVariants as place
use Rattle.flac_native.specs.declared.fault.Fault.{Fault}
use Rattle.flac_native.specs.declared.container.Container as container
use Rattle.flac_ogg.specs.Fronts.{front_bytes}
use Rattle.flac_ogg.specs.Either.{begins_page, read_either}
use Rattle.flac_reader.specs.Kept.{keeps, first_info, or_info}
use Rattle.flac_reader.specs.Coming.{Comes, IsCalm, HadMemory, Counted, HeadIs, stream_items}
use Rattle.flac_reader.specs.Opening.{IsReadAs}
use Rattle.flac_reader.specs.Refusing.{RefusedHead, RefusesInput}
use Rattle.flac_reader.specs.declared.keep.Keep.{Keep}
use Rattle.flac_reader.specs.declared.keep.Keep.TheVariants.{All, Tags}
use Rattle.flac_reader.proofs.Heads.{room}
use Rattle.flac_reader.proofs.Openings.{begun_comes}

-- STREAMINFO is kept
first_kept : (keep : Keep) (bs : List Block) → first_info (filter (keeps keep) bs) ≡ first_info bs
unfolding first_info
first_kept All [] = refl
first_kept Tags [] = refl
first_kept All (b ∷ bs) = ap (or_info b) (first_kept All bs)
first_kept Tags (blocks.StreamInfo i ∷ bs) = refl
first_kept Tags (blocks.Padding n ∷ bs) = first_kept Tags bs
first_kept Tags (blocks.Application i d ∷ bs) = first_kept Tags bs
first_kept Tags (blocks.SeekTable t ∷ bs) = first_kept Tags bs
first_kept Tags (blocks.VorbisComment c ∷ bs) = first_kept Tags bs
first_kept Tags (blocks.CueSheet c ∷ bs) = first_kept Tags bs
first_kept Tags (blocks.Picture p ∷ bs) = first_kept Tags bs
first_kept Tags (blocks.Other k d ∷ bs) = first_kept Tags bs

abbrev reason : {X : Type 0} → Why → Result X Why
reason w = Err w

pub had_room : {X : Type 0} (f : Fault) → f.why ≢ Memory → HadMemory {X = X} (Err f)
had_room {X} f other e = other (inside e)
  where
    inside : reason {X = X} f.why ≡ Err Memory → f.why ≡ Memory
    inside e = cc

-- the blocks were refused
pub blocks_refused : {C : Type 0} (g : container.Ghosts C) (old last : Stage C) (keep : Keep) (kept : List Block) (f : Fault) → Counted {X = ⊤} g old last (Err f)
    → (IsCalm g old last → HadMemory {X = ⊤} (Err f) → (blocks : List Block) (frames : List Frame) (end : Option (Place × Why)) → Comes g old (stream_items blocks frames) end → HeadIs g keep blocks frames end kept (Err f) last)
    → RefusedHead g old last f
blocks_refused g old last keep kept f counts head = record {
  kept = counts.kept;
  risen = counts.risen;
  output = counts.output;
  names = counts.names;
  refused = λ calm other blocks frames end comes. inl (head calm (had_room f other) blocks frames end comes);
}

-- the blocks were read, and STREAMINFO is none of them
pub no_info_refused : {C : Type 0} (g : container.Ghosts C) (old last : Stage C) (keep : Keep) (kept : List Block) (x : ⊤) → Counted {X = ⊤} g old last (Ok x) → first_info kept ≡ None
    → (IsCalm g old last → HadMemory {X = ⊤} (Ok x) → (blocks : List Block) (frames : List Frame) (end : Option (Place × Why)) → Comes g old (stream_items blocks frames) end → HeadIs g keep blocks frames end kept (Ok x) last)
    → RefusedHead g old last (record { at = place.Block 0; why = NotStreamInfoFirst })
no_info_refused g old last keep kept x counts none head = record {
  kept = counts.kept;
  risen = λ is. absurd (other is);
  output = refl;
  names = counts.names;
  refused = λ calm other blocks frames end comes.
      let h = head calm (room x) blocks frames end comes in
      inr (refl, sym (first_kept keep blocks) ∙ ap first_info (sym h.0) ∙ none);
}
  where
    other : NotStreamInfoFirst ≡ Read → ⊥
    other e = absurd cc

-- where the decoder was to give what the input is
pub refuses_input : {C : Type 0} {g : container.Ghosts C} (r : InputReading Piece Place) (s last : Stage C) (p : Progress) (f : Fault) (known : Bool) (errors raised errors_left raised_left : ℕ)
    → s.course ≡ course.Begun → IsAt s.track p → ((parts : List Piece) (end : Option (Place × Why)) → ReadAs r parts end → g.gives s.container p parts end)
    → g.known s.container ≡ known → g.errors s.container ≡ errors → g.met s.container ≡ raised → g.errors last.container ≡ errors_left → g.met last.container ≡ raised_left
    → (errors_left ≡ errors → raised_left ≡ raised → g.raised last.container ≡ g.raised s.container)
    → RefusedHead g s last f → RefusesInput r known errors raised errors_left raised_left f
refuses_input {g = g} r s last p f known errors raised errors_left raised_left begun at gives is_known e m e' m' quiet h = record {
  kept = omega (arith, h.kept, e, e');
  risen = λ is. subst (λ n. Rises raised n) m' (subst (λ n. Rises n (g.met last.container)) m (h.risen is));
  output = h.output;
  refused = λ k same_errors same_raised other blocks frames end is.
      h.refused (is_known ∙ k, e' ∙ same_errors ∙ sym e, quiet same_errors same_raised) other blocks frames end
      (begun_comes g s p (stream_items blocks frames) end begun at (is.parts, sym is.items, gives is.parts end is.read));
}

-- of an input that is known and is read so too, or is not known
pub refuses_as : (r q : InputReading Piece Place) (known knows : Bool) (errors raised now_errors now_raised errors_left raised_left : ℕ) (f : Fault) → now_errors ≡ errors → now_raised ≡ raised → (knows ≡ true → known ≡ true)
    → (knows ≡ true → q ≡ r) → RefusesInput r known now_errors now_raised errors_left raised_left f → RefusesInput q knows errors raised errors_left raised_left f
refuses_as r q known knows errors raised now_errors now_raised errors_left raised_left f e n told same h = record {
  kept = omega (arith, h.kept, e);
  risen = λ is. subst (λ k. Rises k raised_left) n (h.risen is);
  output = h.output;
  refused = λ k same_errors same_raised other blocks frames end is. h.refused (told k) (same_errors ∙ sym e) (same_raised ∙ sym n) other blocks frames end (subst (λ z. IsReadAs z blocks frames end) (same k) is);
}

-- of an input whose first byte could not be read
pub refuses_unread : (r : InputReading Piece Place) (known : Bool) (errors raised errors_left raised_left : ℕ) (f : Fault) → errors ≤ errors_left → Rises raised raised_left → of_output f.why ≡ false → (known ≡ true → raised < raised_left) → RefusesInput r known errors raised errors_left raised_left f
refuses_unread r known errors raised errors_left raised_left f kept risen output more = record {
  kept = kept;
  risen = λ is. risen;
  output = output;
  refused = λ k same_errors same_raised other blocks frames end is. absurd (omega (arith, more k, same_raised));
}

-- of which nothing was read, since memory ran out
pub refuses_memory : (r : InputReading Piece Place) (known : Bool) (errors raised : ℕ) (f : Fault) → f.why ≡ Memory → RefusesInput r known errors raised errors raised f
refuses_memory r known errors raised f e = record {
  kept = omega arith;
  risen = λ is. absurd (other (sym e ∙ is));
  output = ap of_output e;
  refused = λ k same_errors same_raised room. absurd (room e);
}
  where
    other : Memory ≡ Read → ⊥
    other e = absurd cc

same_page : (front : Option ℕ) (coming now : List ℕ) → coming ≡ front_bytes front ++ now → (front ≡ None → coming ≡ []) → begins_page coming ≡ begins_page (front_bytes front)
same_page None coming now e over = ap begins_page (over refl)
same_page (Some b) coming now e over = ap begins_page e

-- the bytes after the first one, and that one in front of them, are read as all of them
pub front_read : (profile : Profile) (front : Option ℕ) (coming now : List ℕ) (is_ogg : Bool) (m k : Mark) → coming ≡ front_bytes front ++ now → (front ≡ None → coming ≡ []) → is_ogg ≡ begins_page (front_bytes front) → m ≡ k
    → read_either profile (begins_page coming) m (bits_of coming) ≡ read_either profile is_ogg k (bits_of (front_bytes front ++ now))
front_read profile front coming now is_ogg m k e over page same =
    ap (λ b. read_either profile b m (bits_of coming)) (same_page front coming now e over ∙ sym page)
    ∙ (ap (λ a. read_either profile is_ogg a (bits_of coming)) same ∙ ap (λ t. read_either profile is_ogg k (bits_of t)) e)
