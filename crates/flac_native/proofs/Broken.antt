-- Where retagging is broken off: at the item after those with which the input begins.
use Rattle.std.proofs.Common.{◌≡◌, ◌≢◌, ◌⊎◌, inl, inr, Bool, true, false, List, [], ◌∷◌, Option, Some, None, Result, Ok, Err, refl, ap, ◌∙◌}
use Rattle.std.specs.Prelude.{IfErr, IfSome}
use Rattle.flac_bits.specs.State.{Cursor}
use Rattle.flac_bits.specs.Items.{state_after}
use Rattle.flac_bits.specs.declared.why.Why.{Why}
use Rattle.flac_bits.specs.declared.why.Why.TheVariants as why
use Rattle.flac_bits.proofs.Handing.{Far}
use Rattle.flac_header.specs.declared.subset.Profile.TheVariants.{Subset}
use Rattle.flac_meta.specs.declared.block.Block.{Block}
use Rattle.flac_meta.specs.declared.block.Block.TheVariants as blocks
use Rattle.flac_native.specs.Stream.{Progress, marked, block, grammar, next, opening}
use Rattle.flac_native.specs.Given.{closing}
use Rattle.flac_native.specs.Retag.{BreaksAt, is_before_frames, not_read, not_written}
use Rattle.flac_native.specs.inner.Retag.{AreKept, keeps}
use Rattle.flac_native.specs.declared.fault.Place.{Place}
use Rattle.flac_native.specs.declared.fault.Place.TheVariants as place
use Rattle.flac_native.specs.declared.retagging.RetagFault.{RetagFault}

-- among the marker and the blocks
pub breaks_at : (all : Bool) (old now : Cursor) (p : Progress) (none kept : List Block) (at : Place) → Far grammar (keeps all) (opening Subset) p old now none kept → at ≡ grammar.place p → BreaksAt old.mark old.left at
breaks_at all old now p none kept at far there = record {
  items = far.items;
  front = far.text;
  left = now.left;
  stands = far.stands;
  spelled = far.spelled;
  place = there ∙ ap (λ (q : Progress). grammar.place q) far.state_is;
}

-- after the last block
after_closing : (p : Progress) (b : Block) (bs : List Block) → place.Frame 0 ≡ grammar.place (state_after grammar p (closing (b ∷ bs)))
after_closing p b [] = refl
after_closing p b (c ∷ cs) = after_closing (next p (block false b)) c cs

pub breaks_after : {kept : List Block} {rest : List Bool} (c : Cursor) → AreKept false c kept rest → BreaksAt c.mark c.left (place.Frame 0)
breaks_after {rest = rest} c are = record {
  items = marked ∷ closing (blocks.StreamInfo are.info ∷ are.list);
  front = are.input.head;
  left = rest;
  stands = are.input.stands;
  spelled = are.input.spelled;
  place = after_closing (next (opening Subset) marked) (blocks.StreamInfo are.info) are.list;
}

-- and there is none of the blocks
pub none_before : is_before_frames (place.Frame 0) ≡ true → ⊥
none_before e = absurd cc

-- ---- a last call that copies the rest

pub copy_placed : (f : RetagFault) (K : Type 0) (Q : Place → Type 0) → (K → Q (place.Frame 0)) → (f ≡ not_read) ⊎ (f ≡ not_written) → IfSome f.at (λ at. K → Q at)
copy_placed f K Q there (inl e) = rw e there
copy_placed f K Q there (inr e) = rw e tt

pub copy_foretold : (f : RetagFault) (K A : Type 0) (Q : Place → Why → Type 0) → (f ≡ not_read) ⊎ (f ≡ not_written)
    → IfSome f.at (λ at. is_before_frames at ≡ true → K → A → f.why ≢ why.Memory → Q at f.why)
copy_foretold f K A Q (inl e) = rw e (λ before. absurd (none_before before))
copy_foretold f K A Q (inr e) = rw e tt

-- what holds if the source met no error that is not foretold, holds if a stronger condition says so
pub foretold_calmer : {X : Type 0} (K A B : Type 0) (Q : Place → Why → Type 0) (r : Result X RetagFault) → (B → A)
    → IfErr r (λ f. IfSome f.at (λ at. is_before_frames at ≡ true → K → A → f.why ≢ why.Memory → Q at f.why)) → IfErr r (λ f. IfSome f.at (λ at. is_before_frames at ≡ true → K → B → f.why ≢ why.Memory → Q at f.why))
foretold_calmer K A B Q (Ok x) calm h = tt
foretold_calmer K A B Q (Err f) calm h = go f.at h
  where
    go : (o : Option Place) → IfSome o (λ at. is_before_frames at ≡ true → K → A → f.why ≢ why.Memory → Q at f.why) → IfSome o (λ at. is_before_frames at ≡ true → K → B → f.why ≢ why.Memory → Q at f.why)
    go None h = tt
    go (Some at) h = λ before k b room. h before k (calm b) room
