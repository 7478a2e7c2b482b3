-- What is read within a room is told by the meaning of the layout.
use Rattle.std.proofs.Common.{ℕ, Option, Result, Ok, Err, sym, ap, ◌∙◌}
use Rattle.flac_bits.specs.State.{State, Cursor, past, started}
use Rattle.flac_bits.specs.Layout.{Layout, because}
use Rattle.flac_bits.specs.Reading.{Answers}
use Rattle.flac_bits.specs.Fence.{read_in}
use Rattle.flac_bits.specs.Fencing.{lifted}
use Rattle.flac_bits.specs.Within.{ReadsWithin, DecodesWithin, MeansWithin}
use Rattle.flac_bits.specs.declared.why.Why.{Why}
use Rattle.flac_bits.proofs.Readings.{at_}
use Rattle.flac_bits.proofs.Meaning.{read, is_ok_of, why_is, differ}
use Rattle.flac_bits.proofs.Fences.{again_in, stops_in, takes_in, refuses_in}

decodes_within : {X Y : Type 0} (room : Option ℕ) (view : X → Y) (l : Layout Y) (old new : Cursor) (result : Result X Why) → Answers view (read_in room l old) new result → DecodesWithin room view l old new result
decodes_within room view l old new (Ok x) answers = record {
  found = let t = takes_in room l old.left old.mark (view x) new answers in (t.0, (t.1, t.4), t.2, t.3);
  only = λ text rest y e s fits.
      let same = is_ok_of (view x) y new (at_ rest (past text old.mark)) (sym answers ∙ ap (λ t. read_in room l (at_ t old.mark)) e ∙ again_in room l old.mark text rest y s fits) in
      (same.0, ap (λ (c : Cursor). c.left) same.1);
  fault = tt;
  stopped = λ why s. differ (view x, new) (because why) (sym answers ∙ stops_in room l old.mark old.left why s);
}
decodes_within room view l old new (Err why) answers = record {
  found = tt;
  only = λ text rest y e s fits. differ (y, at_ rest (past text old.mark)) (because why) (sym (again_in room l old.mark text rest y s fits) ∙ ap (λ t. read_in room l (at_ t old.mark)) (sym e) ∙ answers);
  fault = refuses_in room l old.left old.mark why answers;
  stopped = λ w s. why_is why w (sym answers ∙ stops_in room l old.mark old.left w s);
}

-- a call that reads a layout within a room answers what it means
pub means_within : {X Y : Type 0} (room : Option ℕ) (view : X → Y) (l : Layout Y) (old new : State) (result : Result X Why) → ReadsWithin room view l old new result → MeansWithin room view l old new result
means_within room view l old new result reads known same = decodes_within room view l (started (lifted old)).cursor new.cursor result (reads known same)

answers_within : {X Y : Type 0} (room : Option ℕ) (view : X → Y) (l : Layout Y) (old new : Cursor) (result : Result X Why) → DecodesWithin room view l old new result → Answers view (read_in room l old) new result
answers_within room view l old new (Ok x) d =
    let t = d.found in
    ap (λ k. read_in room l (at_ k old.mark)) t.1.0 ∙ again_in room l old.mark t.0 new.left (view x) t.2 t.3 ∙ ap (λ k. read (view x, at_ new.left k)) (sym t.1.1)
answers_within room view l old new (Err why) d = stops_in room l old.mark old.left why d.fault

-- and one that answers what a layout means within a room reads it
pub reads_within : {X Y : Type 0} (room : Option ℕ) (view : X → Y) (l : Layout Y) (old new : State) (result : Result X Why) → MeansWithin room view l old new result → ReadsWithin room view l old new result
reads_within room view l old new result means known same = answers_within room view l (started (lifted old)).cursor new.cursor result (means known same)
