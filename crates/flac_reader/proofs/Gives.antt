-- What a call of a reader gives, seen in two ways.
use Rattle.std.proofs.Common.{◌≡◌, ◌+◌, min, List, [], ◌∷◌, map, Option, Some, None, Result, Ok, Err, sym, ap, subst, ◌∙◌}
use Rattle.flac_bits.specs.declared.why.Why.{Why}
use Rattle.flac_frame.specs.Frame.{Frame}
use Rattle.flac_native.specs.Item.{Item, frame}
use Rattle.flac_native.specs.Giving.{Stage, stage_of}
use Rattle.flac_native.specs.declared.fault.Place.{Place}
use Rattle.flac_native.specs.declared.fault.Fault.{Fault}
use Rattle.flac_native.specs.declared.container.Container as container
use Rattle.flac_reader.specs.Coming.{IsFirst, only_frame, size_of}
use Rattle.flac_reader.specs.Giving.{last_frame, Gives}
use Rattle.flac_reader.specs.declared.reader.Reader.{Reader}
use Rattle.flac_reader.proofs.Heads.{room, same_room, ok_counts, err_counts}

abbrev answer : Option Item → Result (Option Item) Fault
answer h = Ok h

abbrev refusal : Fault → Result (Option Item) Fault
refusal f = Err f

-- what comes first of frames is a frame
pub only_first : {C : Type 0} (g : container.Ghosts C) (frames : List Frame) (end : Option (Place × Why)) (h : Option Item) (s : Stage C) → IsFirst g (map frame frames) end (Ok h) s → IsFirst g (map frame frames) end (Ok (only_frame h)) s
only_first g [] None h s first = (ap (λ k. answer (only_frame k)) (inside first.0), first.1)
  where
    inside : answer h ≡ Ok None → h ≡ None
    inside e = cc
only_first g [] (Some r) h s first = absurd (not_refused first.0)
  where
    not_refused : answer h ≡ Err (record { at = r.0; why = r.1 }) → ⊥
    not_refused e = absurd cc
only_first g (x ∷ xs) end h s first = (ap (λ k. answer (only_frame k)) (inside first.0), first.1)
  where
    inside : answer h ≡ Ok (Some (frame x)) → h ≡ Some (frame x)
    inside e = cc

pub gives_refused : {C X Y : Type 0} {g : container.Ghosts C} (old new : Reader C g) (view : X → Option Item) (seen : Y → Option Item) (f : Fault) → Gives old new view (Err f) → Gives old new seen (Err f)
gives_refused {g = g} old new view seen f h = record {
  frame = λ calm roomy frames end comes. h.frame calm (same_room f roomy) frames end comes;
  counts = err_counts g (stage_of old.decoder) (stage_of new.decoder) f h.counts;
  given = λ e. absurd (not_ok (last_frame old) (h.given e).1);
  memory = h.memory;
  past = λ k. tt;
  ahead = h.ahead;
  samples = h.samples;
  blocks = h.blocks;
  info = h.info;
  start = h.start;
}
  where
    not_ok : (o : Option Item) → refusal f ≡ Ok o → ⊥
    not_ok o e = absurd cc

pub gives_shown : {C X Y : Type 0} {g : container.Ghosts C} (old new : Reader C g) (view : X → Option Item) (seen : Y → Option Item) (x : X) (y : Y) → seen y ≡ view x → Gives old new view (Ok x) → Gives old new seen (Ok y)
gives_shown {g = g} old new view seen x y same h = record {
  frame = λ calm roomy frames end comes. subst (λ k. IsFirst g (map frame frames) end (Ok k) (stage_of new.decoder)) (sym same) (h.frame calm (room x) frames end comes);
  counts = ok_counts g (stage_of old.decoder) (stage_of new.decoder) x y h.counts;
  given = λ e. ((h.given e).0, ap answer same ∙ (h.given e).1);
  memory = λ k. tt;
  past = h.past;
  ahead = h.ahead;
  samples = (h.samples.0, h.samples.1 ∙ ap (λ k. min (old.after + size_of k) 18446744073709551615) (sym same));
  blocks = h.blocks;
  info = h.info;
  start = h.start;
}
