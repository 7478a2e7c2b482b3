-- What a reader still has to give, call by call.
use Rattle.std.proofs.Common.{◌≡◌, ℕ, ◌+◌, ◌-◌, true, false, ℤ, List, [], ◌∷◌, ◌++◌, map, Option, Some, None, Result, Ok, Err, refl, sym, ap, subst, ◌∙◌, arith}
use Rattle.std.specs.Prelude.{◌≢◌}
use Rattle.flac_bits.specs.Handing.{reason_of}
use Rattle.flac_bits.specs.declared.why.Why.{Why}
use Rattle.flac_bits.specs.declared.why.Why.TheVariants.{Memory}
use Rattle.flac_frame.specs.Frame.{Frame}
use Rattle.flac_native.specs.Item.{Item, frame, fault_pair}
use Rattle.flac_native.specs.Giving.{stage_of}
use Rattle.flac_native.specs.declared.fault.Place.{Place}
use Rattle.flac_native.specs.declared.fault.Fault.{Fault}
use Rattle.flac_native.specs.declared.container.Container as container
use Rattle.flac_reader.specs.Coming.{FramesCome, IsFirst, size_of}
use Rattle.flac_reader.specs.Giving.{last_frame, Gives}
use Rattle.flac_reader.specs.declared.reader.Reader.{Reader}
use Rattle.flac_reader.proofs.Heads.{room}
use Rattle.flac_compare.specs.Samples.{samples_from, samples_of}
use Rattle.flac_compare.specs.inner.Stepping.{Stays, MeetsNone, IsCalmIn, IsKnown, left_in, SamplesLeft, Enters}
use Rattle.flac_compare.proofs.Samples.{left_none}

-- ---- one call after another

pub stays_same : {C : Type 0} {g : container.Ghosts C} (r : Reader C g) → Stays r r
stays_same r = record { blocks = refl; info = refl; start = refl; names = refl }

pub stays_both : {C : Type 0} {g : container.Ghosts C} (old now new : Reader C g) → Stays old now → Stays now new → Stays old new
stays_both old now new one two = record {
  blocks = two.blocks ∙ one.blocks;
  info = two.info ∙ one.info;
  start = two.start ∙ one.start;
  names = two.names ∙ one.names;
}

pub met_same : {C : Type 0} {g : container.Ghosts C} (r : Reader C g) → MeetsNone r r
met_same r = (λ k. k, refl, refl, refl)

pub met_both : {C : Type 0} {g : container.Ghosts C} (old now new : Reader C g) → MeetsNone old now → MeetsNone now new → MeetsNone old new
met_both old now new one two = (λ k. two.0 (one.0 k), two.1 ∙ one.1, two.2 ∙ one.2, two.3 ∙ one.3)

-- a call that met no error had none
pub met_calm : {C : Type 0} {g : container.Ghosts C} (old new : Reader C g) → MeetsNone old new → IsKnown old → IsCalmIn old new
met_calm old new met known = (known, met.1, met.2)

-- no error in all calls, and none in those before: none in the last
pub calm_last : {C : Type 0} {g : container.Ghosts C} (old now new : Reader C g) → MeetsNone old now → IsCalmIn old new → IsCalmIn now new
calm_last old now new met calm = (met.0 calm.0, calm.1 ∙ sym met.1, calm.2 ∙ sym met.2)

pub step_stays : {C X : Type 0} {g : container.Ghosts C} (old new : Reader C g) (result : Result X Fault) → Gives old new (λ _. last_frame new) result → Stays old new
step_stays old new result gives = record { blocks = gives.blocks; info = gives.info; start = gives.start; names = gives.counts.names }

-- ---- the next frame

abbrev answer : Option Item → Result (Option Item) Fault
answer h = Ok h

-- the whole frame is left
whole_left : (held : Option Item) (x : Frame) → held ≡ Some (frame x) → left_in held (size_of held) ≡ samples_from x.channels x.size 0
whole_left held x is = let e : x.size - x.size ≡ 0 = omega arith in rw (is, e) refl

pub of_frames : {C : Type 0} {g : container.Ghosts C} (r : Reader C g) (left : ℕ) (samples : List (List ℤ)) (end : Option (Place × Why)) → left ≡ 0 → (q : SamplesLeft r left samples end) → samples ≡ samples_of q.frames
of_frames r left samples end none q = q.split ∙ ap (λ l. l ++ samples_of q.frames) (ap (left_in (last_frame r)) none ∙ left_none (last_frame r))

next_frame : {C : Type 0} {g : container.Ghosts C} (new : Reader C g) (f : Frame) (frames : List Frame) (samples : List (List ℤ)) (end : Option (Place × Why)) → samples ≡ samples_of frames → last_frame new ≡ Some (frame f) → new.ahead ≡ false
    → IsFirst g (map frame frames) end (answer (last_frame new)) (stage_of new.decoder) → SamplesLeft new (size_of (last_frame new)) samples end
unfolding samples_of
next_frame new f [] samples None split is ahead first = absurd (not_end (sym (ap answer is) ∙ first.0))
  where
    not_end : answer (Some (frame f)) ≡ Ok None → ⊥
    not_end e = absurd cc
next_frame new f [] samples (Some r) split is ahead first = absurd (not_refused (sym (ap answer is) ∙ first.0))
  where
    not_refused : answer (Some (frame f)) ≡ Err (record { at = r.0; why = r.1 }) → ⊥
    not_refused e = absurd cc
next_frame {g = g} new f (x ∷ xs) samples end split is ahead first = record {
  frames = xs;
  split = split ∙ ap (λ k. k ++ samples_of xs) (sym (whole_left (last_frame new) x (same (last_frame new) first.0)));
  come = subst (λ k. FramesCome g k (stage_of new.decoder) xs end) (sym ahead) first.1;
}
  where
    same : (h : Option Item) → answer h ≡ Ok (Some (frame x)) → h ≡ Some (frame x)
    same h e = cc

no_frame : {C : Type 0} {g : container.Ghosts C} (new : Reader C g) (more : ℕ) (frames : List Frame) (samples : List (List ℤ)) (end : Option (Place × Why)) → samples ≡ samples_of frames → last_frame new ≡ None → new.ahead ≡ false
    → IsFirst g (map frame frames) end (answer (last_frame new)) (stage_of new.decoder) → (samples ≡ []) × (end ≡ None) × SamplesLeft new more samples end
unfolding samples_of
no_frame {g = g} new more [] samples None split is ahead first = (
  split,
  refl,
  record {
    frames = [];
    split = split ∙ ap (λ l. l ++ []) (sym (ap (λ h. left_in h more) is));
    come = subst (λ k. FramesCome g k (stage_of new.decoder) [] None) (sym ahead) first.1;
  },
)
no_frame new more [] samples (Some r) split is ahead first = absurd (not_refused (sym (ap answer is) ∙ first.0))
  where
    not_refused : answer None ≡ Err (record { at = r.0; why = r.1 }) → ⊥
    not_refused e = absurd cc
no_frame new more (x ∷ xs) samples end split is ahead first = absurd (not_frame (sym (ap answer is) ∙ first.0))
  where
    not_frame : answer None ≡ Ok (Some (frame x)) → ⊥
    not_frame e = absurd cc

abbrev failure : {X : Type 0} → Fault → Result X Fault
failure f = Err f

refusal : {C : Type 0} {g : container.Ghosts C} (new : Reader C g) (f : Fault) (frames : List Frame) (samples : List (List ℤ)) (end : Option (Place × Why)) → samples ≡ samples_of frames
    → IsFirst g (map frame frames) end (Err f) (stage_of new.decoder) → (samples ≡ []) × (end ≡ Some (fault_pair f))
unfolding samples_of
refusal new f [] samples None split first = absurd (not_end first.0)
  where
    not_end : failure {X = Option Item} f ≡ Ok None → ⊥
    not_end e = absurd cc
refusal new f [] samples (Some r) split first = (split, ap (λ (h : Fault). Some (h.at, h.why)) (sym (same first.0)))
  where
    same : failure {X = Option Item} f ≡ Err (record { at = r.0; why = r.1 }) → f ≡ record { at = r.0; why = r.1 }
    same e = cc
refusal new f (x ∷ xs) samples end split first = absurd (not_frame first.0)
  where
    not_frame : failure {X = Option Item} f ≡ Ok (Some (frame x)) → ⊥
    not_frame e = absurd cc

abbrev wrong : {X : Type 0} → Why → Result X Why
wrong w = Err w

had_room : {X : Type 0} (f : Fault) → f.why ≢ Memory → reason_of fault_pair (failure {X = X} f) ≡ Err Memory → ⊥
had_room {X} f other e = other (inside e)
  where
    inside : wrong {X = X} f.why ≡ Err Memory → f.why ≡ Memory
    inside h = cc

-- ---- a call that goes on if nothing is left

pub enters_frame : {C X : Type 0} {g : container.Ghosts C} (old new : Reader C g) (left more : ℕ) (x : X) (f : Frame) → left ≡ 0 → more ≡ size_of (last_frame new) → last_frame new ≡ Some (frame f) → Gives {X = X} old new (λ _. last_frame new) (Ok x) → Enters old left new more (Ok true)
enters_frame old new left more x f none is held gives = λ known samples end q.
    let calm : IsCalmIn old new = (known, gives.counts.met.1, gives.counts.met.2) in
    subst (λ n. SamplesLeft new n samples end) (sym is)
    (next_frame new f q.frames samples end (of_frames old left samples end none q) held gives.ahead (gives.frame calm (room x) q.frames end q.come))

pub enters_end : {C X : Type 0} {g : container.Ghosts C} (old new : Reader C g) (left more : ℕ) (x : X) → left ≡ 0 → last_frame new ≡ None → Gives {X = X} old new (λ _. last_frame new) (Ok x) → Enters old left new more (Ok false)
enters_end old new left more x none held gives = λ known samples end q.
    let calm : IsCalmIn old new = (known, gives.counts.met.1, gives.counts.met.2) in
    no_frame new more q.frames samples end (of_frames old left samples end none q) held gives.ahead (gives.frame calm (room x) q.frames end q.come)

pub enters_refusal : {C X : Type 0} {g : container.Ghosts C} (old new : Reader C g) (left more : ℕ) (f : Fault) → left ≡ 0 → Gives {X = X} old new (λ _. last_frame new) (Err f) → Enters old left new more (Err f)
enters_refusal {X = X} old new left more f none gives = λ calm other samples end q.
    refusal new f q.frames samples end (of_frames old left samples end none q) (gives.frame calm (had_room {X = X} f other) q.frames end q.come)

pub enters_none : {C : Type 0} {g : container.Ghosts C} (old : Reader C g) (left : ℕ) → Enters old left old left (Ok true)
enters_none old left = λ known samples end q. q
