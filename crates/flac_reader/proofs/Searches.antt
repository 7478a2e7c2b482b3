-- A search for the frame that holds a sample.
use Rattle.std.proofs.Common.{◌≡◌, ℕ, Bool, true, List, [], ◌∷◌, ◌++◌, append_assoc, map, Option, Some, None, Result, Ok, Err, refl, sym, ap, subst, ◌∙◌, arith}
use Rattle.std.specs.Borrow.{GName}
use Rattle.std.specs.List.{list_any}
use Rattle.std.proofs.lemmas.List.{append-nil}
use Rattle.std.proofs.lemmas.List.Folds.{list_any-append}
use Rattle.flac_bits.specs.Reasons.{of_output}
use Rattle.flac_bits.specs.State.{Rises}
use Rattle.flac_bits.specs.Handing.{InputReading}
use Rattle.flac_bits.specs.declared.why.Why.{Why}
use Rattle.flac_bits.specs.declared.why.Why.TheVariants.{Memory, Read}
use Rattle.flac_info.specs.Info.{Info}
use Rattle.flac_frame.specs.Frame.{Frame}
use Rattle.flac_native.specs.Stream.{Piece, Progress}
use Rattle.flac_native.specs.Track.{IsAt}
use Rattle.flac_native.specs.Coming.{ReadAs}
use Rattle.flac_native.specs.declared.decoder.Course.TheVariants as course
use Rattle.flac_native.specs.Item.{Item, frame, fault_pair}
use Rattle.flac_native.specs.Giving.{Stage, stage_of, held}
use Rattle.flac_native.specs.declared.decoder.Decoder.{Decoder}
use Rattle.flac_native.specs.declared.fault.Place.{Place}
use Rattle.flac_native.specs.declared.fault.Fault.{Fault}
use Rattle.flac_native.specs.declared.container.Container as container
use Rattle.flac_reader.specs.Coming.{Comes, IsFirst, IsCalm, IsPast, HadMemory, Counted, only_frame}
use Rattle.flac_reader.specs.Opening.{IsReadAs, IsOver}
use Rattle.flac_reader.specs.Seeking.{holds, PassedBy, HoldsFirst, Finds, RefusesSeek}
use Rattle.flac_reader.specs.inner.Seeking.{FirstIfHeld, Passes}
use Rattle.flac_reader.specs.declared.reader.Reader.{Reader}
use Rattle.flac_reader.proofs.Heads.{room, same_room}
use Rattle.flac_reader.proofs.Openings.{begun_comes}
use Rattle.flac_reader.proofs.Refusals.{had_room}

abbrev answer : Option Item → Result (Option Item) Fault
answer h = Ok h

same_frame : (f x : Frame) → answer (Some (frame f)) ≡ Ok (Some (frame x)) → f ≡ x
same_frame f x e = cc

-- ---- one frame

-- the frame that was read is the first of those that were to come
pub frame_first : {C : Type 0} (g : container.Ghosts C) (frames : List Frame) (end : Option (Place × Why)) (f : Frame) (s : Stage C) → IsFirst g (map frame frames) end (Ok (Some (frame f))) s
    → (rest : List Frame) × (frames ≡ f ∷ rest) × Comes g s (map frame rest) end
frame_first g [] None f s first = absurd (not_end first.0)
  where
    not_end : answer (Some (frame f)) ≡ Ok None → ⊥
    not_end e = absurd cc
frame_first g [] (Some r) f s first = absurd (not_refused first.0)
  where
    not_refused : answer (Some (frame f)) ≡ Err (record { at = r.0; why = r.1 }) → ⊥
    not_refused e = absurd cc
frame_first g (x ∷ xs) end f s first = (xs, ap (λ k. k ∷ xs) (sym (same_frame f x first.0)), first.1)

-- it holds the sample
pub holds_first : {C : Type 0} (g : container.Ghosts C) (info : Info) (sample : ℕ) (frames : List Frame) (end : Option (Place × Why)) (f : Frame) (s : Stage C) → holds info sample f ≡ true → IsFirst g (map frame frames) end (Ok (Some (frame f))) s
    → HoldsFirst info sample frames
holds_first g info sample [] end f s is first = tt
holds_first g info sample (x ∷ xs) end f s is first = subst (λ k. holds info sample k ≡ true) (same_frame f x first.0) is

-- what was read is no frame, so that none is to come
pub none_first : {C : Type 0} (g : container.Ghosts C) (info : Info) (sample : ℕ) (frames : List Frame) (end : Option (Place × Why)) (h : Option Item) (s : Stage C) → only_frame h ≡ None → IsFirst g (map frame frames) end (Ok h) s → HoldsFirst info sample frames
none_first g info sample [] end h s none first = tt
none_first g info sample (x ∷ xs) end h s none first = absurd (not_none (sym (ap only_frame (same h first.0)) ∙ none))
  where
    same : (h : Option Item) → answer h ≡ Ok (Some (frame x)) → h ≡ Some (frame x)
    same h e = cc

    not_none : only_frame (Some (frame x)) ≡ None → ⊥
    not_none e = absurd cc

-- ---- frames that were passed by

pub record PassedSoFar {C : Type 0} (g : container.Ghosts C) (info : Info) (sample : ℕ) (frames : List Frame) (end : Option (Place × Why)) (s : Stage C) : Type 0 where
  pub taken : List Frame
  pub left : List Frame
  pub split : frames ≡ taken ++ left
  pub by : PassedBy info sample taken
  pub comes : Comes g s (map frame left) end

-- so far, where the source told its bytes from the start
pub record SearchSoFar {C : Type 0} (g : container.Ghosts C) (old now : Stage C) (info : Info) (sample : ℕ) : Type 0 where
  pub known : g.known old.container ≡ true → g.known now.container ≡ true
  pub errors : g.errors now.container ≡ g.errors old.container
  pub raised : g.raised now.container ≡ g.raised old.container
  pub met : g.met now.container ≡ g.met old.container
  pub names : g.names now.container ≡ g.names old.container
  pub past : IsPast old → IsPast now
  pub passed : g.known old.container ≡ true → (frames : List Frame) (end : Option (Place × Why)) → Comes g old (map frame frames) end → PassedSoFar g info sample frames end now

pub search_starts : {C : Type 0} (g : container.Ghosts C) (s : Stage C) (info : Info) (sample : ℕ) → SearchSoFar g s s info sample
search_starts g s info sample = record {
  known = λ k. k;
  errors = refl;
  raised = refl;
  met = refl;
  names = refl;
  past = λ k. k;
  passed = λ known frames end comes. record { taken = []; left = frames; split = refl; by = refl; comes = comes };
}

-- what a call that passes a frame by says
abbrev pub Passing : {C : Type 0} → container.Ghosts C → Info → ℕ → Stage C → Stage C → Result (Option ℕ) Fault → Type 0
Passing g info sample now new result = IsCalm g now new → HadMemory result → (frames : List Frame) (end : Option (Place × Why)) → Comes g now (map frame frames) end → Passes g info sample frames end result new

-- one more
pub search_more : {C : Type 0} (g : container.Ghosts C) (old now new : Stage C) (info : Info) (sample : ℕ) → SearchSoFar g old now info sample → Counted {X = Option ℕ} g now new (Ok None) → Passing g info sample now new (Ok None) → (IsPast now → IsPast new) → SearchSoFar g old new info sample
search_more g old now new info sample far counts passes past = record {
  known = λ k. counts.met.0 (far.known k);
  errors = counts.met.1 ∙ far.errors;
  raised = counts.met.2 ∙ far.raised;
  met = counts.met.3 ∙ far.met;
  names = counts.names ∙ far.names;
  past = λ k. past (far.past k);
  passed = λ known frames end comes.
      let p = far.passed known frames end comes in
      let t = passes (far.known known, counts.met.1, counts.met.2) (room None) p.left end p.comes in
      record {
        taken = p.taken ++ t.0 ∷ [];
        left = t.1;
        split = p.split ∙ ap (λ k. p.taken ++ k) t.2 ∙ sym (append_assoc p.taken (t.0 ∷ []) t.1);
        by = list_any-append (holds info sample) p.taken (t.0 ∷ []) ∙ rw (p.by, t.3) refl;
        comes = t.4;
      };
}

-- the frame was found, or there is none
pub search_ends : {C : Type 0} (g : container.Ghosts C) (old now new : Stage C) (info : Info) (sample : ℕ) (n : ℕ) → SearchSoFar g old now info sample → Passing g info sample now new (Ok (Some n))
    → IsCalm g old new → (frames : List Frame) (end : Option (Place × Why)) → Comes g old (map frame frames) end → Finds g info sample frames end true new
search_ends g old now new info sample n far passes calm frames end comes =
    let p = far.passed calm.0 frames end comes in
    let t = passes (far.known calm.0, calm.1 ∙ sym far.errors, calm.2 ∙ sym far.raised) (room (Some n)) p.left end p.comes in
    record { passed = p.taken; left = p.left; split = p.split; by = p.by; holds = t.0; come = t.1 }

-- the stream is refused after the frames that were passed by
pub search_refused : {C X : Type 0} (g : container.Ghosts C) (old now new : Stage C) (info : Info) (sample : ℕ) (f : Fault) → SearchSoFar g old now info sample → Passing g info sample now new (Err f)
    → IsCalm g old new → HadMemory {X = X} (Err f) → (frames : List Frame) (end : Option (Place × Why)) → Comes g old (map frame frames) end → PassedBy info sample frames × (end ≡ Some (fault_pair f))
search_refused g old now new info sample f far passes calm roomy frames end comes =
    let p = far.passed calm.0 frames end comes in
    let t = passes (far.known calm.0, calm.1 ∙ sym far.errors, calm.2 ∙ sym far.raised) (same_room f roomy) p.left end p.comes in
    let all : p.taken ≡ frames = sym (p.split ∙ ap (λ k. p.taken ++ k) t.0 ∙ append-nil p.taken) in
    (sym (ap (λ k. list_any (holds info sample) k) all) ∙ p.by, t.1)

-- ---- errors of the device

pub search_ok : {C X Y : Type 0} (g : container.Ghosts C) (old now new : Stage C) (info : Info) (sample : ℕ) (x : X) (y : Y) → SearchSoFar g old now info sample → Counted {X = X} g now new (Ok x) → Counted {X = Y} g old new (Ok y)
search_ok g old now new info sample x y far counts = record {
  met = (λ k. counts.met.0 (far.known k), counts.met.1 ∙ far.errors, counts.met.2 ∙ far.raised, counts.met.3 ∙ far.met);
  kept = omega (arith, counts.kept, far.errors);
  risen = tt;
  output = tt;
  names = counts.names ∙ far.names;
}

pub search_err : {C X Y : Type 0} (g : container.Ghosts C) (old now new : Stage C) (info : Info) (sample : ℕ) (f : Fault) → SearchSoFar g old now info sample → Counted {X = X} g now new (Err f) → Counted {X = Y} g old new (Err f)
search_err g old now new info sample f far counts = record {
  met = tt;
  kept = omega (arith, counts.kept, far.errors);
  risen = λ is. subst (λ n. Rises n (g.met new.container)) far.met (counts.risen is);
  output = counts.output;
  names = counts.names ∙ far.names;
}

-- ---- what one call says

pub frame_passes : {C : Type 0} (g : container.Ghosts C) (info : Info) (sample : ℕ) (frames : List Frame) (end : Option (Place × Why)) (f : Frame) (s : Stage C) (r : Option ℕ) → held s.course s.track ≡ Some (frame f) → FirstIfHeld info sample f r
    → IsFirst g (map frame frames) end (Ok (held s.course s.track)) s → Passes g info sample frames end (Ok r) s
frame_passes g info sample frames end f s None is other first =
    let t = frame_first g frames end f s (subst (λ h. IsFirst g (map frame frames) end (answer h) s) is first) in
    (f, t.0, t.1, other, t.2)
frame_passes g info sample frames end f s (Some n) is found first = (holds_first g info sample frames end f s found.0 (subst (λ h. IsFirst g (map frame frames) end (answer h) s) is first), first)

pub none_passes : {C : Type 0} (g : container.Ghosts C) (info : Info) (sample : ℕ) (frames : List Frame) (end : Option (Place × Why)) (s : Stage C) (n : ℕ) → only_frame (held s.course s.track) ≡ None
    → IsFirst g (map frame frames) end (Ok (held s.course s.track)) s → Passes g info sample frames end (Ok (Some n)) s
none_passes g info sample frames end s n none first = (none_first g info sample frames end (held s.course s.track) s none first, first)

-- ---- over an input

-- a decoder that was to give what the input is
input_comes : {C : Type 0} (g : container.Ghosts C) (r : InputReading Piece Place) (s : Stage C) (p : Progress) → s.course ≡ course.Begun → IsAt s.track p → ((parts : List Piece) (end : Option (Place × Why)) → ReadAs r parts end → g.gives s.container p parts end)
    → (frames : List Frame) (end : Option (Place × Why)) → IsReadAs r [] frames end → Comes g s (map frame frames) end
input_comes g r s p begun at gives frames end is = begun_comes g s p (map frame frames) end begun at (is.parts, sym is.items, gives is.parts end is.read)

pub seek_finds : {C : Type 0} (g : container.Ghosts C) (r : InputReading Piece Place) (info : Info) (sample n : ℕ) (s new : Stage C) (p : Progress) → s.course ≡ course.Begun → IsAt s.track p
    → ((parts : List Piece) (end : Option (Place × Why)) → ReadAs r parts end → g.gives s.container p parts end) → IsCalm g s new
    → (IsCalm g s new → HadMemory {X = ℕ} (Ok n) → (frames : List Frame) (end : Option (Place × Why)) → Comes g s (map frame frames) end → Finds g info sample frames end true new)
    → (frames : List Frame) (end : Option (Place × Why)) → IsReadAs r [] frames end → Finds g info sample frames end true new
seek_finds g r info sample n s new p begun at gives calm finds frames end is = finds calm (room n) frames end (input_comes g r s p begun at gives frames end is)

pub seek_refuses : {C : Type 0} {g : container.Ghosts C} (r : InputReading Piece Place) (info : Info) (sample : ℕ) (d new : Decoder C g) (p : Progress) (f : Fault) (known : Bool) (errors raised errors_left raised_left : ℕ)
    → (stage_of d).course ≡ course.Begun → IsAt (stage_of d).track p → ((parts : List Piece) (end : Option (Place × Why)) → ReadAs r parts end → g.gives (stage_of d).container p parts end)
    → g.known (stage_of d).container ≡ known → g.errors (stage_of d).container ≡ errors → g.raised (stage_of d).container ≡ raised → g.met (stage_of d).container ≡ raised
    → g.errors (stage_of new).container ≡ errors_left → g.raised (stage_of new).container ≡ raised_left → g.met (stage_of new).container ≡ raised_left
    → Counted {X = ℕ} g (stage_of d) (stage_of new) (Err f)
    → (IsCalm g (stage_of d) (stage_of new) → HadMemory {X = ℕ} (Err f) → (frames : List Frame) (end : Option (Place × Why)) → Comes g (stage_of d) (map frame frames) end → PassedBy info sample frames × (end ≡ Some (fault_pair f)))
    → RefusesSeek info sample r known errors raised errors_left raised_left f
seek_refuses {g = g} r info sample d new p f known errors raised errors_left raised_left begun at gives is_known e r0 m e' r' m' counts refused = record {
  kept = omega (arith, counts.kept, e, e');
  risen = λ is. subst (λ n. Rises raised n) m' (subst (λ n. Rises n (g.met (stage_of new).container)) m (counts.risen is));
  output = counts.output;
  refused = λ k same_errors same_raised other frames end is.
      refused (is_known ∙ k, e' ∙ same_errors ∙ sym e, r' ∙ same_raised ∙ sym r0) (had_room f other) frames end (input_comes g r (stage_of d) p begun at gives frames end is);
}

-- a reader before what was read ahead
pub finds_at : {C : Type 0} {g : container.Ghosts C} (info : Info) (sample : ℕ) (frames : List Frame) (end : Option (Place × Why)) (reader : Reader C g) (d : Decoder C g) → reader.decoder ≡ d → reader.ahead ≡ true
    → Finds g info sample frames end true (stage_of d) → Finds g info sample frames end reader.ahead (stage_of reader.decoder)
finds_at {g = g} info sample frames end reader d is ahead finds =
    subst (λ k. Finds g info sample frames end k (stage_of reader.decoder)) (sym ahead) (subst (λ (k : Decoder _ g). Finds g info sample frames end true (stage_of k)) (sym is) finds)

pub over_at : {C : Type 0} {g : container.Ghosts C} (reader : Reader C g) (old d : Decoder C g) (n : ℕ) (known : Bool) (errors raised : ℕ) (names : List GName) → reader.decoder ≡ d
    → g.known (stage_of old).container ≡ known → g.errors (stage_of old).container ≡ errors → g.met (stage_of old).container ≡ raised → g.names (stage_of old).container ≡ names
    → Counted {X = ℕ} g (stage_of old) (stage_of d) (Ok n) → IsOver known errors raised names reader
over_at {g = g} reader old d n known errors raised names is k e m l counts =
    let P : Decoder _ g → Type 0 = λ x. Counted {X = ℕ} g (stage_of old) (stage_of x) (Ok n) in
    let c = subst P (sym is) counts in
    record { known = λ h. c.met.0 (k ∙ h); errors = c.met.1 ∙ e; met = c.met.3 ∙ m; names = c.names ∙ l }

pub past_at : {C : Type 0} {g : container.Ghosts C} (reader : Reader C g) (d : Decoder C g) → reader.decoder ≡ d → IsPast (stage_of d) → IsPast (stage_of reader.decoder)
past_at {g = g} reader d is past = subst (λ (x : Decoder _ g). IsPast (stage_of x)) (sym is) past

-- memory ran out before anything was read
pub seek_unread : (info : Info) (sample : ℕ) (r : InputReading Piece Place) (known : Bool) (errors raised : ℕ) (f : Fault) → f.why ≡ Memory → RefusesSeek info sample r known errors raised errors raised f
seek_unread info sample r known errors raised f e = record {
  kept = omega arith;
  risen = λ is. absurd (other (sym e ∙ is));
  output = ap of_output e;
  refused = λ k same_errors same_raised room. absurd (room e);
}
  where
    other : Memory ≡ Read → ⊥
    other e = absurd cc

pub search_no_more : {C X : Type 0} (g : container.Ghosts C) (old now : Stage C) (info : Info) (sample : ℕ) (at : Place) → SearchSoFar g old now info sample → Counted {X = X} g old now (Err (record { at = at; why = Memory }))
search_no_more g old now info sample at far = record {
  met = tt;
  kept = omega (arith, far.errors);
  risen = λ is. absurd (other is);
  output = refl;
  names = far.names;
}
  where
    other : Memory ≡ Read → ⊥
    other e = absurd cc
