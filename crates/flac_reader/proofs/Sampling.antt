-- What an iterator over samples has still to give, step by step.
use Rattle.std.proofs.Common.{◌≡◌, ℕ, ◌+◌, ◌<◌, ◌≤◌, min, ◌⊎◌, inl, inr, length, Bool, true, false, cond, ℤ, List, [], ◌∷◌, ◌++◌, map, Option, Some, None, Result, Ok, Err, refl, sym, ap, subst, ◌∙◌, arith}
use Rattle.flac_bits.specs.declared.why.Why.{Why}
use Rattle.flac_bits.specs.State.{Rises}
use Rattle.flac_bits.specs.declared.why.Why.TheVariants.{Memory, Read}
use Rattle.flac_frame.specs.Frame.{Frame}
use Rattle.flac_frame.specs.Interleaved.{interleaved}
use Rattle.flac_native.specs.Item.{Item, frame}
use Rattle.flac_native.specs.Giving.{stage_of, Stage}
use Rattle.flac_native.specs.declared.fault.Place.{Place}
use Rattle.flac_native.specs.declared.fault.Place.TheVariants as place
use Rattle.flac_native.specs.declared.fault.Fault.{Fault}
use Rattle.flac_native.specs.declared.container.Container as container
use Rattle.flac_reader.specs.Coming.{FramesCome, IsFirst, IsCalm, IsPast, Counted, size_of}
use Rattle.flac_reader.specs.Giving.{last_frame, Gives}
use Rattle.flac_reader.specs.Places.{all_samples, samples_from, left_at, is_over}
use Rattle.flac_reader.specs.Sampling.{SamplesLeft, ComeAfter, SamplesCome, IsFirstSample, count_after, first_after, Enters, Steps, calls_left, GivesSample}
use Rattle.flac_reader.specs.inner.Stepping.{TakesSample, EntersFrame}
use Rattle.flac_reader.specs.declared.reader.Reader.{Reader}
use Rattle.flac_reader.specs.declared.samples.Samples.{Samples}
use Rattle.flac_reader.specs.declared.spot.Spot.{Spot}
use Rattle.flac_reader.specs.declared.spot.Spot.TheVariants as spot
use Rattle.flac_reader.proofs.Heads.{room, same_room, same_counts}
use Rattle.flac_reader.proofs.Places.{from_start}

-- ---- where a spot is

not_over : (s : Spot) → is_over s ≡ false → s ≡ spot.Over → ⊥
not_over spot.Next going is = absurd cc
not_over (spot.Inside c i) going is = absurd cc
not_over spot.Over going is = absurd cc

-- what comes is what is left of a frame, and what the reader has still to give
apart : {C : Type 0} {g : container.Ghosts C} (s : Spot) (r : Reader C g) (samples : List ℤ) (end : Option (Place × Why)) → is_over s ≡ false → ComeAfter s r samples end → SamplesLeft r (left_at s (last_frame r)) samples end
apart spot.Next r samples end going come = come
apart (spot.Inside c i) r samples end going come = come
apart spot.Over r samples end going come = absurd cc

-- ---- which frames were read

-- these, of which all but the last have no samples; the last is the frame that was read last, from its start on
pub record EnteredSo {C : Type 0} {g : container.Ghosts C} (old now : Samples C g) (passed : List Frame) (f : Frame) : Type 0 where
  pub empty : all_samples passed ≡ []
  pub held : last_frame now.reader ≡ Some (frame f)
  pub at : now.spot ≡ spot.Inside 0 0
  pub first : now.reader.first ≡ count_after old.reader.after passed
  pub next : now.reader.after ≡ min (now.reader.first + f.size) 18446744073709551615
  pub left : old.left ≡ now.left + length passed + 1

-- none so far, or these
abbrev pub ReadSo : {C : Type 0} {g : container.Ghosts C} → Samples C g → Samples C g → Type 0
ReadSo old now = ((now.reader ≡ old.reader) × (now.left ≡ old.left)) ⊎ ((passed : List Frame) × (f : Frame) × EnteredSo old now passed f)

-- all of these have no samples
record PassedSo {C : Type 0} {g : container.Ghosts C} (old now : Samples C g) (passed : List Frame) : Type 0 where
  pub empty : all_samples passed ≡ []
  pub first : now.reader.first ≡ first_after old.reader.first old.reader.after passed
  pub next : now.reader.after ≡ count_after old.reader.after passed
  pub left : old.left ≡ now.left + length passed

-- so it is if nothing is left of the frame that was read last
passed_so : {C : Type 0} {g : container.Ghosts C} (old now : Samples C g) → ReadSo old now → left_at now.spot (last_frame now.reader) ≡ [] → (passed : List Frame) × PassedSo old now passed
unfolding all_samples count_after
passed_so {g = g} old now (inl (same, left)) none = (
  [],
  record { empty = refl; first = ap (λ (r : Reader _ g). r.first) same; next = ap (λ (r : Reader _ g). r.after) same; left = omega (arith, left) },
)
passed_so old now (inr (passed, f, e)) none =
    let left : samples_from f 0 0 ≡ [] = subst (λ o. left_at (spot.Inside 0 0) o ≡ []) e.held (subst (λ s. left_at s (last_frame now.reader) ≡ []) e.at none) in (
      f ∷ passed,
      record {
        empty = ap (λ k. k ++ all_samples passed) (sym (from_start f) ∙ left) ∙ e.empty;
        first = e.first;
        next = e.next ∙ ap (λ n. min (n + f.size) 18446744073709551615) e.first;
        left = omega (arith, e.left);
      },
    )

-- so far, where the source told its bytes from the start: no sample was given, and the same ones come
pub record SamplesSoFar {C : Type 0} {g : container.Ghosts C} (old now : Samples C g) : Type 0 where
  pub known : g.known (stage_of old.reader.decoder).container ≡ true → g.known (stage_of now.reader.decoder).container ≡ true
  pub errors : g.errors (stage_of now.reader.decoder).container ≡ g.errors (stage_of old.reader.decoder).container
  pub raised : g.raised (stage_of now.reader.decoder).container ≡ g.raised (stage_of old.reader.decoder).container
  pub met : g.met (stage_of now.reader.decoder).container ≡ g.met (stage_of old.reader.decoder).container
  pub names : g.names (stage_of now.reader.decoder).container ≡ g.names (stage_of old.reader.decoder).container
  pub past : IsPast (stage_of old.reader.decoder) → IsPast (stage_of now.reader.decoder)
  pub reads : ReadSo old now
  pub blocks : now.reader.blocks ≡ old.reader.blocks
  pub info : now.reader.info ≡ old.reader.info
  pub start : now.reader.start ≡ old.reader.start
  pub left : now.left ≤ old.left
  pub going : is_over now.spot ≡ false
  pub same : g.known (stage_of old.reader.decoder).container ≡ true → (samples : List ℤ) (end : Option (Place × Why)) → SamplesCome old samples end → SamplesCome now samples end

pub samples_start : {C : Type 0} {g : container.Ghosts C} (s : Samples C g) → is_over s.spot ≡ false → SamplesSoFar s s
samples_start s going = record {
  known = λ k. k;
  errors = refl;
  raised = refl;
  met = refl;
  names = refl;
  past = λ k. k;
  reads = inl (refl, refl);
  blocks = refl;
  info = refl;
  start = refl;
  left = omega arith;
  going = going;
  same = λ known samples end come. come;
}

-- ---- a sample of the frame that was read last

over_comes : {C : Type 0} {g : container.Ghosts C} (s : Samples C g) → s.spot ≡ spot.Over → SamplesCome s [] None
over_comes s is = subst (λ k. ComeAfter k s.reader [] None) (sym is) (refl, refl)

inside_comes : {C : Type 0} {g : container.Ghosts C} (s : Samples C g) (c i : ℕ) (samples : List ℤ) (end : Option (Place × Why)) → s.spot ≡ spot.Inside c i → SamplesLeft s.reader (left_at s.spot (last_frame s.reader)) samples end → SamplesCome s samples end
inside_comes s c i samples end is left = subst (λ k. ComeAfter k s.reader samples end) (sym is) (subst (λ k. SamplesLeft s.reader (left_at k (last_frame s.reader)) samples end) is left)

first_is : {C : Type 0} {g : container.Ghosts C} (samples xs : List ℤ) (x : ℤ) (end : Option (Place × Why)) (s : Samples C g) → samples ≡ x ∷ xs → SamplesCome s xs end → IsFirstSample samples end (Ok (Some x)) s
first_is {g = g} samples xs x end s is come = subst (λ k. IsFirstSample {g = g} k end (Ok (Some x)) s) (sym is) (refl, come)

gave : {C : Type 0} {g : container.Ghosts C} (now new : Samples C g) (x : ℤ) (samples : List ℤ) (end : Option (Place × Why)) → is_over now.spot ≡ false → new.reader ≡ now.reader → TakesSample now.spot new.spot (last_frame now.reader) (Some x)
    → SamplesCome now samples end → IsFirstSample samples end (Ok (Some x)) new
gave {g = g} now new x samples end going same takes come =
    let q = apart now.spot now.reader samples end going come in
    let l = subst (λ r. left_at now.spot (last_frame r) ≡ x ∷ left_at new.spot (last_frame r)) (sym same) takes.3 in
    first_is samples (left_at new.spot (last_frame new.reader) ++ all_samples q.frames) x end new
    (q.split ∙ ap (λ r. left_at now.spot (last_frame r) ++ all_samples q.frames) (sym same) ∙ ap (λ k. k ++ all_samples q.frames) l)
    (inside_comes new takes.0 takes.1 _ end takes.2 (record { frames = q.frames; split = refl; come = subst (λ (r : Reader _ g). FramesCome g r.ahead (stage_of r.decoder) q.frames end) (sym same) q.come }))

-- ---- the next frame

abbrev answer : Option Item → Result (Option Item) Fault
answer h = Ok h

-- what comes after a frame of which nothing is left
after : {C : Type 0} {g : container.Ghosts C} (now next : Samples C g) (samples : List ℤ) (end : Option (Place × Why)) → is_over now.spot ≡ false → next.reader ≡ now.reader → left_at now.spot (last_frame now.reader) ≡ [] → SamplesCome now samples end
    → SamplesLeft next.reader [] samples end
after {g = g} now next samples end going same none come =
    let q = apart now.spot now.reader samples end going come in
    record { frames = q.frames; split = q.split ∙ ap (λ k. k ++ all_samples q.frames) none; come = subst (λ (r : Reader _ g). FramesCome g r.ahead (stage_of r.decoder) q.frames end) (sym same) q.come }

frame_comes : {C : Type 0} {g : container.Ghosts C} (new : Samples C g) (f : Frame) (frames : List Frame) (samples : List ℤ) (end : Option (Place × Why)) → samples ≡ all_samples frames → last_frame new.reader ≡ Some (frame f) → new.spot ≡ spot.Inside 0 0 → new.reader.ahead ≡ false
    → IsFirst g (map frame frames) end (answer (last_frame new.reader)) (stage_of new.reader.decoder) → SamplesCome new samples end
unfolding all_samples
frame_comes {g = g} new f [] samples None split is at ahead first = absurd (not_end (sym (ap answer is) ∙ first.0))
  where
    not_end : answer (Some (frame f)) ≡ Ok None → ⊥
    not_end e = absurd cc
frame_comes {g = g} new f [] samples (Some r) split is at ahead first = absurd (not_refused (sym (ap answer is) ∙ first.0))
  where
    not_refused : answer (Some (frame f)) ≡ Err (record { at = r.0; why = r.1 }) → ⊥
    not_refused e = absurd cc
frame_comes {g = g} new f (x ∷ xs) samples end split is at ahead first =
    inside_comes new 0 0 samples end at (record {
      frames = xs;
      split = split ∙ ap (λ k. k ++ all_samples xs) (sym (left (last_frame new.reader) first.0));
      come = subst (λ k. FramesCome g k (stage_of new.reader.decoder) xs end) (sym ahead) first.1;
    })
  where
    same : (h : Option Item) → answer h ≡ Ok (Some (frame x)) → h ≡ Some (frame x)
    same h e = cc

    left : (h : Option Item) → answer h ≡ Ok (Some (frame x)) → left_at new.spot h ≡ interleaved x
    left h e = rw (same h e, at) (from_start x)

end_comes : {C : Type 0} {g : container.Ghosts C} (new : Samples C g) (frames : List Frame) (samples : List ℤ) (end : Option (Place × Why)) (s : Stage C) → samples ≡ all_samples frames → new.spot ≡ spot.Over
    → IsFirst g (map frame frames) end (Ok None) s → IsFirstSample samples end (Ok None) new
unfolding all_samples
end_comes {g = g} new [] samples None s split over first = subst (λ k. IsFirstSample {g = g} k None (Ok None) new) (sym split) (refl, over_comes new over)
end_comes new [] samples (Some r) s split over first = absurd (not_refused first.0)
  where
    not_refused : answer None ≡ Err (record { at = r.0; why = r.1 }) → ⊥
    not_refused e = absurd cc
end_comes new (x ∷ xs) samples end s split over first = absurd (not_frame first.0)
  where
    not_frame : answer None ≡ Ok (Some (frame x)) → ⊥
    not_frame e = absurd cc

abbrev failure : {X : Type 0} → Fault → Result X Fault
failure f = Err f

refusal_comes : {C : Type 0} {g : container.Ghosts C} (new : Samples C g) (frames : List Frame) (samples : List ℤ) (end : Option (Place × Why)) (f : Fault) (s : Stage C) → samples ≡ all_samples frames → new.spot ≡ spot.Over
    → IsFirst g (map frame frames) end (Err f) s → IsFirstSample samples end (Err f) new
unfolding all_samples
refusal_comes new [] samples None f s split over first = absurd (not_end first.0)
  where
    not_end : failure {X = Option Item} f ≡ Ok None → ⊥
    not_end e = absurd cc
refusal_comes {g = g} new [] samples (Some r) f s split over first = subst (λ k. IsFirstSample {g = g} k (Some r) (Err f) new) (sym split) (ap failure (same first.0), over_comes new over)
  where
    same : failure {X = Option Item} f ≡ Err (record { at = r.0; why = r.1 }) → f ≡ record { at = r.0; why = r.1 }
    same e = cc
refusal_comes new (x ∷ xs) samples end f s split over first = absurd (not_frame first.0)
  where
    not_frame : failure {X = Option Item} f ≡ Ok (Some (frame x)) → ⊥
    not_frame e = absurd cc

-- ---- one turn

pub turn : {C : Type 0} {g : container.Ghosts C} (old now next new : Samples C g) → SamplesSoFar old now → next.reader ≡ now.reader → next.left + 1 ≡ now.left → TakesSample now.spot next.spot (last_frame now.reader) None
    → Gives {X = Bool} next.reader new.reader (λ _. last_frame new.reader) (Ok true) → new.left ≡ next.left → EntersFrame (last_frame new.reader) new.spot (Ok true) → SamplesSoFar old new
turn {g = g} old now next new far same fewer none gives left enters =
    let met = subst (λ (r : Reader _ g). Counted {X = Bool} g (stage_of r.decoder) (stage_of new.reader.decoder) (Ok true)) same gives.counts in
    let p = passed_so old now far.reads none.0 in
    let f = enters.0 in
    record {
      known = λ k. met.met.0 (far.known k);
      errors = met.met.1 ∙ far.errors;
      raised = met.met.2 ∙ far.raised;
      met = met.met.3 ∙ far.met;
      names = met.names ∙ far.names;
      past = λ k. gives.past (subst (λ (r : Reader _ g). IsPast (stage_of r.decoder)) (sym same) (far.past k));
      reads = inr (
        p.0,
        f,
        record {
          empty = p.1.empty;
          held = enters.1;
          at = enters.2;
          first = gives.samples.0 ∙ ap (λ (r : Reader _ g). r.after) same ∙ p.1.next;
          next = gives.samples.1 ∙ ap (λ k. min (next.reader.after + size_of k) 18446744073709551615) enters.1 ∙ ap (λ n. min (n + f.size) 18446744073709551615) (sym gives.samples.0);
          left = omega (arith, left, fewer, p.1.left);
        },
      );
      blocks = gives.blocks ∙ ap (λ (r : Reader _ g). r.blocks) same ∙ far.blocks;
      info = gives.info ∙ ap (λ (r : Reader _ g). r.info) same ∙ far.info;
      start = gives.start ∙ ap (λ (r : Reader _ g). r.start) same ∙ far.start;
      left = omega (arith, left, fewer, far.left);
      going = rw enters.2 refl;
      same = λ known samples end come.
          let q = after now next samples end far.going same none.0 (far.same known samples end come) in
          let calm = subst (λ (r : Reader _ g). IsCalm g (stage_of r.decoder) (stage_of new.reader.decoder)) (sym same) (far.known known, met.met.1, met.met.2) in
          frame_comes new enters.0 q.frames samples end q.split enters.1 enters.2 gives.ahead (gives.frame calm (room true) q.frames end q.come);
    }

-- ---- how many calls are left

fewer_calls : (old new : Spot) (m n : ℕ) → is_over old ≡ false → m < n → calls_left new m < calls_left old n
fewer_calls old new m n going lt = rw going (go (is_over new))
  where
    go : (b : Bool) → cond b 0 (m + 1) < n + 1
    go true = omega arith
    go false = omega (arith, lt)

no_calls : (old new : Spot) (m n : ℕ) → is_over old ≡ false → new ≡ spot.Over → calls_left new m < calls_left old n
no_calls old new m n going is = rw (going, is) (let lt : 0 < n + 1 = omega arith in lt)

-- ---- what a call gives

pub give_over : {C : Type 0} {g : container.Ghosts C} (s : Samples C g) → is_over s.spot ≡ true → GivesSample s s (Ok None)
give_over {g = g} s is = record {
  sample = λ calm roomy samples end come. go s.spot refl is samples end come;
  counts = same_counts g (stage_of s.reader.decoder) None;
  reads = inl (record { reader = refl; left = omega arith });
  past = λ k. tt;
  ended = λ e. at s.spot is;
  spent = tt;
  over = λ e. (refl, refl);
  nearer = tt;
  blocks = refl;
  info = refl;
  start = refl;
}
  where
    at : (k : Spot) → is_over k ≡ true → k ≡ spot.Over
    at spot.Over is = refl
    at spot.Next is = absurd cc
    at (spot.Inside c i) is = absurd cc

    go : (k : Spot) → s.spot ≡ k → is_over k ≡ true → (samples : List ℤ) (end : Option (Place × Why)) → ComeAfter k s.reader samples end → IsFirstSample {g = g} samples end (Ok None) s
    go spot.Over e is samples end come = rw (come.0, come.1) (refl, over_comes s e)
    go spot.Next e is samples end come = absurd cc
    go (spot.Inside c i) e is samples end come = absurd cc

-- the frame that was read last, without a further one
entered : {C : Type 0} {g : container.Ghosts C} (old now new : Samples C g) (passed : List Frame) (f : Frame) (steps : ℕ) → EnteredSo old now passed f → new.reader ≡ now.reader → old.left ≡ new.left + length passed + 1 + steps → Enters old new passed steps
entered {g = g} old now new passed f steps e same left =
    let next : now.reader.after ≡ min (now.reader.first + size_of (last_frame now.reader)) 18446744073709551615 = e.next ∙ ap (λ o. min (now.reader.first + size_of o) 18446744073709551615) (sym e.held) in
    record {
      empty = e.empty;
      first = ap (λ (r : Reader _ g). r.first) same ∙ e.first;
      next = subst (λ (r : Reader _ g). r.after ≡ min (r.first + size_of (last_frame r)) 18446744073709551615) (sym same) next;
      left = left;
    }

abbrev told_sample : Option ℤ → Result (Option ℤ) Fault
told_sample o = Ok o

pub give_sample : {C : Type 0} {g : container.Ghosts C} (old now new : Samples C g) (x : ℤ) → is_over old.spot ≡ false → SamplesSoFar old now → new.reader ≡ now.reader → new.left + 1 ≡ now.left → TakesSample now.spot new.spot (last_frame now.reader) (Some x)
    → GivesSample old new (Ok (Some x))
give_sample {g = g} old now new x going far same fewer takes = record {
  sample = λ calm roomy samples end come. gave now new x samples end far.going same takes (far.same calm.0 samples end come);
  counts = subst (λ (r : Reader _ g). Counted {X = Option ℤ} g (stage_of old.reader.decoder) (stage_of r.decoder) (Ok (Some x))) (sym same) (record {
    met = (far.known, far.errors, far.raised, far.met);
    kept = omega (arith, far.errors);
    risen = tt;
    output = tt;
    names = far.names;
  });
  reads = steps far.reads;
  past = λ k. subst (λ (r : Reader _ g). IsPast (stage_of r.decoder)) (sym same) (far.past k);
  ended = λ e. absurd (some_none e);
  spent = tt;
  over = λ e. absurd (not_over old.spot going e);
  nearer = fewer_calls old.spot new.spot new.left old.left going (omega (arith, fewer, far.left));
  blocks = ap (λ (r : Reader _ g). r.blocks) same ∙ far.blocks;
  info = ap (λ (r : Reader _ g). r.info) same ∙ far.info;
  start = ap (λ (r : Reader _ g). r.start) same ∙ far.start;
}
  where
    some_none : told_sample (Some x) ≡ Ok None → ⊥
    some_none e = absurd cc

    steps : ReadSo old now → Steps old new 1
    steps (inl (r, l)) = inl (record { reader = same ∙ r; left = omega (arith, l, fewer) })
    steps (inr (passed, f, e)) = inr (passed, entered old now new passed f 1 e same (omega (arith, e.left, fewer)))

-- the frame that comes next is none
pub give_end : {C : Type 0} {g : container.Ghosts C} (old now next new : Samples C g) → is_over old.spot ≡ false → SamplesSoFar old now → next.reader ≡ now.reader → new.left + 1 ≡ now.left → TakesSample now.spot next.spot (last_frame now.reader) None
    → Gives {X = Bool} next.reader new.reader (λ _. last_frame new.reader) (Ok false) → EntersFrame (last_frame new.reader) new.spot (Ok false) → GivesSample old new (Ok None)
give_end {g = g} old now next new going far same fewer none gives enters =
    let met = subst (λ (r : Reader _ g). Counted {X = Bool} g (stage_of r.decoder) (stage_of new.reader.decoder) (Ok false)) same gives.counts in
    let p = passed_so old now far.reads none.0 in
    record {
      sample = λ calm roomy samples end come.
          let q = after now next samples end far.going same none.0 (far.same calm.0 samples end come) in
          let still = subst (λ (r : Reader _ g). IsCalm g (stage_of r.decoder) (stage_of new.reader.decoder)) (sym same) (far.known calm.0, met.met.1, met.met.2) in
          end_comes new q.frames samples end (stage_of new.reader.decoder) q.split enters.1
          (subst (λ k. IsFirst g (map frame q.frames) end (answer k) (stage_of new.reader.decoder)) enters.0 (gives.frame still (room false) q.frames end q.come));
      counts = record {
        met = (λ k. met.met.0 (far.known k), met.met.1 ∙ far.errors, met.met.2 ∙ far.raised, met.met.3 ∙ far.met);
        kept = omega (arith, met.kept, far.errors);
        risen = tt;
        output = tt;
        names = met.names ∙ far.names;
      };
      reads = inr (
        p.0,
        record {
          empty = p.1.empty;
          first = gives.samples.0 ∙ ap (λ (r : Reader _ g). r.after) same ∙ p.1.next;
          next = gives.samples.1 ∙ ap (λ n. min (n + size_of (last_frame new.reader)) 18446744073709551615) (sym gives.samples.0);
          left = omega (arith, fewer, p.1.left);
        },
      );
      past = λ k. tt;
      ended = λ e. enters.1;
      spent = tt;
      over = λ e. absurd (not_over old.spot going e);
      nearer = tt;
      blocks = gives.blocks ∙ ap (λ (r : Reader _ g). r.blocks) same ∙ far.blocks;
      info = gives.info ∙ ap (λ (r : Reader _ g). r.info) same ∙ far.info;
      start = gives.start ∙ ap (λ (r : Reader _ g). r.start) same ∙ far.start;
    }

-- the stream is refused
pub give_refusal : {C : Type 0} {g : container.Ghosts C} (old now next new : Samples C g) (f : Fault) → is_over old.spot ≡ false → SamplesSoFar old now → next.reader ≡ now.reader → TakesSample now.spot next.spot (last_frame now.reader) None
    → Gives {X = Bool} next.reader new.reader (λ _. last_frame new.reader) (Err f) → EntersFrame (last_frame new.reader) new.spot (Err f) → GivesSample old new (Err f)
give_refusal {g = g} old now next new f going far same none gives over =
    let met = subst (λ (r : Reader _ g). Counted {X = Bool} g (stage_of r.decoder) (stage_of new.reader.decoder) (Err f)) same gives.counts in
    let p = passed_so old now far.reads none.0 in
    record {
      sample = λ calm roomy samples end come.
          let q = after now next samples end far.going same none.0 (far.same calm.0 samples end come) in
          let still = subst (λ (r : Reader _ g). IsCalm g (stage_of r.decoder) (stage_of new.reader.decoder)) (sym same) (far.known calm.0, calm.1 ∙ sym far.errors, calm.2 ∙ sym far.raised) in
          refusal_comes new q.frames samples end f (stage_of new.reader.decoder) q.split over (gives.frame still (same_room f roomy) q.frames end q.come);
      counts = record {
        met = tt;
        kept = omega (arith, met.kept, far.errors);
        risen = λ is. subst (λ n. Rises n (g.met (stage_of new.reader.decoder).container)) far.met (met.risen is);
        output = met.output;
        names = met.names ∙ far.names;
      };
      reads = inl (
        p.0,
        record {
          empty = p.1.empty;
          first = gives.samples.0 ∙ ap (λ (r : Reader _ g). r.first) same ∙ p.1.first;
          next = gives.samples.1 ∙ ap (λ (r : Reader _ g). r.after) same ∙ p.1.next;
          memory = λ k. gives.memory (subst (λ (r : Reader _ g). IsPast (stage_of r.decoder)) (sym same) (far.past k));
        },
      );
      past = λ k. tt;
      ended = λ e. over;
      spent = over;
      over = λ e. absurd (not_over old.spot going e);
      nearer = no_calls old.spot new.spot new.left old.left going over;
      blocks = gives.blocks ∙ ap (λ (r : Reader _ g). r.blocks) same ∙ far.blocks;
      info = gives.info ∙ ap (λ (r : Reader _ g). r.info) same ∙ far.info;
      start = gives.start ∙ ap (λ (r : Reader _ g). r.start) same ∙ far.start;
    }

-- after as many calls as can be counted
pub give_no_more : {C : Type 0} {g : container.Ghosts C} (old now new : Samples C g) → is_over old.spot ≡ false → SamplesSoFar old now → new.reader ≡ now.reader → new.spot ≡ spot.Over → new.left ≡ now.left → now.left ≡ 0
    → GivesSample old new (Err (record { at = place.Frame 18446744073709551615; why = Memory }))
give_no_more {g = g} old now new going far same over left none = record {
  sample = λ calm roomy. absurd (roomy refl);
  counts = subst (λ (r : Reader _ g). Counted {X = Option ℤ} g (stage_of old.reader.decoder) (stage_of r.decoder) (Err (record { at = place.Frame 18446744073709551615; why = Memory }))) (sym same) (record {
    met = tt;
    kept = omega (arith, far.errors);
    risen = λ is. absurd (other is);
    output = refl;
    names = far.names;
  });
  reads = inr (record { fault = refl; none = left ∙ none; steps = steps far.reads });
  past = λ k. tt;
  ended = λ e. over;
  spent = over;
  over = λ e. absurd (not_over old.spot going e);
  nearer = no_calls old.spot new.spot new.left old.left going over;
  blocks = ap (λ (r : Reader _ g). r.blocks) same ∙ far.blocks;
  info = ap (λ (r : Reader _ g). r.info) same ∙ far.info;
  start = ap (λ (r : Reader _ g). r.start) same ∙ far.start;
}
  where
    other : Memory ≡ Read → ⊥
    other e = absurd cc

    steps : ReadSo old now → Steps old new 0
    steps (inl (r, l)) = inl (record { reader = same ∙ r; left = omega (arith, l, left) })
    steps (inr (passed, f, e)) = inr (passed, entered old now new passed f 0 e same (omega (arith, e.left, left)))
