-- The parts that come are handed to a receiver, one after another, whatever container they stand in.
use Rattle.std.proofs.Common.{◌≡◌, ◌≢◌, ◌<◌, ℕ, List, [], ◌∷◌, ◌++◌, Option, Some, None, Result, Ok, Err, inl, inr, refl, sym, ap, subst, ◌∙◌, append_assoc, arith}
use Rattle.flac_bits.specs.Items.{state_after}
use Rattle.flac_bits.specs.Handing.{TakesAll, reason_of, IsOutside}
use Rattle.flac_bits.specs.declared.why.Why.{Why}
use Rattle.flac_bits.specs.declared.why.Why.TheVariants.{Memory, Sink}
use Rattle.flac_bits.proofs.Handing.{state_after-append, TakesAll-append}
use Rattle.flac_native.specs.Stream.{Piece, Progress, grammar, next}
use Rattle.flac_native.specs.Track.{IsAt}
use Rattle.flac_native.specs.Item.{fault_pair}
use Rattle.flac_native.specs.Coming.{Coming, IsNext, HandsFirst}
use Rattle.flac_native.specs.declared.fault.Place.{Place}
use Rattle.flac_native.specs.declared.fault.Fault.{Fault}
use Rattle.flac_native.specs.declared.track.Track.{Track}

-- so far the receiver took the first parts, and the others are still to come
pub record Far {K : Type 0} (gives : Coming) (gave : List Piece → Type 0) (takes : K → Piece → K → Type 0) (errors : K → ℕ) (p : Progress) (parts : List Piece) (end : Option (Place × Why)) (t : Track) (old now : K) : Type 0 where
  pub taken : List Piece
  pub left : List Piece
  pub split : parts ≡ taken ++ left
  pub took : TakesAll takes old taken now
  pub received : errors now ≡ errors old
  pub q : Progress
  pub state : q ≡ state_after grammar p taken
  pub at : IsAt t q
  pub comes : gives q left end
  pub given : gave taken

pub starts : {K : Type 0} (gives : Coming) (gave : List Piece → Type 0) (takes : K → Piece → K → Type 0) (errors : K → ℕ) (p : Progress) (parts : List Piece) (end : Option (Place × Why)) (t : Track) (old : K) → IsAt t p → gives p parts end → gave []
    → Far gives gave takes errors p parts end t old old
starts gives gave takes errors p parts end t old at comes given = record { taken = []; left = parts; split = refl; took = refl; received = refl; q = p; state = refl; at = at; comes = comes; given = given }

abbrev answer : {X : Type 0} → Option X → Result (Option X) Fault
answer o = Ok o

abbrev failure : {X : Type 0} → Fault → Result (Option X) Fault
failure f = Err f

none_some : {X : Type 0} (x : X) → answer None ≡ answer (Some x) → ⊥
none_some x e = absurd cc

some_err : {X : Type 0} (x : X) (f : Fault) → answer (Some x) ≡ Err f → ⊥
some_err x f e = absurd cc

none_err : {X : Type 0} (f : Fault) → answer {X = X} None ≡ Err f → ⊥
none_err f e = absurd cc

same_answer : {X : Type 0} (x y : X) → answer (Some x) ≡ answer (Some y) → x ≡ y
same_answer x y e = cc

same_failure : {X : Type 0} (f g : Fault) → failure {X = X} f ≡ failure g → f ≡ g
same_failure f g e = cc

abbrev ends : Option (Place × Why) → Option (Place × Why)
ends e = e

some_is : (r q : Place × Why) → ends (Some r) ≡ Some q → r ≡ q
some_is r q e = cc

none_is_no_end : (r : Place × Why) → ends None ≡ Some r → ⊥
none_is_no_end r e = absurd cc

-- a part was read and taken
pub one_more : {K X : Type 0} (gives given : Coming) (gave gave' : List Piece → Type 0) (takes : K → Piece → K → Type 0) (errors : K → ℕ) (p : Progress) (parts : List Piece) (end : Option (Place × Why)) (t u : Track) (old now new : K) (view : X → Piece) (x : X)
    → (far : Far gives gave takes errors p parts end t old now) → IsNext given far.q view (Ok (Some x)) far.left end → IsAt u (next far.q (view x)) → errors new ≡ errors now → takes now (view x) new → ((xs : List Piece) (z : Piece) → gave xs → gave' (xs ++ z ∷ []))
    → Far given gave' takes errors p parts end u old new
one_more {X = X} gives given gave gave' takes errors p parts end t u old now new view x far first noted received took more = go far.left end far.split first
  where
    go : (left : List Piece) (stop : Option (Place × Why)) → parts ≡ far.taken ++ left → IsNext given far.q view (Ok (Some x)) left stop → Far given gave' takes errors p parts stop u old new
    go [] None split f = absurd (none_some x (sym f))
    go [] (Some w) split f = absurd (some_err x _ f)
    go (z ∷ zs) stop split (y, is, seen, comes) =
        let same : view x ≡ z = ap view (same_answer x y is) ∙ seen in
        record {
          taken = far.taken ++ z ∷ [];
          left = zs;
          split = split ∙ sym (append_assoc far.taken (z ∷ []) zs);
          took = TakesAll-append takes old far.taken now z new far.took (subst (λ k. takes now k new) same took);
          received = received ∙ far.received;
          q = next far.q z;
          state = ap (λ s. next s z) far.state ∙ sym (state_after-append grammar p far.taken z);
          at = subst (λ k. IsAt u (next far.q k)) same noted;
          comes = comes;
          given = more far.taken z far.given;
        }

-- the stream is over
pub all_done : {K X : Type 0} (gives given : Coming) (gave : List Piece → Type 0) (takes : K → Piece → K → Type 0) (errors : K → ℕ) (p : Progress) (parts : List Piece) (end : Option (Place × Why)) (t : Track) (old now : K) (view : X → Piece) (calm : Type 0) (breaks : List Piece → Place → Why → Type 0)
    → (far : Far gives gave takes errors p parts end t old now) → (calm → IsNext given far.q view (Ok None) far.left end) → HandsFirst takes errors p parts end calm breaks old now None
all_done {X = X} gives given gave takes errors p parts end t old now view calm breaks far first = record {
  taken = far.taken;
  left = far.left;
  split = far.split;
  mid = now;
  took = far.took;
  whole = λ same. refl;
  done = λ quiet is. let e = go far.left end (first quiet) in (e.0, e.1, refl);
  refused = λ quiet at why is. absurd (none_is_no_end (at, why) is);
  broken = λ at why is. absurd (none_is_no_end (at, why) is);
  failed = λ rose. absurd (omega (arith, rose, far.received));
}
  where
    go : (left : List Piece) (stop : Option (Place × Why)) → IsNext given far.q view (Ok None) left stop → (left ≡ []) × (stop ≡ None)
    go [] None f = (refl, refl)
    go [] (Some w) f = absurd (none_err _ f)
    go (z ∷ zs) stop (y, is, seen, rest) = absurd (none_some y is)

-- or the call refused
pub next_refused : {K X : Type 0} (gives given : Coming) (gave : List Piece → Type 0) (takes : K → Piece → K → Type 0) (errors : K → ℕ) (p : Progress) (parts : List Piece) (end : Option (Place × Why)) (t : Track) (old now : K) (view : X → Piece) (calm : Type 0) (breaks : List Piece → Place → Why → Type 0) (fault : Fault)
    → (far : Far gives gave takes errors p parts end t old now) → (calm → fault.why ≢ Memory → IsNext given far.q view (Err fault) far.left end) → (IsOutside fault.why → breaks far.taken fault.at fault.why)
    → HandsFirst takes errors p parts end calm breaks old now (Some (fault.at, fault.why))
next_refused {X = X} gives given gave takes errors p parts end t old now view calm breaks fault far first broke = record {
  taken = far.taken;
  left = far.left;
  split = far.split;
  mid = now;
  took = far.took;
  whole = λ same. refl;
  done = λ quiet is. absurd (none_is_no_end (fault.at, fault.why) (sym is));
  refused = λ quiet to w is room same.
      let pair = some_is (fault.at, fault.why) (to, w) is in
      go to w pair far.left end (first quiet (λ e. room (sym (ap (λ (r : Place × Why). r.1) pair) ∙ e)));
  broken = λ to w is out.
      let pair = some_is (fault.at, fault.why) (to, w) is in
      let told = broke (subst IsOutside (sym (ap (λ (r : Place × Why). r.1) pair)) out) in
      (refl, subst (λ (r : Place × Why). breaks far.taken r.0 r.1) pair told);
  failed = λ rose. absurd (omega (arith, rose, far.received));
}
  where
    go : (to : Place) (w : Why) → ◌≡◌ {A = Place × Why} (fault.at, fault.why) (to, w) → (left : List Piece) (stop : Option (Place × Why)) → IsNext given far.q view (Err fault) left stop → (left ≡ []) × (stop ≡ Some (to, w))
    go to w pair [] None f = absurd (none_err fault (sym f))
    go to w pair [] (Some r) f = let same = same_failure {X = X} fault (record { at = r.0; why = r.1 }) f in (refl, ap (λ (k : Fault). ends (Some (k.at, k.why))) (sym same) ∙ ap (λ k. ends (Some k)) pair)
    go to w pair (z ∷ zs) stop (y, is, seen, rest) = absurd (some_err y fault (sym is))

sink_inside : IsOutside Sink → ⊥
sink_inside (inl e) = absurd cc
sink_inside (inr e) = absurd cc

-- the receiver did not take the part that was read
pub sink_failed : {K : Type 0} (gives : Coming) (gave : List Piece → Type 0) (takes : K → Piece → K → Type 0) (errors : K → ℕ) (p : Progress) (parts : List Piece) (end : Option (Place × Why)) (t : Track) (old now new : K) (calm : Type 0) (breaks : List Piece → Place → Why → Type 0) (at : Place) (why : Why)
    → (far : Far gives gave takes errors p parts end t old now) → errors now < errors new → why ≡ Sink → ((q : Progress) → IsAt t q → at ≡ grammar.place q) → HandsFirst takes errors p parts end calm breaks old new (Some (at, why))
sink_failed gives gave takes errors p parts end t old now new calm breaks at why far rose is place = record {
  taken = far.taken;
  left = far.left;
  split = far.split;
  mid = now;
  took = far.took;
  whole = λ same. absurd (omega (arith, rose, same, far.received));
  done = λ quiet e. absurd (none_is_no_end (at, why) (sym e));
  refused = λ quiet to w e room same. absurd (omega (arith, rose, same, far.received));
  broken = λ to w e out. absurd (sink_inside (subst IsOutside (sym (ap (λ (r : Place × Why). r.1) (some_is (at, why) (to, w) e)) ∙ is) out));
  failed = λ more. (at, ap (λ w. ends (Some (at, w))) is, place far.q far.at ∙ ap (λ s. grammar.place s) far.state);
}

abbrev okay : {X : Type 0} → X → Result X Why
okay x = Ok x

abbrev reason : {X : Type 0} → Why → Result X Why
reason w = Err w

pub room_for : {X : Type 0} (f : Fault) → f.why ≢ Memory → reason_of {X = X} fault_pair (Err f) ≡ Err Memory → ⊥
room_for {X = X} f room e = let k : f.why ≡ Memory = same_reason f.why Memory e in room k
  where
    same_reason : (v w : Why) → reason {X = X} v ≡ reason w → v ≡ w
    same_reason v w e = cc

pub no_fault : {X : Type 0} (x : X) → reason_of fault_pair (Ok x) ≡ Err Memory → ⊥
no_fault {X = X} x e = absurd (differ e)
  where
    differ : okay x ≡ Err Memory → ⊥
    differ e = absurd cc
