-- What a receiver took of a stream by any reading, and which answer its input has.
use Rattle.std.proofs.Common.{◌≡◌, ℕ, Bool, List, [], ◌∷◌, ◌++◌, append_assoc, Option, Some, None, refl, sym, ap, subst, ◌∙◌, inl, inr}
use Rattle.std.proofs.lemmas.List.{append-nil}
use Rattle.flac_bits.specs.State.{Mark, Cursor, past, fresh}
use Rattle.flac_bits.specs.Items.{Joined, state_after}
use Rattle.flac_bits.specs.Handing.{TakesAll, InputReading, Hands, Decides, by_grammar, IsRead}
use Rattle.flac_bits.specs.declared.why.Why.{Why}
use Rattle.flac_bits.proofs.Readings.{at_}
use Rattle.flac_native.specs.Stream.{Piece, Progress, grammar, next}
use Rattle.flac_native.specs.Coming.{ReadAs, PartsCome, HandsFirst}
use Rattle.flac_native.specs.declared.fault.Place.{Place}
use Rattle.flac_native.proofs.Deciding.{some_answer}

-- ---- by any reading

-- it begins with the first of them, and the place of the part after these is that of a stream
pub record Fronts (r : InputReading Piece Place) (p : Progress) (parts : List Piece) : Type 0 where
  pub begins : (xs ys : List Piece) → parts ≡ xs ++ ys → r.begins xs
  pub place : (xs : List Piece) → r.place xs ≡ grammar.place (state_after grammar p xs)

pub hands_of : {K : Type 0} (r : InputReading Piece Place) (takes : K → Piece → K → Type 0) (errors : K → ℕ) (p : Progress) (parts : List Piece) (end : Option (Place × Why)) (calm : Type 0) (breaks : List Piece → Place → Why → Type 0) (old new : K) (outcome : Option (Place × Why))
    → ReadAs r parts end → Fronts r p parts → ((xs : List Piece) (at : Place) (why : Why) → breaks xs at why → r.breaks xs at why) → HandsFirst takes errors p parts end calm breaks old new outcome → Hands r takes errors calm old new outcome
hands_of {K} r takes errors p parts end calm breaks old new outcome has fronts told h =
    let begins = fronts.begins h.taken h.left h.split in
    record {
      done = λ quiet is.
          let d = h.done quiet is in
          (h.taken, all None d.0 d.1, subst (λ k. TakesAll takes old h.taken k) d.2 h.took);
      refused = λ quiet at why is room same.
          let d = h.refused quiet at why is room same in
          (h.taken, all (Some (at, why)) d.0 d.1, subst (λ k. TakesAll takes old h.taken k) (h.whole same) h.took);
      begun = (h.taken, h.mid, begins, h.took, h.whole);
      broken = λ at why is out.
          let b = h.broken at why is out in
          (h.taken, begins, told h.taken at why b.1, subst (λ k. TakesAll takes old h.taken k) b.0 h.took);
      failed = λ rose. let f = h.failed rose in (f.0, f.1, (h.taken, h.mid, begins, f.2 ∙ sym (fronts.place h.taken), h.took));
    }
  where
    all : (stop : Option (Place × Why)) → h.left ≡ [] → end ≡ stop → ReadAs r h.taken stop
    all stop none is =
        subst (λ (k : List Piece). ReadAs r k stop) (h.split ∙ ap (λ k. h.taken ++ k) none ∙ append-nil h.taken) (subst (λ (e : Option (Place × Why)). ReadAs r parts e) is has)

-- the same where the place is that of the part after them, and more is told
pub hands_placed : {K : Type 0} (r : InputReading Piece Place) (takes : K → Piece → K → Type 0) (errors : K → ℕ) (p : Progress) (parts : List Piece) (end : Option (Place × Why)) (calm : Type 0) (breaks : Progress → Place → Why → Type 0) (more : List Piece → Type 0) (old new : K)
    (outcome : Option (Place × Why)) → ReadAs r parts end → Fronts r p parts → ((xs : List Piece) (at : Place) (why : Why) → breaks (state_after grammar p xs) at why → r.breaks xs at why)
    → HandsFirst takes errors p parts end calm (λ xs at why. breaks (state_after grammar p xs) at why × more xs) old new outcome → Hands r takes errors calm old new outcome
hands_placed r takes errors p parts end calm breaks more old new outcome has fronts told h =
    hands_of r takes errors p parts end calm (λ xs at why. breaks (state_after grammar p xs) at why × more xs) old new outcome has fronts (λ xs at why b. told xs at why b.0) h

abbrev pub ends : Option (Place × Why) → Option (Place × Why)
ends e = e

pub none_some : (f : Place × Why) → ends None ≡ Some f → ⊥
none_some f e = absurd cc

some_is : (r q : Place × Why) → ends (Some r) ≡ Some q → r ≡ q
some_is r q e = cc

pub same_end : (at to : Place) (v w : Why) → ends (Some (at, v)) ≡ Some (to, w) → (at ≡ to) × (v ≡ w)
same_end at to v w e = let pair = some_is (at, v) (to, w) e in (ap (λ (r : Place × Why). r.0) pair, ap (λ (r : Place × Why). r.1) pair)

pub decides_of : {K : Type 0} (r : InputReading Piece Place) (takes : K → Piece → K → Type 0) (errors : K → ℕ) (p : Progress) (calm : Type 0) (breaks : List Piece → Place → Why → Type 0) (old new : K) (outcome : Option (Place × Why))
    → ((parts : List Piece) (end : Option (Place × Why)) → ReadAs r parts end → HandsFirst takes errors p parts end calm breaks old new outcome) → calm → errors new ≡ errors old → Decides r outcome
decides_of r takes errors p calm breaks old new outcome hands quiet same = record {
  accepted = λ parts stream at why is room. none_some (at, why) ((hands parts None stream).refused quiet at why is room same).1;
  is_refused = λ parts at why refused is. none_some (at, why) (sym ((hands parts (Some (at, why)) refused).done quiet is).1);
  shown = λ parts at why refused to w is room. same_end to at w why (sym ((hands parts (Some (at, why)) refused).refused quiet to w is room same).1);
}

-- ---- of a native stream

-- these parts, and the end or a refusal
pub record IsThere (p : Progress) (c : Cursor) : Type 0 where
  pub parts : List Piece
  pub end : Option (Place × Why)
  pub come : PartsCome p c parts end

pub some_come : (p : Progress) (m : Mark) (text : List Bool) → IsThere p (at_ text m)
some_come p m text = go (some_answer p m text)
  where
    go : IsRead (by_grammar grammar p m text) → IsThere p (at_ text m)
    go (inl (parts, stream)) = record { parts = parts; end = None; come = stream }
    go (inr (parts, at, why, refused)) = record { parts = parts; end = Some (at, why); come = refused }

joined_front : (p : Progress) (m : Mark) (xs ys : List Piece) (text : List Bool) → Joined grammar p m (xs ++ ys) text → (front : List Bool) × (rest : List Bool) × (text ≡ front ++ rest) × Joined grammar p m xs front
joined_front p m [] ys text j = ([], text, refl, refl)
joined_front p m (x ∷ xs) ys text (front, rest, split, spelled, fits, more) =
    let k = joined_front (next p x) (past front (fresh m)) xs ys rest more in
    (front ++ k.0, k.1, split ∙ ap (λ t. front ++ t) k.2 ∙ sym (append_assoc front k.0 k.1), (front, k.0, refl, spelled, fits, k.3))

come_front : (p : Progress) (m : Mark) (text : List Bool) (xs ys : List Piece) (end : Option (Place × Why)) → PartsCome p (at_ text m) (xs ++ ys) end → (front : List Bool) × (rest : List Bool) × (text ≡ front ++ rest) × Joined grammar p m xs front
come_front p m text xs ys None s = joined_front p m xs ys text s.spelled
come_front p m text xs ys (Some f) r =
    let k = joined_front p m xs ys r.front r.spelled in
    (k.0, k.1 ++ r.left, r.stands ∙ ap (λ t. t ++ r.left) k.2 ∙ append_assoc k.0 k.1 r.left, k.3)

pub fronts : (p : Progress) (m : Mark) (text : List Bool) (parts : List Piece) (end : Option (Place × Why)) → PartsCome p (at_ text m) parts end → Fronts (by_grammar grammar p m text) p parts
fronts p m text parts end come = record {
  begins = λ xs ys split. come_front p m text xs ys end (subst (λ (k : List Piece). PartsCome p (at_ text m) k end) split come);
  place = λ xs. refl;
}
