-- Which parts of a stream a container gave, by calls one after another.
use Rattle.std.proofs.Common.{◌≡◌, true, List, [], ◌∷◌, ◌++◌, Option, Some, None, Result, Ok, Err, IfOk, IfErr, IfSome, inl, inr, refl, sym, ap, subst, ◌∙◌, append_assoc}
use Rattle.std.proofs.lemmas.List.{append-nil}
use Rattle.flac_bits.specs.Items.{Grammar, state_after}
use Rattle.flac_bits.specs.Handing.{TakesAll, IsOutside}
use Rattle.flac_bits.specs.declared.why.Why.{Why}
use Rattle.flac_bits.specs.declared.why.Why.TheVariants.{Spent}
use Rattle.flac_bits.proofs.Handing.{state_after-append}
use Rattle.flac_native.specs.Stream.{Piece, marked, block, framed, Progress, grammar, next}
use Rattle.flac_native.specs.Track.{IsAt, piece_of}
use Rattle.flac_native.specs.Item.{Item, metadata, frame}
use Rattle.flac_native.specs.Coming.{IsNext}
use Rattle.flac_native.specs.Giving.{handed, before, items_of, PassesParts, IsBeforeItem, PassesItem, BreaksOff, found, seen_by, Stage, Goes, MovesFrom, Moves}
use Rattle.flac_native.specs.Calls.{Answers, GivesAll, FailuresArePlaced}
use Rattle.flac_native.proofs.Giving.{moves_refused}
use Rattle.flac_native.proofs.Handed.{no_fault}
use Rattle.flac_native.specs.declared.track.Track.{Track}
use Rattle.flac_native.specs.declared.fault.Place.{Place}
use Rattle.flac_native.specs.declared.fault.Fault.{Fault}
use Rattle.flac_native.specs.declared.container.Part.{Part}
use Rattle.flac_native.specs.declared.container.Container as container
use Rattle.flac_native.specs.declared.decoder.Course.{Course}
use Rattle.flac_native.specs.declared.decoder.Course.TheVariants as course

-- ---- some parts, and then others

after_both : {S I P : Type 0} (g : Grammar S I P) (s : S) (xs ys : List I) → state_after g s (xs ++ ys) ≡ state_after g (state_after g s xs) ys
after_both g s [] ys = refl
after_both g s (x ∷ xs) ys = after_both g (g.next s x) xs ys

taken_both : {K I : Type 0} (takes : K → I → K → Type 0) (old mid new : K) (xs ys : List I) → TakesAll takes old xs mid → TakesAll takes mid ys new → TakesAll takes old (xs ++ ys) new
taken_both takes old mid new [] ys h t = subst (λ k. TakesAll takes k ys new) (sym h) t
taken_both takes old mid new (x ∷ xs) ys (k, one, more) t = (k, one, taken_both takes k mid new xs ys more t)

items_both : (xs ys : List Piece) → items_of (xs ++ ys) ≡ items_of xs ++ items_of ys
items_both [] ys = refl
items_both (x ∷ xs) ys = ap (before (handed x)) (items_both xs ys) ∙ go (handed x)
  where
    go : (o : Option Item) → before o (items_of xs ++ items_of ys) ≡ before o (items_of xs) ++ items_of ys
    go None = refl
    go (Some i) = refl

pub passes_none : {C : Type 0} (g : container.Ghosts C) (p : Progress) (c : C) → PassesParts g p c [] c
passes_none g p c = record { gave = refl; known = λ known. known; first = λ known all end come. (all, refl, come) }

pub passes_both : {C : Type 0} (g : container.Ghosts C) (p : Progress) (old mid new : C) (xs ys : List Piece) → PassesParts g p old xs mid → PassesParts g (state_after grammar p xs) mid ys new → PassesParts g p old (xs ++ ys) new
passes_both {C} g p old mid new xs ys one two = record {
  gave = taken_both (λ (a : C) (x : Piece) (b : C). g.gave a b) old mid new xs ys one.gave two.gave;
  known = λ known. two.known (one.known known);
  first = λ known all end come.
      let front = one.first known all end come in
      let back = two.first (one.known known) front.0 end front.2 in
      (back.0, front.1 ∙ ap (λ k. xs ++ k) back.1 ∙ sym (append_assoc xs ys back.0), subst (λ (q : Progress). g.gives new q back.0 end) (sym (after_both grammar p xs ys)) back.2);
}

-- ---- one call of a container

abbrev answer : Option Part → Result (Option Part) Fault
answer o = Ok o

pub passes_one : {C : Type 0} (g : container.Ghosts C) (p : Progress) (old new : C) (t : Track) (y : Part) → g.gave old new → (g.known old ≡ true → g.known new ≡ true)
    → (g.known old ≡ true → (all : List Piece) (end : Option (Place × Why)) → g.gives old p all end → IsNext (g.gives new) p (piece_of t) (Ok (Some y)) all end) → PassesParts g p old (piece_of t y ∷ []) new
passes_one g p old new t y gave knows gives = record { gave = (new, gave, refl); known = knows; first = λ known all end come. go all end (gives known all end come) }
  where
    none_some : answer None ≡ answer (Some y) → ⊥
    none_some e = absurd cc

    some_err : (f : Fault) → answer (Some y) ≡ Err f → ⊥
    some_err f e = absurd cc

    same_part : (z : Part) → answer (Some y) ≡ answer (Some z) → y ≡ z
    same_part z e = cc

    go : (all : List Piece) (end : Option (Place × Why)) → IsNext (g.gives new) p (piece_of t) (Ok (Some y)) all end → (left : List Piece) × (all ≡ (piece_of t y ∷ []) ++ left) × g.gives new (state_after grammar p (piece_of t y ∷ [])) left end
    go [] None f = absurd (none_some (sym f))
    go [] (Some r) f = absurd (some_err _ f)
    go (x ∷ xs) end (z, is, view, rest) =
        let same : piece_of t y ≡ x = ap (piece_of t) (same_part z is) ∙ view in
        (xs, ap (λ k. k ∷ xs) (sym same), subst (λ k. g.gives new (next p k) xs end) (sym same) rest)

-- after what was read before, the part of an item
pub passes_item : {C : Type 0} (g : container.Ghosts C) (p : Progress) (front : List Piece) (old mid new : C) (t : Track) (y : Part) → IsBeforeItem p front → PassesParts g p old front mid → PassesParts g (state_after grammar p front) mid (piece_of t y ∷ []) new
    → IsAt t (next (state_after grammar p front) (piece_of t y)) → IfSome (found t (Some y)) (λ item. PassesItem g p old new t item)
passes_item g p front old mid new t y leads first then at = go (piece_of t y) then at
  where
    all : (x : Piece) (i : Item) → handed x ≡ Some i → PassesParts g (state_after grammar p front) mid (x ∷ []) new → IsAt t (next (state_after grammar p front) x) → PassesItem g p old new t i
    all x i shown then at = record {
      front = front;
      before = leads;
      part = x;
      shown = shown;
      passes = passes_both g p old mid new front (x ∷ []) first then;
      at = subst (λ (q : Progress). IsAt t q) (sym (state_after-append grammar p front x)) at;
    }

    go : (x : Piece) → PassesParts g (state_after grammar p front) mid (x ∷ []) new → IsAt t (next (state_after grammar p front) x) → IfSome (handed x) (λ item. PassesItem g p old new t item)
    go marked then at = tt
    go (block last b) then at = all (block last b) (metadata b) refl then at
    go (framed f) then at = all (framed f) (frame f) refl then at

-- which a call does that returns one
pub passes_found : {C : Type 0} (g : container.Ghosts C) (p : Progress) (front : List Piece) (old mid new : C) (t : Track) (result : Result (Option Part) Fault) → IsBeforeItem p front → PassesParts g p old front mid
    → IfOk result (λ o. IfSome o (λ _. g.gave mid new)) → IfOk result (λ _. g.known mid ≡ true → g.known new ≡ true)
    → IfOk result (λ _. g.known mid ≡ true → (all : List Piece) (end : Option (Place × Why)) → g.gives mid (state_after grammar p front) all end → IsNext (g.gives new) (state_after grammar p front) (piece_of t) result all end)
    → IfOk result (λ o. IfSome o (λ y. IsAt t (next (state_after grammar p front) (piece_of t y)))) → IfOk result (λ o. IfSome (found t o) (λ item. PassesItem g p old new t item))
passes_found g p front old mid new t (Ok None) leads first gave knows gives at = tt
passes_found g p front old mid new t (Ok (Some y)) leads first gave knows gives at = passes_item g p front old mid new t y leads first (passes_one g (state_after grammar p front) mid new t y gave knows gives) at
passes_found g p front old mid new t (Err f) leads first gave knows gives at = tt

pub ok_inside : {X : Type 0} {P Q : X → Type 0} (result : Result X Fault) → ((x : X) → result ≡ Ok x → P x → Q x) → IfOk result P → IfOk result Q
ok_inside (Ok x) f h = f x refl h
ok_inside (Err e) f h = tt

pub err_both : {X : Type 0} (result : Result X Fault) (P Q S : Fault → Type 0) → ((f : Fault) → P f → Q f → S f) → IfErr result P → IfErr result Q → IfErr result S
err_both (Ok x) P Q S f h k = tt
err_both (Err e) P Q S f h k = f e h k

-- ---- one call of a decoder

abbrev shown : Option Item → Result (Option Item) Fault
shown o = Ok o

abbrev refusal : Fault → Result (Option Item) Fault
refusal f = Err f

shown_none : (x : Item) → shown (Some x) ≡ Ok None → ⊥
shown_none x e = absurd cc

shown_refusal : (x : Item) (f : Fault) → shown (Some x) ≡ Err f → ⊥
shown_refusal x f e = absurd cc

refusal_none : (f : Fault) → refusal f ≡ Ok None → ⊥
refusal_none f e = absurd cc

same_refusal : (f g : Fault) → refusal f ≡ Err g → f ≡ g
same_refusal f g e = cc

spent_inside : (why : Why) → why ≡ Spent → IsOutside why → ⊥
spent_inside why e (inl read) = absurd cc
spent_inside why e (inr memory) = absurd cc

-- what a call did is told by its answer alone, whatever it yields
pub answers_seen : {C X : Type 0} (g : container.Ghosts C) (old new : Stage C) (view : X → Option Item) (result : Result X Fault) → Moves g old new view result → Answers g old (seen_by view result) new
answers_seen {C} {X} g old new view (Err f) h = moves_refused g old new view (λ (o : Option Item). o) f h
answers_seen {C} {X} g old new view (Ok x) h = go old.course h
  where
    goes : Goes g old new view (Ok x) → Goes g old new (λ (o : Option Item). o) (Ok (view x))
    goes h = record {
      gives = λ p at known same quiet room items end still. h.gives p at known same quiet (no_fault x) items end still;
      counts = record { met = h.counts.met; kept = h.counts.kept; read = tt; risen = tt; output = tt; after = h.counts.after; names = h.counts.names };
      passes = h.passes;
      broken = λ p at. tt;
      memory = λ frames. tt;
      ordered = h.ordered;
      going = h.going;
      ends = h.ends;
      refused = tt;
    }

    go : (k : Course) → MovesFrom g k old new view (Ok x) → MovesFrom g k old new (λ (o : Option Item). o) (Ok (view x))
    go course.Begun h = goes h
    go (course.Read part) h = goes h
    go course.Over h = h
    go (course.Spent at) h = h

gave_item : {C : Type 0} (g : container.Ghosts C) (old new : Stage C) (x : Item) → Answers g old (Ok (Some x)) new → (p : Progress) → IsAt old.track p → PassesItem g p old.container new.container new.track x
gave_item {C} g old new x h p at = go old.course h
  where
    go : (k : Course) → MovesFrom g k old new (λ (o : Option Item). o) (Ok (Some x)) → PassesItem g p old.container new.container new.track x
    go course.Begun h = h.passes p at
    go (course.Read part) h = h.passes p at
    go course.Over h = absurd (shown_none x h.0)
    go (course.Spent to) h = absurd (shown_refusal x _ h.0)

broke_off : {C : Type 0} (g : container.Ghosts C) (old new : Stage C) (f : Fault) → Answers g old (Err f) new → IsOutside f.why → (p : Progress) → IsAt old.track p → BreaksOff g p old.container new.container f
broke_off {C} g old new f h out p at = go old.course h
  where
    go : (k : Course) → MovesFrom g k old new (λ (o : Option Item). o) (Err f) → BreaksOff g p old.container new.container f
    go course.Begun h = h.broken p at out
    go (course.Read part) h = h.broken p at out
    go course.Over h = absurd (refusal_none f h.0)
    go (course.Spent to) h = absurd (spent_inside f.why (ap (λ (k : Fault). k.why) (same_refusal f (record { at = to; why = Spent }) h.0)) out)

-- ---- calls one after another

-- nothing is yielded of what is read before an item
none_before : (p : Progress) (front : List Piece) → IsBeforeItem p front → items_of front ≡ []
none_before p front (inl e) = ap items_of e
none_before p front (inr (opens, e)) = ap items_of e

one_item : (p : Progress) (front : List Piece) (x : Piece) (i : Item) → IsBeforeItem p front → handed x ≡ Some i → items_of (front ++ x ∷ []) ≡ i ∷ []
one_item p front x i leads is = items_both front (x ∷ []) ∙ ap (λ k. k ++ items_of (x ∷ [])) (none_before p front leads) ∙ ap (λ o. before o []) is

-- so far calls gave these items
record SoFar {C : Type 0} (g : container.Ghosts C) (p : Progress) (first now : Stage C) (items : List Item) : Type 0 where
  parts : List Piece
  items_are : items ≡ items_of parts
  passes : PassesParts g p first.container parts now.container
  at : IsAt now.track (state_after grammar p parts)

so_far : {C : Type 0} (g : container.Ghosts C) (p : Progress) (first now : Stage C) (items : List Item) → IsAt first.track p → GivesAll g first items now → SoFar g p first now items
so_far {C} g p first now [] at h = subst (λ (s : Stage C). SoFar g p first s []) h (record { parts = []; items_are = refl; passes = passes_none g p first.container; at = at })
so_far {C} g p first now (x ∷ xs) at (mid, one, more) =
    let i = gave_item g first mid x one p at in
    let parts = i.front ++ i.part ∷ [] in
    let rest = so_far g (state_after grammar p parts) mid now xs i.at more in
    record {
      parts = parts ++ rest.parts;
      items_are = ap (λ k. x ∷ k) rest.items_are ∙ sym (items_both parts rest.parts ∙ ap (λ k. k ++ items_of rest.parts) (one_item p i.front i.part x i.before i.shown));
      passes = passes_both g p first.container mid.container now.container parts rest.parts i.passes rest.passes;
      at = subst (λ (q : Progress). IsAt now.track q) (sym (after_both grammar p parts rest.parts)) rest.at;
    }

pub calls_break_after : {C : Type 0} (g : container.Ghosts C) → FailuresArePlaced g
calls_break_after {C} g = λ p first now last items f at gives breaks out.
    let far = so_far g p first now items at gives in
    let off = broke_off g now last f breaks out (state_after grammar p far.parts) far.at in (
      far.parts ++ off.front,
      far.items_are ∙ sym (items_both far.parts off.front ∙ ap (λ k. items_of far.parts ++ k) (none_before (state_after grammar p far.parts) off.front off.before) ∙ append-nil (items_of far.parts)),
      λ known all end come.
          let front = far.passes.first known all end come in
          let back = off.first (far.passes.known known) front.0 end front.2 in
          (back.0, front.1 ∙ ap (λ k. far.parts ++ k) back.1 ∙ sym (append_assoc far.parts off.front back.0)),
      (
        subst (λ (q : Progress). g.breaks last.container q f.at f.why) (sym (after_both grammar p far.parts off.front)) off.after.0,
        (off.after.1.0, taken_both (λ (a : C) (x : Piece) (b : C). g.gave a b) first.container now.container off.after.1.0 far.parts off.front far.passes.gave off.after.1.1, off.after.1.2),
      ),
    )
