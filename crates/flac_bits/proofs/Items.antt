-- Streams of items: what a step gives is what the grammar means, and no input has two readings.
use Rattle.std.proofs.Common.{◌≡◌, ◌<◌, length, arith, ◌&&◌, Bool, true, false, cond, List, [], ◌∷◌, ◌++◌, Option, Some, None, Result, Ok, Err, refl, sym, ap, subst, ◌∙◌, append_assoc, inl, inr, ◌⊎◌}
use Rattle.std.proofs.lemmas.List.{append-nil}
use Rattle.flac_bits.specs.Bits.{is_nil}
use Rattle.flac_bits.specs.State.{Mark, Cursor, past, fresh}
use Rattle.flac_bits.specs.Layout.{Layout, Rule, Reason, because}
use Rattle.flac_bits.specs.Meaning.{Spells, IsCut, AllKept, BreaksFirst}
use Rattle.flac_bits.specs.Fence.{InRoom, read_in}
use Rattle.flac_bits.specs.Items.{Grammar, state_after, Joined, mark_after, Stream, StopsAt, Refused, Step, item, over, refused}
use Rattle.flac_bits.specs.inner.Items.{stepped, judged, step_at, NeedsBits}
use Rattle.flac_bits.specs.declared.why.Why.{Why}
use Rattle.flac_bits.proofs.Readings.{at_}
use Rattle.flac_bits.proofs.Meaning.{again, cut_short, differ}
use Rattle.flac_bits.proofs.Fences.{again_in, stops_in, takes_in, refuses_in}

is_nil_is : (xs : List Bool) → is_nil xs ≡ true → xs ≡ []
is_nil_is [] e = refl
is_nil_is (x ∷ xs) e = absurd (two e)
  where
    two : false ≡ true → ⊥
    two e = absurd cc

both : (a b : Bool) → (a && b) ≡ true → (a ≡ true) × (b ≡ true)
both true b e = (refl, e)
both false b e = absurd (two e)
  where
    two : false ≡ true → ⊥
    two e = absurd cc

either_way : (b : Bool) → (b ≡ true) ⊎ (b ≡ false)
either_way true = inl refl
either_way false = inr refl

kept_judged : {I P : Type 0} (at : P) (rules : List Rule) → AllKept rules → judged {I = I} at rules ≡ over
kept_judged at [] kept = refl
kept_judged at (rule ∷ rules) kept = rw kept.0 (kept_judged at rules kept.1)

first_judged : {I P : Type 0} (at : P) (rules : List Rule) (why : Why) → BreaksFirst rules why → judged {I = I} at rules ≡ refused at why
first_judged at [] why first = absurd first
first_judged at (rule ∷ rules) why (inl (e, is)) = rw (e, is) refl
first_judged at (rule ∷ rules) why (inr (e, first)) = rw e (first_judged at rules why first)

abbrev no_more : (I P : Type 0) → Step I P
no_more I P = over

abbrev refusal : (I : Type 0) {P : Type 0} → P → Why → Step I P
refusal I at why = refused at why

abbrev found : (P : Type 0) {I : Type 0} → I → Cursor → Step I P
found P x d = item x d

over_is_no_refusal : {I P : Type 0} (at : P) (why : Why) → no_more I P ≡ refused at why → ⊥
over_is_no_refusal at why e = absurd cc

over_is_no_item : {I P : Type 0} (x : I) (d : Cursor) → no_more I P ≡ item x d → ⊥
over_is_no_item x d e = absurd cc

refusal_is_no_item : {I P : Type 0} (x : I) (d : Cursor) (at : P) (why : Why) → refusal I at why ≡ item x d → ⊥
refusal_is_no_item x d at why e = absurd cc

same_refusal : {I P : Type 0} (at to : P) (v w : Why) → refusal I at v ≡ refused to w → (at ≡ to) × (v ≡ w)
same_refusal at to v w e = (let p : at ≡ to = cc in p, let q : v ≡ w = cc in q)

same_item : {I P : Type 0} (x y : I) (c d : Cursor) → found P x c ≡ item y d → (x ≡ y) × (c ≡ d)
same_item x y c d e = (let p : x ≡ y = cc in p, let q : c ≡ d = cc in q)

judged_over : {I P : Type 0} (at : P) (rules : List Rule) → judged at rules ≡ no_more I P → AllKept rules
judged_over at [] e = tt
judged_over {I = I} {P = P} at (rule ∷ rules) e = go (λ f. judged_over {I = I} at rules f) (rule.broken) refl e
  where
    go : (judged at rules ≡ no_more I P → AllKept rules) → (b : Bool) → rule.broken ≡ b → cond b (refusal I at rule.why) (judged at rules) ≡ over → AllKept (rule ∷ rules)
    go more true is e = absurd (over_is_no_refusal at rule.why (sym e))
    go more false is e = (is, more e)

judged_refused : {I P : Type 0} (at to : P) (rules : List Rule) (why : Why) → judged {I = I} at rules ≡ refused to why → (to ≡ at) × BreaksFirst rules why
judged_refused at to [] why e = absurd (over_is_no_refusal to why e)
judged_refused {I = I} at to (rule ∷ rules) why e = go (λ f. judged_refused {I = I} at to rules why f) (rule.broken) refl e
  where
    go : (judged at rules ≡ refusal I to why → (to ≡ at) × BreaksFirst rules why) → (b : Bool) → rule.broken ≡ b → cond b (refusal I at rule.why) (judged at rules) ≡ refused to why → (to ≡ at) × BreaksFirst (rule ∷ rules) why
    go more true is e = let same = same_refusal at to rule.why why e in (sym same.0, inl (is, same.1))
    go more false is e = let others = more e in (others.0, inr (is, others.1))

judged_no_item : {I P : Type 0} (at : P) (rules : List Rule) (x : I) (d : Cursor) → judged at rules ≡ item x d → ⊥
judged_no_item at [] x d e = over_is_no_item x d e
judged_no_item {I = I} {P = P} at (rule ∷ rules) x d e = go (λ f. judged_no_item at rules x d f) (rule.broken) e
  where
    go : (judged at rules ≡ found P x d → ⊥) → (b : Bool) → cond b (refusal I at rule.why) (judged at rules) ≡ item x d → ⊥
    go more true e = refusal_is_no_item x d at rule.why e
    go more false e = more e

-- ---- what the meaning says of a step

-- what needs a bit is not spelled by none
spelled_by_none : {A : Type 0} (l : Layout A) (m : Mark) (front rest : List Bool) (x : A) → Spells l m front x → IsCut l m [] → front ++ rest ≡ [] → ⊥
spelled_by_none l m [] rest x s cut e = differ (x, at_ [] m) (because m.short) (sym (again l m [] [] x s) ∙ cut_short l [] m cut)
spelled_by_none l m (b ∷ bs) rest x s cut e = absurd cc

pub spelled_some : {A : Type 0} (l : Layout A) (m : Mark) (front : List Bool) (x : A) → Spells l m front x → IsCut l m [] → 0 < length front
spelled_some l m [] x s cut = absurd (spelled_by_none l m [] [] x s cut refl)
spelled_some l m (b ∷ bs) x s cut = omega arith

-- what is spelled is the next step
pub spelled_step : {S I P : Type 0} (g : Grammar S I P) (needs : NeedsBits g) (s : S) (m : Mark) (front rest : List Bool) (x : I)
    → Spells (g.layout s) (fresh m) front x → InRoom (g.room s) (fresh m) front → step_at g s (at_ (front ++ rest) m) ≡ item x (at_ rest (past front (fresh m)))
spelled_step g needs s m front rest x spelled fits =
    let ran : read_in (g.room s) (g.layout s) (at_ (front ++ rest) (fresh m)) ≡ Ok (x, at_ rest (past front (fresh m))) = again_in (g.room s) (g.layout s) (fresh m) front rest x spelled fits in
    elim (either_way (g.may_end s && is_nil (front ++ rest))) [
      | inl e ↦
          let parts = both (g.may_end s) (is_nil (front ++ rest)) e in
          absurd (spelled_by_none (g.layout s) (fresh m) front rest x spelled (needs s (fresh m) parts.0) (is_nil_is (front ++ rest) parts.1))
      | inr e ↦ rw (e, ran) refl
    ]

pub over_step : {S I P : Type 0} (g : Grammar S I P) (s : S) (m : Mark) → g.may_end s ≡ true → AllKept (g.at_end s) → step_at g s (at_ [] m) ≡ over
over_step g s m e kept = rw e (kept_judged g.end_place (g.at_end s) kept)

pub stops_step : {S I P : Type 0} (g : Grammar S I P) (s : S) (m : Mark) (left : List Bool) (at : P) (why : Why) → StopsAt g s m left at why → step_at g s (at_ left m) ≡ refused at why
stops_step g s m left at why (inl (e, place, stops)) =
    let ran : read_in (g.room s) (g.layout s) (at_ left (fresh m)) ≡ Err (because why) = stops_in (g.room s) (g.layout s) (fresh m) left why stops in
    rw (e, ran, place) refl
stops_step g s m left at why (inr (e, place, first)) = rw (e, place) (first_judged g.end_place (g.at_end s) why first)

-- ---- and what a step says of the meaning

pub step_spelled : {S I P : Type 0} (g : Grammar S I P) (s : S) (m : Mark) (left : List Bool) (x : I) (d : Cursor) → step_at g s (at_ left m) ≡ item x d
    → (text : List Bool) × (left ≡ text ++ d.left) × Spells (g.layout s) (fresh m) text x × InRoom (g.room s) (fresh m) text × (d.mark ≡ past text (fresh m))
step_spelled {I = I} {P = P} g s m left x d e = go (g.may_end s && is_nil left) (read_in (g.room s) (g.layout s) (at_ left (fresh m))) refl e
  where
    go : (b : Bool) (r : Result (I × Cursor) Reason) → read_in (g.room s) (g.layout s) (at_ left (fresh m)) ≡ r → cond b (judged g.end_place (g.at_end s)) (stepped (g.place s) r) ≡ item x d
        → (text : List Bool) × (left ≡ text ++ d.left) × Spells (g.layout s) (fresh m) text x × InRoom (g.room s) (fresh m) text × (d.mark ≡ past text (fresh m))
    go true r is e = absurd (judged_no_item g.end_place (g.at_end s) x d e)
    go false (Ok y) is e =
        let same = same_item {P = P} y.0 x y.1 d e in
        takes_in (g.room s) (g.layout s) left (fresh m) x d (is ∙ ap (λ z. okay (z, y.1)) same.0 ∙ ap (λ k. okay (x, k)) same.1)
      where
        okay : I × Cursor → Result (I × Cursor) Reason
        okay z = Ok z
    go false (Err r) is e = absurd (refusal_is_no_item x d (g.place s) r.why e)

pub step_over : {S I P : Type 0} (g : Grammar S I P) (s : S) (m : Mark) (left : List Bool) → step_at g s (at_ left m) ≡ over → (g.may_end s ≡ true) × (left ≡ []) × AllKept (g.at_end s)
step_over {I = I} {P = P} g s m left e = go (g.may_end s && is_nil left) refl (read_in (g.room s) (g.layout s) (at_ left (fresh m))) e
  where
    go : (b : Bool) → (g.may_end s && is_nil left) ≡ b → (r : Result (I × Cursor) Reason) → cond b (judged g.end_place (g.at_end s)) (stepped (g.place s) r) ≡ over → (g.may_end s ≡ true) × (left ≡ []) × AllKept (g.at_end s)
    go true b r e = let parts = both (g.may_end s) (is_nil left) b in (parts.0, is_nil_is left parts.1, judged_over {I = I} g.end_place (g.at_end s) e)
    go false b (Ok y) e = absurd (over_is_no_item {P = P} y.0 y.1 (sym e))
    go false b (Err r) e = absurd (over_is_no_refusal {I = I} (g.place s) r.why (sym e))

pub step_stops : {S I P : Type 0} (g : Grammar S I P) (s : S) (m : Mark) (left : List Bool) (at : P) (why : Why) → step_at g s (at_ left m) ≡ refused at why → StopsAt g s m left at why
step_stops {I = I} {P = P} g s m left at why e = go (g.may_end s && is_nil left) refl (read_in (g.room s) (g.layout s) (at_ left (fresh m))) refl e
  where
    go : (b : Bool) → (g.may_end s && is_nil left) ≡ b → (r : Result (I × Cursor) Reason) → read_in (g.room s) (g.layout s) (at_ left (fresh m)) ≡ r → cond b (judged g.end_place (g.at_end s)) (stepped (g.place s) r) ≡ refused at why → StopsAt g s m left at why
    go true b r is e = let j = judged_refused {I = I} g.end_place at (g.at_end s) why e in inr (b, j.0, j.1)
    go false b (Ok y) is e = absurd (refusal_is_no_item y.0 y.1 at why (sym e))
    go false b (Err r) is e =
        let same = same_refusal {I = I} (g.place s) at r.why why e in
        inl (b, sym same.0, refuses_in (g.room s) (g.layout s) left (fresh m) why (is ∙ ap (λ w. failed (because w)) same.1))
      where
        failed : Reason → Result (I × Cursor) Reason
        failed k = Err k

-- ---- no input has two readings

-- the end of a reading: nothing, or a refusal
abbrev pub final : {I P : Type 0} → Option (P × Why) → Step I P
final None = over
final (Some refusal) = refused refusal.0 refusal.1

-- step by step these items, and then the end
abbrev pub Steps : {S I P : Type 0} → Grammar S I P → S → Cursor → List I → Option (P × Why) → Type 0
Steps g s c [] e = step_at g s c ≡ final e
Steps g s c (x ∷ xs) e = (d : Cursor) × (step_at g s c ≡ item x d) × Steps g (g.next s x) d xs e

final_is_no_item : {I P : Type 0} (e : Option (P × Why)) (x : I) (d : Cursor) → final e ≡ found P x d → ⊥
final_is_no_item None x d h = over_is_no_item x d h
final_is_no_item (Some r) x d h = refusal_is_no_item x d r.0 r.1 h

some_refusal : {P : Type 0} → P → Why → Option (P × Why)
some_refusal at why = Some (at, why)

same_final : {P : Type 0} (I : Type 0) (e f : Option (P × Why)) → final {I = I} e ≡ final f → e ≡ f
unfolding some_refusal
same_final I None None h = refl
same_final I None (Some r) h = absurd (over_is_no_refusal {I = I} r.0 r.1 h)
same_final I (Some r) None h = absurd (over_is_no_refusal {I = I} r.0 r.1 (sym h))
same_final I (Some r) (Some q) h = let same = same_refusal {I = I} r.0 q.0 r.1 q.1 h in ap (λ at. some_refusal at r.1) same.0 ∙ ap (λ w. some_refusal q.0 w) same.1

pub one_way : {S I P : Type 0} (g : Grammar S I P) (s : S) (c : Cursor) (xs ys : List I) (e f : Option (P × Why)) → Steps g s c xs e → Steps g s c ys f → (xs ≡ ys) × (e ≡ f)
one_way {I = I} g s c [] [] e f p q = (refl, same_final I e f (sym p ∙ q))
one_way g s c [] (y ∷ ys) e f p q = absurd (final_is_no_item e y q.0 (sym p ∙ q.1))
one_way g s c (x ∷ xs) [] e f p q = absurd (final_is_no_item f x p.0 (sym q ∙ p.1))
one_way {S = S} {P = P} g s c (x ∷ xs) (y ∷ ys) e f p q =
    let same = same_item {P = P} x y p.0 q.0 (sym p.1 ∙ q.1) in
    let q' : Steps g (g.next s x) p.0 ys f = subst (λ d. Steps g (g.next s x) d ys f) (sym same.1) (subst (λ z. Steps g (g.next s z) q.0 ys f) (sym same.0) q.2) in
    let rest = one_way g (g.next s x) p.0 xs ys e f p.2 q' in
    (ap (λ z. z ∷ xs) same.0 ∙ ap (λ zs. y ∷ zs) rest.0, rest.1)

-- items that are spelled, and then the end, are steps
joined_steps : {S I P : Type 0} (g : Grammar S I P) (needs : NeedsBits g) (s : S) (m : Mark) (xs : List I) (front left : List Bool) (e : Option (P × Why)) (j : Joined g s m xs front)
    → step_at g (state_after g s xs) (at_ left (mark_after g s m xs front j)) ≡ final e → Steps g s (at_ (front ++ left) m) xs e
joined_steps g needs s m [] front left e j h = rw j h
joined_steps g needs s m (x ∷ xs) front left e (part, rest, split, spelled, fits, others) h =
    let whole : front ++ left ≡ part ++ (rest ++ left) = ap (λ t. t ++ left) split ∙ append_assoc part rest left in (
      at_ (rest ++ left) (past part (fresh m)),
      ap (λ t. step_at g s (at_ t m)) whole ∙ spelled_step g needs s m part (rest ++ left) x spelled fits,
      joined_steps g needs (g.next s x) (past part (fresh m)) xs rest left e others h,
    )

pub stream_steps : {S I P : Type 0} (g : Grammar S I P) (needs : NeedsBits g) (s : S) (m : Mark) (xs : List I) (text : List Bool) → Stream g s m xs text → Steps g s (at_ text m) xs None
stream_steps g needs s m xs text w =
    subst (λ t. Steps g s (at_ t m) xs None) (append-nil text) (joined_steps g needs s m xs text [] None w.spelled (over_step g (state_after g s xs) (mark_after g s m xs text w.spelled) w.ends w.kept))

pub refused_steps : {S I P : Type 0} (g : Grammar S I P) (needs : NeedsBits g) (s : S) (m : Mark) (xs : List I) (text : List Bool) (at : P) (why : Why) → Refused g s m xs text at why → Steps g s (at_ text m) xs (Some (at, why))
refused_steps g needs s m xs text at why r = subst (λ t. Steps g s (at_ t m) xs (Some (at, why))) (sym r.stands)
    (joined_steps g needs s m xs r.front r.left (Some (at, why)) r.spelled (stops_step g (state_after g s xs) (mark_after g s m xs r.front r.spelled) r.left at why r.stops))
