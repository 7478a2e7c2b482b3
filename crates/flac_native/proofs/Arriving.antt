-- The parts of a native stream come one after another.
use Rattle.std.proofs.Common.{◌≡◌, true, List, [], ◌∷◌, ◌++◌, append_assoc, Option, Some, None, Result, Ok, Err, refl, sym, ap, subst, ◌∙◌}
use Rattle.flac_bits.specs.State.{State, Cursor, past, fresh}
use Rattle.flac_bits.specs.Fencing.{lifted}
use Rattle.flac_bits.specs.Reading.{Counts}
use Rattle.flac_bits.specs.Items.{Step, item, over, refused}
use Rattle.flac_bits.specs.inner.Items.{step_at}
use Rattle.flac_bits.specs.Handing.{reason_of}
use Rattle.flac_bits.specs.inner.Handing.{StepIs}
use Rattle.flac_bits.specs.declared.why.Why.{Why}
use Rattle.flac_bits.specs.declared.why.Why.TheVariants.{Memory}
use Rattle.flac_bits.proofs.Readings.{at_}
use Rattle.flac_bits.proofs.Items.{final, spelled_step, over_step, stops_step}
use Rattle.flac_native.specs.Stream.{Piece, Progress, grammar, next}
use Rattle.flac_native.specs.Item.{fault_pair}
use Rattle.flac_bits.specs.inner.Within.{IsOpen}
use Rattle.flac_native.specs.Coming.{PartsCome, IsNext}
use Rattle.flac_native.specs.declared.fault.Place.{Place}
use Rattle.flac_native.specs.declared.fault.Fault.{Fault}
use Rattle.flac_bits.proofs.Bounds.{open_on, lifted_open, open_lifted, step_short}
use Rattle.flac_native.proofs.Deciding.{needs_bits}

-- ---- the first part, and the end

next_part : (p : Progress) (c : Cursor) (x : Piece) (xs : List Piece) (end : Option (Place × Why)) → PartsCome p c (x ∷ xs) end → (d : Cursor) × (step_at grammar p c ≡ item x d) × PartsCome (next p x) d xs end
next_part p c x xs None s =
    let j = s.spelled in (
      at_ j.1 (past j.0 (fresh c.mark)),
      ap (λ t. step_at grammar p (at_ t c.mark)) j.2 ∙ spelled_step grammar needs_bits p c.mark j.0 j.1 x j.3 j.4,
      record { spelled = j.5; ends = s.ends; kept = s.kept },
    )
next_part p c x xs (Some f) r =
    let j = r.spelled in (
      at_ (j.1 ++ r.left) (past j.0 (fresh c.mark)),
      ap (λ t. step_at grammar p (at_ t c.mark)) (r.stands ∙ ap (λ t. t ++ r.left) j.2 ∙ append_assoc j.0 j.1 r.left) ∙ spelled_step grammar needs_bits p c.mark j.0 (j.1 ++ r.left) x j.3 j.4,
      record { front = j.1; left = r.left; stands = refl; spelled = j.5; stops = r.stops },
    )

last_part : (p : Progress) (c : Cursor) (end : Option (Place × Why)) → PartsCome p c [] end → step_at grammar p c ≡ final {I = Piece} end
last_part p c None s = ap (λ t. step_at grammar p (at_ t c.mark)) s.spelled ∙ over_step grammar p c.mark s.ends s.kept
last_part p c (Some f) r = ap (λ t. step_at grammar p (at_ t c.mark)) (r.stands ∙ ap (λ t. t ++ r.left) r.spelled) ∙ stops_step grammar p c.mark r.left f.0 f.1 r.stops

-- ---- the ways of a step differ

abbrev found_at : Piece → Cursor → Step Piece Place
found_at x d = item x d

abbrev no_more : Step Piece Place
no_more = over

abbrev refusal : Place → Why → Step Piece Place
refusal at why = refused at why

over_item : (x : Piece) (d : Cursor) → no_more ≡ found_at x d → ⊥
over_item x d e = absurd cc

over_refusal : (at : Place) (why : Why) → no_more ≡ refusal at why → ⊥
over_refusal at why e = absurd cc

item_refusal : (x : Piece) (d : Cursor) (at : Place) (why : Why) → found_at x d ≡ refusal at why → ⊥
item_refusal x d at why e = absurd cc

same_item : (x y : Piece) (c d : Cursor) → found_at x c ≡ found_at y d → (x ≡ y) × (c ≡ d)
same_item x y c d e = (let p : x ≡ y = cc in p, let q : c ≡ d = cc in q)

same_refusal : (at to : Place) (v w : Why) → refusal at v ≡ refusal to w → (at ≡ to) × (v ≡ w)
same_refusal at to v w e = (let p : at ≡ to = cc in p, let q : v ≡ w = cc in q)

final_item : (end : Option (Place × Why)) (x : Piece) (d : Cursor) → final {I = Piece} end ≡ found_at x d → ⊥
final_item None x d e = over_item x d e
final_item (Some f) x d e = item_refusal x d f.0 f.1 (sym e)

-- ---- what one step answers

-- the parts that come begin with the one that was read, or there is none
abbrev FirstPart : {X : Type 0} → Progress → List Piece → Option (Place × Why) → (X → Piece) → Result (Option X) Fault → Cursor → Type 0
FirstPart p [] None view result at = result ≡ Ok None
FirstPart p [] (Some f) view result at = result ≡ Err (record { at = f.0; why = f.1 })
FirstPart {X} p (x ∷ xs) end view result at = (y : X) × (result ≡ Ok (Some y)) × (view y ≡ x) × PartsCome (next p x) at xs end

first_part : {X : Type 0} (p : Progress) (c at : Cursor) (view : X → Piece) (result : Result (Option X) Fault) (parts : List Piece) (end : Option (Place × Why))
    → PartsCome p c parts end → StepIs view fault_pair (step_at grammar p c) at result → (reason_of fault_pair result ≡ Err Memory → ⊥) → FirstPart p parts end view result at
first_part p c at view (Ok None) [] None come is room = refl
first_part p c at view (Ok None) [] (Some f) come is room = absurd (over_refusal f.0 f.1 (sym is ∙ last_part p c (Some f) come))
first_part p c at view (Ok None) (x ∷ xs) end come is room = let n = next_part p c x xs end come in absurd (over_item x n.0 (sym is ∙ n.1))
first_part p c at view (Ok (Some y)) [] end come is room = absurd (final_item end (view y) at (sym (last_part p c end come) ∙ is))
first_part p c at view (Ok (Some y)) (x ∷ xs) end come is room =
    let n = next_part p c x xs end come in
    let same = same_item (view y) x at n.0 (sym is ∙ n.1) in
    (y, refl, same.0, subst (λ d. PartsCome (next p x) d xs end) (sym same.1) n.2)
first_part p c at view (Err e) [] None come is room = absurd (over_refusal e.at e.why (sym (last_part p c None come) ∙ is (λ h. room (ap Err h))))
first_part p c at view (Err e) [] (Some f) come is room =
    let same = same_refusal e.at f.0 e.why f.1 (sym (is (λ h. room (ap Err h))) ∙ last_part p c (Some f) come) in
    ap (λ (a : Place). Err (record { at = a; why = e.why })) same.0 ∙ ap (λ (w : Why). Err (record { at = f.0; why = w })) same.1
first_part p c at view (Err e) (x ∷ xs) end come is room = let n = next_part p c x xs end come in absurd (item_refusal x n.0 e.at e.why (sym n.1 ∙ is (λ h. room (ap Err h))))

-- ---- no fence stands after an item

pub open_after : (p : Progress) (s t : State) (x : Piece) → t.after ≡ (lifted s).after → step_at grammar p (lifted s).cursor ≡ item x t.cursor → IsOpen t
open_after p s t x after step = open_on (lifted s) t (lifted_open s) after (step_short grammar p (lifted s).cursor t.cursor x step)

pub same_cursor : (t : State) → IsOpen t → (lifted t).cursor ≡ t.cursor
same_cursor t opened = ap (λ (s : State). s.cursor) (open_lifted t opened)

-- ---- a call gives the next part

pub native_next : {X : Type 0} (p : Progress) (s t : State) (view : X → Piece) (result : Result (Option X) Fault) → s.known ≡ true → Counts (lifted s) t (reason_of fault_pair result)
    → StepIs view fault_pair (step_at grammar p (lifted s).cursor) t.cursor result → (reason_of fault_pair result ≡ Err Memory → ⊥)
    → (parts : List Piece) (end : Option (Place × Why)) → PartsCome p (lifted s).cursor parts end → IsNext (λ q ps e. PartsCome q (lifted t).cursor ps e) p view result parts end
native_next {X} p s t view result known counts step room parts end come = go parts end (first_part p (lifted s).cursor t.cursor view result parts end come step room)
  where
    go : (parts : List Piece) (end : Option (Place × Why)) → FirstPart p parts end view result t.cursor → IsNext (λ q ps e. PartsCome q (lifted t).cursor ps e) p view result parts end
    go [] None f = f
    go [] (Some r) f = f
    go (x ∷ xs) end (y, is, seen, rest) =
        let after = (subst (λ r. Counts (lifted s) t (reason_of fault_pair r)) is counts).3 known in
        let opened = open_after p s t (view y) after (subst (λ r. StepIs view fault_pair (step_at grammar p (lifted s).cursor) t.cursor r) is step) in
        (y, is, seen, subst (λ d. PartsCome (next p x) d xs end) (sym (same_cursor t opened)) rest)
