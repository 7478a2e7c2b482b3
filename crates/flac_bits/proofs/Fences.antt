-- What is read with a fence is what the layout means, within the room.
use Rattle.std.proofs.Common.{◌≡◌, ℕ, ◌+◌, ◌-◌, ◌*◌, ◌<◌, ◌≤◌, Bool, true, false, cond, nat_le, List, ◌++◌, length, take, drop, Option, Some, None, Result, Ok, Err, refl, sym, ap, subst, ◌∙◌, append_assoc, arith, inl, inr, ◌⊎◌}
use Rattle.std.proofs.lemmas.List.{take-append-drop, length-take-le, take_all, length-append}
use Rattle.std.proofs.lemmas.Bool.Decides.{nat_tests}
use Rattle.std.proofs.Math.Seq.{take-append-add, drop-append-add, take-append_seam}
use Rattle.flac_bits.specs.State.{Mark, Cursor, past, with_short}
use Rattle.flac_bits.specs.Layout.{Layout, done, bind, bits, unary, judge, refuse, mark, because, run}
use Rattle.flac_bits.specs.Meaning.{Spells, Shows, IsCut}
use Rattle.flac_bits.specs.Reading.{Answers}
use Rattle.flac_bits.specs.Fence.{InRoom, StopsIn, fenced, unfenced, read_in}
use Rattle.flac_bits.specs.declared.why.Why.{Why}
use Rattle.flac_bits.specs.declared.why.Why.TheVariants.{FrameTooLong}
use Rattle.flac_bits.proofs.Readings.{at_}
use Rattle.flac_bits.proofs.Fields.{past-with_short}
use Rattle.flac_bits.proofs.Meaning.{read, failed_by, reading, again, shown, cut_short, is_ok_of, why_is, differ}

-- ---- a meaning does not depend on the reason if bits run short

pub spells_short : {A : Type 0} (l : Layout A) (why : Why) (m : Mark) (text : List Bool) (x : A) → Spells l m text x → Spells l (with_short why m) text x
spells_short (done x) why m text y s = s
spells_short (bind l f) why m text y (x, front, rest, split, s, s') =
    (x, front, rest, split, spells_short l why m front x s, subst (λ (k : Mark). Spells (f x) k rest y) (sym (past-with_short front why m)) (spells_short (f x) why (past front m) rest y s'))
spells_short (bits n) why m text y s = s
spells_short (unary limit) why m text y s = s
spells_short (judge rules) why m text y s = s
spells_short (refuse w) why m text y s = s
spells_short mark why m text y s = s

pub shows_short : {A : Type 0} (l : Layout A) (why : Why) (m : Mark) (front : List Bool) (w : Why) → Shows l m front w → Shows l (with_short why m) front w
shows_short (done x) why m front w s = s
shows_short (bind l f) why m front w (inl s) = inl (shows_short l why m front w s)
shows_short (bind l f) why m front w (inr (x, part, rest, split, s, s')) =
    inr (x, part, rest, split, spells_short l why m part x s, subst (λ (k : Mark). Shows (f x) k rest w) (sym (past-with_short part why m)) (shows_short (f x) why (past part m) rest w s'))
shows_short (bits n) why m front w s = s
shows_short (unary limit) why m front w s = s
shows_short (judge rules) why m front w s = s
shows_short (refuse v) why m front w s = s
shows_short mark why m front w s = s

pub cut_any : {A : Type 0} (l : Layout A) (why : Why) (m : Mark) (front : List Bool) → IsCut l m front → IsCut l (with_short why m) front
cut_any (done x) why m front s = s
cut_any (bind l f) why m front (inl s) = inl (cut_any l why m front s)
cut_any (bind l f) why m front (inr (x, part, rest, split, s, s')) =
    inr (x, part, rest, split, spells_short l why m part x s, subst (λ (k : Mark). IsCut (f x) k rest) (sym (past-with_short part why m)) (cut_any (f x) why (past part m) rest s'))
cut_any (bits n) why m front s = s
cut_any (unary limit) why m front s = s
cut_any (judge rules) why m front s = s
cut_any (refuse v) why m front s = s
cut_any mark why m front s = s

-- ---- lists at a fence

is_le : (a b : ℕ) → a ≤ b → nat_le a b ≡ true
is_le a b h = grind (arith, nat_tests)

is_not_le : (a b : ℕ) → b < a → nat_le a b ≡ false
is_not_le a b h = grind (arith, nat_tests)

le_is : (a b : ℕ) → nat_le a b ≡ true → a ≤ b
le_is a b h = grind (arith, nat_tests)

not_le_is : (a b : ℕ) → nat_le a b ≡ false → b < a
not_le_is a b h = grind (arith, nat_tests)

-- a front within the fence is seen whole
take_front : (front rest : List Bool) (k : ℕ) → length front ≤ k → take k (front ++ rest) ≡ front ++ take (k - length front) rest
take_front front rest k le =
    let sum : k ≡ length front + (k - length front) = omega arith in
    ap (λ n. take n (front ++ rest)) sum ∙ take-append-add front rest (k - length front)

drop_front : (front rest : List Bool) (k : ℕ) → length front ≤ k → drop k (front ++ rest) ≡ drop (k - length front) rest
drop_front front rest k le =
    let sum : k ≡ length front + (k - length front) = omega arith in
    ap (λ n. drop n (front ++ rest)) sum ∙ drop-append-add front rest (k - length front)

take_short : (k : ℕ) (left : List Bool) → length (take k left) ≤ k
take_short k left = elim (le_or (length left) k) [
  | inl le ↦ subst (λ (t : List Bool). length t ≤ k) (sym (take_all k left le)) le
  | inr lt ↦ omega (arith, length-take-le k left (omega (arith, lt)))
]
  where
    le_or : (a b : ℕ) → (a ≤ b) ⊎ (b < a)
    le_or a b = grind arith

-- what follows a part of what is seen
split_seen : (k : ℕ) (left part rest : List Bool) → take k left ≡ part ++ rest → left ≡ part ++ (rest ++ drop k left)
split_seen k left part rest e = sym (take-append-drop k left) ∙ ap (λ t. t ++ drop k left) e ∙ append_assoc part rest (drop k left)

seen_in_room : (k : ℕ) (left part rest : List Bool) → take k left ≡ part ++ rest → length part ≤ k
seen_in_room k left part rest e = omega (arith, take_short k left, ap (λ (t : List Bool). length t) e, length-append part rest)

-- ---- what is meant is read

-- the reason at a fence
abbrev short_in : ℕ → List Bool → Mark → Why
short_in n left m = cond (nat_le (m.unread + 8 * n) (length left)) FrameTooLong m.short

pub again_in : {A : Type 0} (room : Option ℕ) (l : Layout A) (m : Mark) (front rest : List Bool) (x : A) → Spells l m front x → InRoom room m front
    → read_in room l (at_ (front ++ rest) m) ≡ Ok (x, at_ rest (past front m))
again_in None l m front rest x s room = again l m front rest x s
again_in (Some n) l m front rest x s room =
    let k = m.unread + 8 * n in
    let why = short_in n (front ++ rest) m in
    let seen : take k (front ++ rest) ≡ front ++ take (k - length front) rest = take_front front rest k room in
    let unseen : drop k (front ++ rest) ≡ drop (k - length front) rest = drop_front front rest k room in
    let ran : run l (at_ (take k (front ++ rest)) (with_short why m)) ≡ Ok (x, at_ (take (k - length front) rest) (past front (with_short why m))) =
    ap (λ t. run l (at_ t (with_short why m))) seen ∙ again l (with_short why m) front (take (k - length front) rest) x (spells_short l why m front x s) in
    let left : take (k - length front) rest ++ drop k (front ++ rest) ≡ rest = ap (λ t. take (k - length front) rest ++ t) unseen ∙ take-append-drop (k - length front) rest in
    let marked : with_short m.short (past front (with_short why m)) ≡ past front m = ap (λ k. with_short m.short k) (past-with_short front why m) ∙ sym (past-with_short front m.short m) in
    rw ran (ap (λ t. read (x, at_ t (with_short m.short (past front (with_short why m))))) left ∙ ap (λ k. read (x, at_ rest k)) marked)

pub stops_in : {A : Type 0} (room : Option ℕ) (l : Layout A) (m : Mark) (left : List Bool) (why : Why) → StopsIn room l m left why → read_in room l (at_ left m) ≡ Err (because why)
stops_in None l m left why (inl (front, rest, split, shows, room)) = ap (λ t. run l (at_ t m)) split ∙ shown l m front rest why shows
stops_in None l m left why (inr (inl (short, cut, room))) = cut_short l left m cut ∙ ap (λ w. failed_by (because w)) (sym short)
stops_in None l m left why (inr (inr (long, fills))) = absurd fills
stops_in (Some n) l m left why (inl (front, rest, split, shows, room)) =
    let k = m.unread + 8 * n in
    let w = short_in n left m in
    let seen : take k left ≡ front ++ take (k - length front) rest = ap (λ t. take k t) split ∙ take_front front rest k room in
    let ran : run l (at_ (take k left) (with_short w m)) ≡ Err (because why) =
    ap (λ t. run l (at_ t (with_short w m))) seen ∙ shown l (with_short w m) front (take (k - length front) rest) why (shows_short l w m front why shows) in
    rw ran refl
stops_in (Some n) l m left why (inr (inl (short, cut, room))) =
    let k = m.unread + 8 * n in
    let w = short_in n left m in
    let is : w ≡ why = ap (λ b. cond b FrameTooLong m.short) (is_not_le k (length left) room) ∙ sym short in
    let seen : take k left ≡ left = take_all k left (omega arith) in
    let ran : run l (at_ (take k left) (with_short w m)) ≡ Err (because why) =
    ap (λ t. run l (at_ t (with_short w m))) seen ∙ cut_short l left (with_short w m) (cut_any l w m left cut) ∙ ap (λ w. failed_by (because w)) is in
    rw ran refl
stops_in (Some n) l m left why (inr (inr (long, (front, rest, split, fills, cut)))) =
    let k = m.unread + 8 * n in
    let w = short_in n left m in
    let all : k ≤ length left = omega (arith, ap (λ (t : List Bool). length t) split, length-append front rest, fills) in
    let is : w ≡ why = ap (λ b. cond b FrameTooLong m.short) (is_le k (length left) all) ∙ sym long in
    let seen : take k left ≡ front = ap (λ t. take k t) split ∙ ap (λ n. take n (front ++ rest)) (sym fills) ∙ take-append_seam front rest in
    let ran : run l (at_ (take k left) (with_short w m)) ≡ Err (because why) =
    ap (λ t. run l (at_ t (with_short w m))) seen ∙ cut_short l front (with_short w m) (cut_any l w m front cut) ∙ ap (λ w. failed_by (because w)) is in
    rw ran refl

-- ---- and what is read is meant

-- each input spells an item within the room at its front, or stops for one of the three reasons
reading_in : {A : Type 0} (room : Option ℕ) (l : Layout A) (left : List Bool) (m : Mark)
    → ((x : A) × (text : List Bool) × (rest : List Bool) × (left ≡ text ++ rest) × Spells l m text x × InRoom room m text) ⊎ ((why : Why) × StopsIn room l m left why)
reading_in None l left m = elim (reading l left m) [
  | inl (x, text, rest, split, spelled, ran) ↦ inl (x, text, rest, split, spelled, tt)
  | inr (inl (why, front, rest, split, shows, ran)) ↦ inr (why, inl (front, rest, split, shows, tt))
  | inr (inr (cut, ran)) ↦ inr (m.short, inr (inl (refl, cut, tt)))
]
reading_in (Some n) l left m =
    let k = m.unread + 8 * n in
    let w = short_in n left m in
    elim (reading l (take k left) (with_short w m)) [
      | inl (x, text, rest, split, spelled, ran) ↦ inl (x, text, rest ++ drop k left, split_seen k left text rest split, spells_short l m.short (with_short w m) text x spelled, seen_in_room k left text rest split)
      | inr (inl (why, front, rest, split, shows, ran)) ↦
          inr (why, inl (front, rest ++ drop k left, split_seen k left front rest split, shows_short l m.short (with_short w m) front why shows, seen_in_room k left front rest split))
      | inr (inr (cut, ran)) ↦ ends n l left m (cut_any l m.short (with_short w m) (take k left) cut) (nat_le k (length left)) refl
    ]
  where
    ends : {A : Type 0} (n : ℕ) (l : Layout A) (left : List Bool) (m : Mark) → IsCut l m (take (m.unread + 8 * n) left) → (b : Bool) → nat_le (m.unread + 8 * n) (length left) ≡ b
        → ((x : A) × (text : List Bool) × (rest : List Bool) × (left ≡ text ++ rest) × Spells l m text x × InRoom (Some n) m text) ⊎ ((why : Why) × StopsIn (Some n) l m left why)
    ends n l left m cut true e =
        let k = m.unread + 8 * n in
        inr (FrameTooLong, inr (inr (refl, (take k left, drop k left, sym (take-append-drop k left), length-take-le k left (le_is k (length left) e), cut))))
    ends n l left m cut false e =
        let k = m.unread + 8 * n in
        let lt : length left < k = not_le_is k (length left) e in
        inr (m.short, inr (inl (refl, subst (λ t. IsCut l m t) (take_all k left (omega arith)) cut, lt)))

pub takes_in : {A : Type 0} (room : Option ℕ) (l : Layout A) (left : List Bool) (m : Mark) (x : A) (d : Cursor) → read_in room l (at_ left m) ≡ Ok (x, d)
    → (text : List Bool) × (left ≡ text ++ d.left) × Spells l m text x × InRoom room m text × (d.mark ≡ past text m)
takes_in room l left m x d e = elim (reading_in room l left m) [
  | inl (y, text, rest, split, spelled, fits) ↦
      let ran : read_in room l (at_ left m) ≡ read (y, at_ rest (past text m)) = ap (λ t. read_in room l (at_ t m)) split ∙ again_in room l m text rest y spelled fits in
      let same = is_ok_of y x (at_ rest (past text m)) d (sym ran ∙ e) in
      let left_is : rest ≡ d.left = ap (λ (c : Cursor). c.left) same.1 in
      (text, split ∙ ap (λ r. text ++ r) left_is, subst (Spells l m text) same.0 spelled, fits, sym (ap (λ (c : Cursor). c.mark) same.1))
  | inr (why, stops) ↦ absurd (differ (x, d) (because why) (sym e ∙ stops_in room l m left why stops))
]

pub refuses_in : {A : Type 0} (room : Option ℕ) (l : Layout A) (left : List Bool) (m : Mark) (why : Why) → read_in room l (at_ left m) ≡ Err (because why) → StopsIn room l m left why
refuses_in room l left m why e = elim (reading_in room l left m) [
  | inl (y, text, rest, split, spelled, fits) ↦
      let ran : read_in room l (at_ left m) ≡ read (y, at_ rest (past text m)) = ap (λ t. read_in room l (at_ t m)) split ∙ again_in room l m text rest y spelled fits in
      absurd (differ (y, at_ rest (past text m)) (because why) (sym ran ∙ e))
  | inr (w, stops) ↦ subst (λ v. StopsIn room l m left v) (why_is w why (sym (stops_in room l m left w stops) ∙ e)) stops
]

-- ---- a call that reads with a fence, which is lifted then

pub answers_in : {X Y : Type 0} (view : X → Y) (n : ℕ) (l : Layout Y) (c d e : Cursor) (result : Result X Why) → Answers view (run l (fenced n c)) d result → e ≡ unfenced n c d → Answers view (read_in (Some n) l c) e result
answers_in view n l c d e (Ok x) answers is = rw (answers, is) refl
answers_in view n l c d e (Err why) answers is = rw answers refl
