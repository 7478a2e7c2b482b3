-- What is read is what the layout means.
use Rattle.std.proofs.Common.{◌≡◌, ℕ, zero, suc, ◌<◌, ◌≤◌, Bool, true, false, List, [], ◌∷◌, ◌++◌, length, replicate, Option, Some, None, Result, Ok, Err, refl, sym, ap, subst, ◌∙◌, arith, append_assoc, inl, inr, ◌⊎◌}
use Rattle.std.proofs.lemmas.List.{append_cancel_right, length-append, length-replicate}
use Rattle.flac_bits.specs.Bits.{unsigned}
use Rattle.flac_bits.specs.State.{Mark, Cursor, step, past, with_short}
use Rattle.flac_bits.specs.declared.why.Why.TheVariants.{Truncated}
use Rattle.flac_bits.specs.Layout.{Layout, done, bind, bits, unary, judge, refuse, mark, Rule, Reason, because, run, unless_broken}
use Rattle.flac_bits.specs.State.{State}
use Rattle.flac_bits.specs.Reading.{Decodes, Means, Reads, Answers}
use Rattle.flac_bits.specs.Meaning.{AllKept, BreaksFirst, IsWithin, zeros_bits, Spells, Shows, IsCut}
use Rattle.flac_bits.proofs.Readings.{at_, IsZeros, past-append, number_reads, number_again, zeros_read_all, zeros_again}
use Rattle.flac_bits.specs.declared.why.Why.{Why}

abbrev pub read : {A : Type 0} → A × Cursor → Result (A × Cursor) Reason
read x = Ok x

abbrev pub failed_by : {A : Type 0} → Reason → Result (A × Cursor) Reason
failed_by r = Err r

-- each input spells a value at its front, or shows a fault there, or ends inside; and reading returns which
abbrev pub Reading : {A : Type 0} → Layout A → List Bool → Mark → Type 0
Reading {A = A} l left m =
    ((x : A) × (text : List Bool) × (rest : List Bool) × (left ≡ text ++ rest) × Spells l m text x × (run l (at_ left m) ≡ Ok (x, at_ rest (past text m))))
    ⊎ (((why : Why) × (front : List Bool) × (rest : List Bool) × (left ≡ front ++ rest) × Shows l m front why × (run l (at_ left m) ≡ Err (because why)))
    ⊎ (IsCut l m left × (run l (at_ left m) ≡ Err (because m.short))))

pub past-short : (bs : List Bool) (m : Mark) → (past bs m).short ≡ m.short
past-short [] m = refl
past-short (b ∷ bs) m = past-short bs (step b m)

rules_judged : (rules : List Rule) → AllKept rules ⊎ ((why : Why) × BreaksFirst rules why)
rules_judged [] = inl tt
rules_judged (rule ∷ rules) = go (rule.broken) refl (rules_judged rules)
  where
    go : (b : Bool) → rule.broken ≡ b → AllKept rules ⊎ ((why : Why) × BreaksFirst rules why) → AllKept (rule ∷ rules) ⊎ ((why : Why) × BreaksFirst (rule ∷ rules) why)
    go true e others = inr (rule.why, inl (e, refl))
    go false e (inl kept) = inl (e, kept)
    go false e (inr (why, first)) = inr (why, inr (e, first))

unless_kept : {X : Type 0} (rules : List Rule) (r : Result X Reason) → AllKept rules → unless_broken rules r ≡ r
unless_kept [] r kept = refl
unless_kept (rule ∷ rules) r kept = rw kept.0 (unless_kept rules r kept.1)

unless_first : {X : Type 0} (rules : List Rule) (r : Result X Reason) (why : Why) → BreaksFirst rules why → unless_broken rules r ≡ Err (because why)
unless_first [] r why first = absurd first
unless_first (rule ∷ rules) r why (inl (e, is)) = rw (e, is) refl
unless_first (rule ∷ rules) r why (inr (e, first)) = rw e (unless_first rules r why first)

-- what follows a valid part
after : (part text later rest left : List Bool) → left ≡ part ++ rest → rest ≡ text ++ later → left ≡ (part ++ text) ++ later
after part text later rest left p q = p ∙ ap (λ r. part ++ r) q ∙ sym (append_assoc part text later)

zeros_good : (limit : ℕ) (o : Option ℕ) (left rest : List Bool) → IsZeros limit left o rest → IsWithin limit o × (left ≡ zeros_bits limit o ++ rest)
zeros_good limit None left rest good = (tt, good)
zeros_good limit (Some q) left rest good = good

good_zeros : (limit : ℕ) (o : Option ℕ) (rest : List Bool) → IsWithin limit o → IsZeros limit (zeros_bits limit o ++ rest) o rest
good_zeros limit None rest good = refl
good_zeros limit (Some q) rest good = (good, refl)

pub reading : {A : Type 0} (l : Layout A) (left : List Bool) (m : Mark) → Reading l left m
reading (done x) left m = inl (x, [], left, refl, (refl, refl), refl)
reading (bind l f) left m = elim (reading l left m) [
  | inl (x, part, rest, split, spelled, ran) ↦
      elim (reading (f x) rest (past part m)) [
        | inl (y, text, later, split', spelled', ran') ↦
            inl (
              y,
              part ++ text,
              later,
              after part text later rest left split split',
              (x, part, text, refl, spelled, spelled'),
              rw ran (ran' ∙ ap (λ p. read (y, at_ later p)) (sym (past-append part text m))),
            )
        | inr (inl (why, front, later, split', shows, ran')) ↦
            inr (inl (why, part ++ front, later, after part front later rest left split split', inr (x, part, front, refl, spelled, shows), rw ran ran'))
        | inr (inr (cut, ran')) ↦ inr (inr (inr (x, part, rest, split, spelled, cut), rw ran (ran' ∙ ap (λ w. failed_by (because w)) (past-short part m))))
      ]
  | inr (inl (why, front, rest, split, shows, ran)) ↦ inr (inl (why, front, rest, split, inl shows, rw ran refl))
  | inr (inr (cut, ran)) ↦ inr (inr (inl cut, rw ran refl))
]
reading (bits n) left m = elim (number_reads n left m) [
  | inl (v, rest, good, is) ↦ inl (v, unsigned n v, rest, good.1, (good.0, refl), is)
  | inr (short, is) ↦ inr (inr (short, is))
]
reading (unary limit) left m = elim (zeros_read_all limit left m) [
  | inl (o, rest, good, is) ↦ let g = zeros_good limit o left rest good in inl (o, zeros_bits limit o, rest, g.1, (g.0, refl), is)
  | inr (short, is) ↦ inr (inr (short, is))
]
reading (judge rules) left m = elim (rules_judged rules) [
  | inl kept ↦ inl (tt, [], left, refl, (refl, kept), unless_kept rules (read (tt, at_ left m)) kept)
  | inr (why, first) ↦ inr (inl (why, [], left, refl, (refl, first), unless_first rules (read (tt, at_ left m)) why first))
]
reading (refuse why) left m = inr (inl (why, [], left, refl, (refl, refl), refl))
reading mark left m = inl (with_short Truncated m, [], left, refl, (refl, refl), refl)

-- what is spelled is read, whatever follows
pub again : {A : Type 0} (l : Layout A) (m : Mark) (text rest : List Bool) (x : A) → Spells l m text x → run l (at_ (text ++ rest) m) ≡ Ok (x, at_ rest (past text m))
again (done x) m text rest y s = rw (s.0, s.1) refl
again (bind l f) m text rest y (x, part, more, split, s, s') =
    let whole : text ++ rest ≡ part ++ (more ++ rest) = ap (λ b. b ++ rest) split ∙ append_assoc part more rest in
    let mark : past text m ≡ past more (past part m) = ap (λ b. past b m) split ∙ past-append part more m in
    rw (whole, mark, again l m part (more ++ rest) x s) (again (f x) (past part m) more rest y s')
again (bits n) m text rest v s = rw s.1 (number_again n v rest m s.0)
again (unary limit) m text rest o s = rw s.1 (zeros_again limit o (zeros_bits limit o ++ rest) rest m (good_zeros limit o rest s.0))
again (judge rules) m text rest y s = unless_kept rules (read (tt, at_ (text ++ rest) m)) s.1 ∙ rw s.0 refl
again (refuse why) m text rest y s = absurd s
again mark m text rest v s = rw (s.0, s.1) refl

-- a shown fault is returned, whatever follows
pub shown : {A : Type 0} (l : Layout A) (m : Mark) (front rest : List Bool) (why : Why) → Shows l m front why → run l (at_ (front ++ rest) m) ≡ Err (because why)
shown (done x) m front rest why s = absurd s
shown (bind l f) m front rest why (inl s) = rw (shown l m front rest why s) refl
shown (bind l f) m front rest why (inr (x, part, more, split, s, s')) =
    let whole : front ++ rest ≡ part ++ (more ++ rest) = ap (λ b. b ++ rest) split ∙ append_assoc part more rest in
    rw (whole, again l m part (more ++ rest) x s) (shown (f x) (past part m) more rest why s')
shown (bits n) m front rest why s = absurd s
shown (unary limit) m front rest why s = absurd s
shown (judge rules) m front rest why s = unless_first rules (read (tt, at_ (front ++ rest) m)) why s.1
shown {A = A} (refuse w) m front rest why s = ap (λ (v : Why). failed_by {A = A} (because v)) s.1
shown mark m front rest why s = absurd s

length-unsigned : (n v : ℕ) → length (unsigned n v) ≡ n
length-unsigned zero v = refl
length-unsigned (suc n) v = omega (arith, length-unsigned n v)

nil_cons : (b : Bool) (bs : List Bool) → [] ≡ b ∷ bs → ⊥
nil_cons b bs e = absurd cc

all_zeros : (q p : ℕ) (rest : List Bool) → replicate q false ≡ (replicate p false ++ true ∷ []) ++ rest → ⊥
all_zeros zero zero rest e = nil_cons true rest e
all_zeros zero (suc p) rest e = nil_cons false _ e
all_zeros (suc q) zero rest e = unlike (ap (head_or false) e)
  where
    head_or : Bool → List Bool → Bool
    head_or d [] = d
    head_or d (b ∷ bs) = b

    unlike : false ≡ true → ⊥
    unlike e = absurd cc
all_zeros (suc q) (suc p) rest e = all_zeros q p rest (ap tail e)
  where
    tail : List Bool → List Bool
    tail [] = []
    tail (b ∷ bs) = bs

longer : (n v : ℕ) (left rest : List Bool) → left ≡ unsigned n v ++ rest → length left < n → ⊥
longer n v left rest e lt = omega (arith, ap length e, length-append (unsigned n v) rest, length-unsigned n v)

no_one : (limit q : ℕ) (o : Option ℕ) (left rest : List Bool) → q ≤ limit → left ≡ replicate q false → IsZeros limit left o rest → ⊥
no_one limit q None left rest le e good = omega (arith, ap length e, ap length good, length-append (replicate (suc limit) false) rest, length-replicate q false, length-replicate (suc limit) false)
no_one limit q (Some p) left rest le e good = all_zeros q p rest (sym e ∙ good.1)

-- an input that ends inside is refused so
pub cut_short : {A : Type 0} (l : Layout A) (left : List Bool) (m : Mark) → IsCut l m left → run l (at_ left m) ≡ Err (because m.short)
cut_short (done x) left m s = absurd s
cut_short (bind l f) left m (inl s) = rw (cut_short l left m s) refl
cut_short (bind l f) left m (inr (x, part, rest, split, s, s')) = rw (split, again l m part rest x s) (cut_short (f x) rest (past part m) s' ∙ ap (λ w. failed_by (because w)) (past-short part m))
cut_short (bits n) left m short = elim (number_reads n left m) [
  | inl (v, rest, good, is) ↦ absurd (longer n v left rest good.1 short)
  | inr (_, is) ↦ is
]
cut_short (unary limit) left m (q, le, e) = elim (zeros_read_all limit left m) [
  | inl (o, rest, good, is) ↦ absurd (no_one limit q o left rest le e good)
  | inr (_, is) ↦ is
]
cut_short (judge rules) left m s = absurd s
cut_short (refuse why) left m s = absurd s
cut_short mark left m s = absurd s

pair_is : {A : Type 0} (p q : A × Cursor) → read p ≡ read q → p ≡ q
pair_is p q e = cc

pub is_ok_of : {A : Type 0} (x y : A) (c d : Cursor) → read (x, c) ≡ read (y, d) → (x ≡ y) × (c ≡ d)
is_ok_of {A = A} x y c d e = let same = pair_is (x, c) (y, d) e in (ap (λ (p : A × Cursor). p.0) same, ap (λ (p : A × Cursor). p.1) same)

reason_is : {A : Type 0} (v w : Reason) → failed_by {A = A} v ≡ failed_by w → v ≡ w
reason_is v w e = cc

pub why_is : {A : Type 0} (v w : Why) → failed_by {A = A} (because v) ≡ failed_by (because w) → v ≡ w
why_is v w e = ap (λ (r : Reason). r.why) (reason_is (because v) (because w) e)

pub differ : {A : Type 0} (x : A × Cursor) (r : Reason) → read x ≡ failed_by r → ⊥
differ x r e = absurd cc

-- what is read is spelled so
pub takes : {A : Type 0} (l : Layout A) (left : List Bool) (m : Mark) (x : A) (d : Cursor) → run l (at_ left m) ≡ Ok (x, d)
    → (text : List Bool) × (left ≡ text ++ d.left) × Spells l m text x × (d.mark ≡ past text m)
takes l left m x d e = elim (reading l left m) [
  | inl (y, text, rest, split, spelled, ran) ↦
      let same = is_ok_of y x (at_ rest (past text m)) d (sym ran ∙ e) in
      let left_is : rest ≡ d.left = ap (λ (c : Cursor). c.left) same.1 in
      (text, split ∙ ap (λ r. text ++ r) left_is, subst (Spells l m text) same.0 spelled, sym (ap (λ (c : Cursor). c.mark) same.1))
  | inr (inl (why, front, rest, split, s, ran)) ↦ absurd (differ (x, d) (because why) (sym e ∙ ran))
  | inr (inr (cut, ran)) ↦ absurd (differ (x, d) (because m.short) (sym e ∙ ran))
]

-- what is refused shows the reason at a front, or the input ends inside
pub refuses : {A : Type 0} (l : Layout A) (left : List Bool) (m : Mark) (e : Why) → run l (at_ left m) ≡ Err (because e)
    → ((front : List Bool) × (rest : List Bool) × (left ≡ front ++ rest) × Shows l m front e) ⊎ ((e ≡ m.short) × IsCut l m left)
refuses l left m e is = elim (reading l left m) [
  | inl (y, text, rest, split, spelled, ran) ↦ absurd (differ (y, at_ rest (past text m)) (because e) (sym ran ∙ is))
  | inr (inl (why, front, rest, split, s, ran)) ↦ inl (front, rest, split, subst (Shows l m front) (why_is why e (sym ran ∙ is)) s)
  | inr (inr (cut, ran)) ↦ inr (why_is e m.short (sym is ∙ ran), cut)
]

-- no spelling begins another
pub one_way : {A : Type 0} (l : Layout A) (m : Mark) (a b r s : List Bool) (x y : A) → Spells l m a x → Spells l m b y → a ++ r ≡ b ++ s → (a ≡ b) × (x ≡ y)
one_way l m a b r s x y p q e =
    let first : run l (at_ (a ++ r) m) ≡ Ok (x, at_ r (past a m)) = again l m a r x p in
    let second : run l (at_ (a ++ r) m) ≡ Ok (y, at_ s (past b m)) = rw e (again l m b s y q) in
    let same = is_ok_of x y (at_ r (past a m)) (at_ s (past b m)) (sym first ∙ second) in
    let rest : r ≡ s = ap (λ (c : Cursor). c.left) same.1 in
    (append_cancel_right a b r (e ∙ ap (λ t. b ++ t) (sym rest)), same.0)

-- what spells a value shows no fault
pub no_fault : {A : Type 0} (l : Layout A) (m : Mark) (a b r s : List Bool) (x : A) (why : Why) → Spells l m a x → Shows l m b why → a ++ r ≡ b ++ s → ⊥
no_fault l m a b r s x why p q e = differ (x, at_ r (past a m)) (because why) (sym (again l m a r x p) ∙ (ap (λ t. run l (at_ t m)) e ∙ shown l m b s why q))

decodes : {X Y : Type 0} (view : X → Y) (l : Layout Y) (old new : Cursor) (result : Result X Why) → Answers view (run l old) new result → Decodes view l old new result
decodes view l old new (Ok x) answers = record {
  found = let t = takes l old.left old.mark (view x) new answers in (t.0, (t.1, t.3), t.2);
  only = λ text rest y e s.
      let same = is_ok_of (view x) y new (at_ rest (past text old.mark)) (sym answers ∙ ap (λ t. run l (at_ t old.mark)) e ∙ again l old.mark text rest y s) in
      (same.0, ap (λ (c : Cursor). c.left) same.1);
  fault = tt;
  shown = λ front rest why e s. differ (view x, new) (because why) (sym answers ∙ ap (λ t. run l (at_ t old.mark)) e ∙ shown l old.mark front rest why s);
  cut = λ s. differ (view x, new) (because old.mark.short) (sym answers ∙ cut_short l old.left old.mark s);
}
decodes view l old new (Err why) answers = record {
  found = tt;
  only = λ text rest y e s. differ (y, at_ rest (past text old.mark)) (because why) (sym (again l old.mark text rest y s) ∙ ap (λ t. run l (at_ t old.mark)) (sym e) ∙ answers);
  fault = refuses l old.left old.mark why answers;
  shown = λ front rest w e s. why_is why w (sym answers ∙ ap (λ t. run l (at_ t old.mark)) e ∙ shown l old.mark front rest w s);
  cut = λ s. why_is why old.mark.short (sym answers ∙ cut_short l old.left old.mark s);
}

-- a call that reads a layout returns what it means
pub means : {X Y : Type 0} (view : X → Y) (l : Layout Y) (old new : State) (result : Result X Why) → Reads view l old new result → Means view l old new result
means view l old new result reads known same = decodes view l old.cursor new.cursor result (reads known same)

answers : {X Y : Type 0} (view : X → Y) (l : Layout Y) (old new : Cursor) (result : Result X Why) → Decodes view l old new result → Answers view (run l old) new result
answers view l old new (Ok x) d =
    let t = d.found in
    ap (λ k. run l (at_ k old.mark)) t.1.0 ∙ again l old.mark t.0 new.left (view x) t.2 ∙ ap (λ k. read (view x, at_ new.left k)) (sym t.1.1)
answers view l old new (Err why) d = elim d.fault [
  | inl (front, rest, split, s) ↦ ap (λ k. run l (at_ k old.mark)) split ∙ shown l old.mark front rest why s
  | inr (short, s) ↦ cut_short l old.left old.mark s ∙ ap (λ w. failed_by (because w)) (sym short)
]

-- and one that returns what a layout means reads it
pub reads : {X Y : Type 0} (view : X → Y) (l : Layout Y) (old new : State) (result : Result X Why) → Means view l old new result → Reads view l old new result
reads view l old new result means known same = answers view l old.cursor new.cursor result (means known same)
