-- What several calls one after another need of the source.
use Rattle.std.proofs.Common.{◌≡◌, ℕ, zero, suc, ◌+◌, ◌-◌, ◌*◌, ◌/◌, ◌%◌, ◌^◌, ◌<◌, ◌≤◌, Bool, true, false, nat_eq, nat_lt, Option, Some, List, [], ◌∷◌, ◌++◌, length, take, drop, replicate, Ok, refl, sym, ap, subst, ◌∙◌, arith, append_assoc, inl, inr, ◌⊎◌}
use Rattle.std.proofs.lemmas.Bool.{cases_lt}
use Rattle.std.proofs.lemmas.List.{length-append, length-take, length-drop, take-append-drop, take-append-le, take-take, take_all, append-nil, length-replicate}
use Rattle.flac_bits.specs.State.{Mark, Cursor, State, step, past}
use Rattle.flac_bits.specs.Layout.{Layout, done, bind, bits, unary, judge, refuse, mark, choose, run, because, next_bit, number_at}
use Rattle.flac_bits.specs.Lists.{list_of}
use Rattle.flac_bits.specs.Meaning.{Spells, IsCut}
use Rattle.flac_bits.specs.Number.{lead_form, continued, some_or_bad, number}
use Rattle.flac_bits.specs.Rice.{within, rice, rice_value}
use Rattle.flac_bits.specs.Reading.{HeldEnds}
use Rattle.flac_bits.specs.inner.Reading.{Draws, SkippedZeros}
use Rattle.flac_bits.specs.declared.why.Why.{Why}
use Rattle.flac_bits.specs.declared.why.Why.TheVariants.{Read, BadNumber}
use Rattle.flac_bits.proofs.Coming.{take_over}
use Rattle.flac_bits.proofs.Readings.{at_}
use Rattle.flac_bits.proofs.Meaning.{differ, reading, is_ok_of, one_way, no_fault, takes}
use Rattle.flac_bits.proofs.Words.{length-unsigned}

-- ---- numbers of bits

-- a call that reads b bits, after a value of a bits
pub bits_failed : (a b n old mid : ℕ) (e : Why) → old ≤ mid + a → (e ≡ Read → mid < b) → a + b ≡ n → e ≡ Read → old < n
bits_failed a b n old mid e first next is read = omega (arith, first, next read, is)

-- a call that fails before it has read all of its bits
pub bits_before : (n k old : ℕ) (e : Why) → n ≤ k → (e ≡ Read → old < n) → e ≡ Read → old < k
bits_before n k old e le first read = omega (arith, first read, le)

-- ---- bits that end inside a layout

front_zeros : (a b : List Bool) (q : ℕ) → a ++ b ≡ replicate q false → a ≡ replicate (length a) false
front_zeros [] b q e = refl
front_zeros (x ∷ a) b zero e = absurd cc
front_zeros (x ∷ a) b (suc q) e =
    let same : x ≡ false = ap (head_or false) e in
    rw same (ap (λ bs. false ∷ bs) (front_zeros a b q (ap tail e)))
  where
    head_or : Bool → List Bool → Bool
    head_or d [] = d
    head_or d (b ∷ bs) = b

    tail : List Bool → List Bool
    tail [] = []
    tail (b ∷ bs) = bs

-- of two splits of a list one is the first, or its front is shorter
two_splits : (a b c d : List Bool) → a ++ b ≡ c ++ d → ((e : List Bool) × (a ≡ c ++ e) × (d ≡ e ++ b)) ⊎ ((e : List Bool) × (c ≡ a ++ e) × (0 < length e))
two_splits a b [] d p = inl (a, refl, sym p)
two_splits [] b (y ∷ c) d p = inr (y ∷ c, refl, omega arith)
two_splits (x ∷ a) b (y ∷ c) d p =
    let same : x ≡ y = ap (head_or false) p in
    elim (two_splits a b c d (ap tail p)) [
      | inl (e, first, rest) ↦ inl (e, rw same (ap (λ bs. y ∷ bs) first), rest)
      | inr (e, first, more) ↦ inr (e, rw same (ap (λ bs. y ∷ bs) first), more)
    ]
  where
    head_or : Bool → List Bool → Bool
    head_or d [] = d
    head_or d (b ∷ bs) = b

    tail : List Bool → List Bool
    tail [] = []
    tail (b ∷ bs) = bs

-- a spelling that lacks its end ends inside
pub part_ends : {A : Type 0} (l : Layout A) (m : Mark) (a b : List Bool) (x : A) → Spells l m (a ++ b) x → 0 < length b → IsCut l m a
part_ends l m a b x s more = elim (reading l a m) [
  | inl (y, text, rest, split, spelled, ran) ↦
      let same = one_way l m text (a ++ b) (rest ++ b) [] y x spelled s (sym (append_assoc text rest b) ∙ ap (λ t. t ++ b) (sym split) ∙ sym (append-nil (a ++ b))) in
      absurd (omega (arith, more, ap (λ (bs : List Bool). length bs) same.0, ap (λ (bs : List Bool). length bs) split, length-append a b, length-append text rest))
  | inr (inl (why, front, rest, split, s', ran)) ↦
      absurd (no_fault l m (a ++ b) front [] (rest ++ b) x why s s' (append-nil (a ++ b) ∙ ap (λ t. t ++ b) split ∙ append_assoc front rest b))
  | inr (inr (cut, ran)) ↦ cut
]

-- and so does what is before bits that end inside
pub front_ends : {A : Type 0} (l : Layout A) (m : Mark) (a b : List Bool) → IsCut l m (a ++ b) → IsCut l m a
front_ends (done x) m a b s = absurd s
front_ends (bind l f) m a b (inl s) = inl (front_ends l m a b s)
front_ends (bind l f) m a b (inr (x, part, rest, split, s, s')) = elim (two_splits a b part rest split) [
  | inl (e, first, left) ↦ inr (x, part, e, first, s, front_ends (f x) (past part m) e b (subst (λ t. IsCut (f x) (past part m) t) left s'))
  | inr (e, whole, more) ↦ inl (part_ends l m a e x (subst (λ t. Spells l m t x) whole s) more)
]
front_ends (bits n) m a b s = omega (arith, s, length-append a b)
front_ends (unary limit) m a b (q, le, e) = (length a, omega (arith, le, ap (λ (bs : List Bool). length bs) e, length-append a b, length-replicate q false), front_zeros a b q e)
front_ends (judge rules) m a b s = absurd s
front_ends (refuse why) m a b s = absurd s
front_ends mark m a b s = absurd s

take_ends : {A : Type 0} (l : Layout A) (m : Mark) (k n : ℕ) (left : List Bool) → k ≤ n → IsCut l m (take n left) → IsCut l m (take k left)
take_ends l m k n left le s = front_ends l m (take k left) (drop k (take n left)) (subst (IsCut l m) (sym (ap (λ t. t ++ drop k (take n left)) (sym (take-take k n left le)) ∙ take-append-drop k (take n left))) s)

-- a layout after another: the bits that were held end inside, if those that are held end inside the second
pub then_ends : {A B : Type 0} (l : Layout A) (f : A → Layout B) (x : A) (c d : Cursor) (h k : ℕ) → run l c ≡ Ok (x, d) → h + length d.left ≤ k + length c.left → IsCut (f x) d.mark (take k d.left)
    → IsCut (bind l f) c.mark (take h c.left)
then_ends l f x c d h k ran held cut =
    let t = takes l c.left c.mark x d ran in
    let text = t.0 in
    let long : length c.left ≡ length text + length d.left = ap (λ (bs : List Bool). length bs) t.1 ∙ length-append text d.left in
    elim (cases_lt h (length text)) [
      | inl lt ↦
          let part : take h c.left ≡ take h text = ap (take h) t.1 ∙ take-append-le h text d.left (omega (arith, lt)) in
          let spelled : Spells l c.mark (take h text ++ drop h text) x = subst (λ b. Spells l c.mark b x) (sym (take-append-drop h text)) t.2 in
          inl (subst (IsCut l c.mark) (sym part) (part_ends l c.mark (take h text) (drop h text) x spelled (omega (arith, lt, length-drop h text))))
      | inr le ↦
          let n = h - length text in
          let parts : take h c.left ≡ text ++ take n d.left = ap (take h) t.1 ∙ take_over h text d.left ∙ ap (λ b. b ++ take n d.left) (take_all h text le) in
          let rest : IsCut (f x) (past text c.mark) (take n d.left) = subst (λ m. IsCut (f x) m (take n d.left)) t.3 (take_ends (f x) d.mark n k d.left (omega (arith, held, long, le)) cut) in
          inr (x, text, take n d.left, parts, t.2, rest)
    ]

-- ---- calls that read layouts

-- a number of bits as a layout
pub bits_inside : (n : ℕ) (s : State) → s.held < n → HeldEnds (bits n) s
bits_inside n s few = omega (arith, few, length-take s.held s.cursor.left)

-- what is left of the input after a number of bits
bits_left : (n v : ℕ) (c d : Cursor) → number_at n c ≡ Ok (v, d) → length c.left ≡ n + length d.left
bits_left n v c d ran =
    let t = takes (bits n) c.left c.mark v d ran in
    omega (arith, ap (λ (bs : List Bool). length bs) t.1, length-append t.0 d.left, ap (λ (bs : List Bool). length bs) t.2.1, length-unsigned n v)

pub bits_held : (n v : ℕ) (old new : State) → old.held ≤ new.held + n → (old.known ≡ true → number_at n old.cursor ≡ Ok (v, new.cursor)) → old.known ≡ true → old.held + length new.cursor.left ≤ new.held + length old.cursor.left
bits_held n v old new held ran known = omega (arith, held, bits_left n v old.cursor new.cursor (ran known))

-- ---- zeros

bit_left : (left : List Bool) (m : Mark) (b : Bool) (d : Cursor) → next_bit (at_ left m) ≡ Ok (b, d) → left ≡ b ∷ d.left
unfolding next_bit
bit_left [] m b d e = absurd (differ (b, d) (because m.short) (sym e))
bit_left (x ∷ left) m b d e = let same = is_ok_of x b (at_ left (step x m)) d e in rw (← same.1, same.0) refl

zeros_left : (i : ℕ) (left rest : List Bool) → left ≡ false ∷ rest → replicate i false ++ left ≡ replicate (i + 1) false ++ rest
zeros_left zero left rest e = e
zeros_left (suc i) left rest e = let k : suc i + 1 ≡ suc (i + 1) = omega arith in rw k (ap (λ bs. false ∷ bs) (zeros_left i left rest e))

-- a loop that read only zeros
pub record Zeros (i : ℕ) (old now : State) : Type 0 where
  pub held : old.held ≤ now.held + i
  pub zeros : old.known ≡ true → old.cursor.left ≡ replicate i false ++ now.cursor.left

pub zeros_none : (old : State) → Zeros 0 old old
zeros_none old = record { held = omega arith; zeros = λ _. refl }

pub zeros_more : (i : ℕ) (b : Bool) (old now next : State) → (old.known ≡ true → now.known ≡ true) → Zeros i old now → b ≡ false → now.held ≤ next.held + 1 → (now.known ≡ true → next_bit now.cursor ≡ Ok (b, next.cursor)) → Zeros (i + 1) old next
zeros_more i b old now next known z is held reads = record {
  held = omega (arith, z.held, held);
  zeros = λ k. z.zeros k ∙ zeros_left i now.cursor.left next.cursor.left (bit_left now.cursor.left now.cursor.mark b next.cursor (reads (known k)) ∙ ap (λ x. x ∷ next.cursor.left) is);
}

both_zeros : (n m : ℕ) → replicate n false ++ replicate m false ≡ replicate (n + m) false
both_zeros zero m = let e : 0 + m ≡ m = omega arith in rw e refl
both_zeros (suc n) m = let e : suc n + m ≡ suc (n + m) = omega arith in rw e (ap (λ bs. false ∷ bs) (both_zeros n m))

pub zeros_past : (i q : ℕ) (old now next : State) → Zeros i old now → SkippedZeros q now next → Zeros (i + q) old next
zeros_past i q old now next z skipped = record {
  held = omega (arith, z.held, skipped.0);
  zeros = λ k. z.zeros k ∙ ap (λ bs. replicate i false ++ bs) skipped.3
      ∙ sym (append_assoc (replicate i false) (replicate q false) next.cursor.left) ∙ ap (λ bs. bs ++ next.cursor.left) (both_zeros i q);
}

-- the next bit is not held
pub zeros_end : (i limit : ℕ) (old now : State) (e : Why) → i ≤ limit → Zeros i old now → (e ≡ Read → now.held < 1) → e ≡ Read → old.known ≡ true → HeldEnds (unary limit) old
zeros_end i limit old now e le z none = λ read known.
    let few : old.held ≤ i = omega (arith, z.held, none read) in
    let part : take old.held old.cursor.left ≡ replicate old.held false =
    ap (take old.held) (z.zeros known) ∙ take-append-le old.held (replicate i false) now.cursor.left (omega (arith, few, length-replicate i false)) ∙ take_zeros old.held i few in
    (old.held, omega (arith, few, le), part)
  where
    take_zeros : (n i : ℕ) → n ≤ i → take n (replicate i false) ≡ replicate n false
    take_zeros zero i le = refl
    take_zeros (suc n) zero le = absurd (omega (arith, le))
    take_zeros (suc n) (suc i) le = ap (λ bs. false ∷ bs) (take_zeros n i (omega (arith, le)))

-- the last bit was read
pub zeros_held : (i : ℕ) (b : Bool) (old now new : State) → (old.known ≡ true → now.known ≡ true) → Zeros i old now → now.held ≤ new.held + 1 → (now.known ≡ true → next_bit now.cursor ≡ Ok (b, new.cursor))
    → old.known ≡ true → old.held + length new.cursor.left ≤ new.held + length old.cursor.left
zeros_held i b old now new known z held reads k =
    omega (arith, z.held, held, ap (λ (bs : List Bool). length bs) (z.zeros k), length-append (replicate i false) now.cursor.left, length-replicate i false, ap (λ (bs : List Bool). length bs) (bit_left now.cursor.left now.cursor.mark b new.cursor (reads (known k))))

-- ---- lists

pub draws_none : (old : State) (P : Type 0) → Draws old old P P
draws_none old P = record { held = λ _. omega arith; ends = λ _ s. s }

pub draws_then : {P Q R : Type 0} (old mid new : State) → (old.known ≡ true → mid.known ≡ true) → Draws old mid Q R → Draws mid new P Q → Draws old new P R
draws_then old mid new known a b = record {
  held = λ k. omega (arith, a.held k, b.held (known k));
  ends = λ k p. a.ends k (b.ends (known k) p);
}

pub list_none : {A : Type 0} (n : ℕ) (l : Layout A) (old : State) → Draws old old (HeldEnds (list_of (n - 0) l) old) (HeldEnds (list_of n l) old)
list_none n l old = let e : n - 0 ≡ n = omega arith in record { held = λ _. omega arith; ends = λ _ s. subst (λ k. HeldEnds (list_of k l) old) e s }

next_ends : {A : Type 0} (n i : ℕ) (l : Layout A) (x : A) (now next : State) → i < n → run l now.cursor ≡ Ok (x, next.cursor) → now.held + length next.cursor.left ≤ next.held + length now.cursor.left
    → HeldEnds (list_of (n - (i + 1)) l) next → HeldEnds (list_of (n - i) l) now
unfolding list_of
next_ends {A = A} n i l x now next lt ran held s =
    let e : suc (n - (i + 1)) ≡ n - i = omega (arith, lt) in
    let rest : A → Layout (List A) = λ y. bind (list_of (n - (i + 1)) l) (λ ys. done (y ∷ ys)) in
    subst (λ k. HeldEnds (list_of k l) now) e (then_ends l rest x now.cursor next.cursor now.held next.held ran held (inl s))

first_ends : {A : Type 0} (n i : ℕ) (l : Layout A) (now : State) → i < n → HeldEnds l now → HeldEnds (list_of (n - i) l) now
unfolding list_of
first_ends n i l now lt s = let e : suc (n - (i + 1)) ≡ n - i = omega (arith, lt) in subst (λ k. HeldEnds (list_of k l) now) e (inl s)

-- one more was read
pub list_drawn : {A : Type 0} (n i : ℕ) (l : Layout A) (x : A) (old now next : State) → i < n → (old.known ≡ true → now.known ≡ true) → Draws old now (HeldEnds (list_of (n - i) l) now) (HeldEnds (list_of n l) old)
    → (now.known ≡ true → run l now.cursor ≡ Ok (x, next.cursor)) → (now.known ≡ true → now.held + length next.cursor.left ≤ next.held + length now.cursor.left)
    → Draws old next (HeldEnds (list_of (n - (i + 1)) l) next) (HeldEnds (list_of n l) old)
list_drawn n i l x old now next lt known d ran held = record {
  held = λ k. omega (arith, d.held k, held (known k));
  ends = λ k s. d.ends k (next_ends n i l x now next lt (ran (known k)) (held (known k)) s);
}

-- the next cannot be
pub list_ends : {A : Type 0} (n i : ℕ) (l : Layout A) (old now : State) (e : Why) → i < n → (old.known ≡ true → now.known ≡ true) → Draws old now (HeldEnds (list_of (n - i) l) now) (HeldEnds (list_of n l) old)
    → (e ≡ Read → now.known ≡ true → HeldEnds l now) → e ≡ Read → old.known ≡ true → HeldEnds (list_of n l) old
list_ends n i l old now e lt known d ends = λ read k. d.ends k (first_ends n i l now lt (ends read (known k)))

-- ---- the parts of a Rice code

pub rice_ends : (k limit q : ℕ) (o : Option ℕ) (old mid : State) → o ≡ Some q → run (unary limit) old.cursor ≡ Ok (o, mid.cursor) → old.held + length mid.cursor.left ≤ mid.held + length old.cursor.left → mid.held < k → HeldEnds (rice k limit) old
unfolding rice
rice_ends k limit q o old mid is ran held few =
    let rest : Option ℕ → Layout ℕ = λ zeros. bind (within zeros) (λ quotient. bind (bits k) (λ low. done (quotient * 2 ^ k + low))) in
    let here : IsCut (rest o) mid.cursor.mark (take mid.held mid.cursor.left) = rw is (inr (q, [], take mid.held mid.cursor.left, refl, (refl, refl), inl (bits_inside k mid few))) in
    then_ends (unary limit) rest o old.cursor mid.cursor old.held mid.held ran held here

pub rice_first : (k limit : ℕ) (old : State) → HeldEnds (unary limit) old → HeldEnds (rice k limit) old
unfolding rice
rice_first k limit old s = inl s

pub value_first : (k : ℕ) (old : State) → HeldEnds (rice k ((2 ^ 32 - 2) / 2 ^ k)) old → HeldEnds (rice_value k) old
unfolding rice_value
value_first k old s = inl s

-- ---- coded numbers

continued_next : (n i value byte : ℕ) (now next : State) → i < n → byte / 64 ≡ 2 → number_at 8 now.cursor ≡ Ok (byte, next.cursor) → now.held + length next.cursor.left ≤ next.held + length now.cursor.left
    → HeldEnds (continued (n - (i + 1)) (64 * value + byte % 64)) next → HeldEnds (continued (n - i) value) now
unfolding continued
continued_next n i value byte now next lt two ran held s =
    let e : suc (n - (i + 1)) ≡ n - i = omega (arith, lt) in
    let rest : ℕ → Layout ℕ = λ b. choose (nat_eq (b / 64) 2) (continued (n - (i + 1)) (64 * value + b % 64)) (refuse BadNumber) in
    let here : IsCut (rest byte) next.cursor.mark (take next.held next.cursor.left) = rw two s in
    subst (λ k. HeldEnds (continued k value) now) e (then_ends (bits 8) rest byte now.cursor next.cursor now.held next.held ran held here)

pub continued_none : (n value : ℕ) (old : State) → Draws old old (HeldEnds (continued (n - 0) value) old) (HeldEnds (continued n value) old)
continued_none n value old = let e : n - 0 ≡ n = omega arith in record { held = λ _. omega arith; ends = λ _ s. subst (λ k. HeldEnds (continued k value) old) e s }

pub continued_drawn : (n i value byte high : ℕ) (old now next : State) → i < n → byte / 64 ≡ 2 → (old.known ≡ true → now.known ≡ true) → Draws old now (HeldEnds (continued (n - i) value) now) (HeldEnds (continued n high) old)
    → (now.known ≡ true → number_at 8 now.cursor ≡ Ok (byte, next.cursor)) → now.held ≤ next.held + 8
    → Draws old next (HeldEnds (continued (n - (i + 1)) (64 * value + byte % 64)) next) (HeldEnds (continued n high) old)
continued_drawn n i value byte high old now next lt two known d ran held = record {
  held = λ k. omega (arith, d.held k, bits_held 8 byte now next held ran (known k));
  ends = λ k s. d.ends k (continued_next n i value byte now next lt two (ran (known k)) (bits_held 8 byte now next held ran (known k)) s);
}

pub continued_ends : (n i value high : ℕ) (old now : State) (e : Why) → i < n → (old.known ≡ true → now.known ≡ true) → Draws old now (HeldEnds (continued (n - i) value) now) (HeldEnds (continued n high) old)
    → (e ≡ Read → now.held < 8) → e ≡ Read → old.known ≡ true → HeldEnds (continued n high) old
unfolding continued
continued_ends n i value high old now e lt known d few = λ read k.
    let is : suc (n - (i + 1)) ≡ n - i = omega (arith, lt) in
    d.ends k (subst (λ j. HeldEnds (continued j value) now) is (inl (bits_inside 8 now (few read))))

pub number_first : (max_bits : ℕ) (old : State) → old.held < 8 → HeldEnds (number max_bits) old
unfolding number
number_first max_bits old few = inl (bits_inside 8 old few)

pub number_ends : (max_bits lead : ℕ) (form : ℕ × ℕ × ℕ) (old mid : State) → nat_lt lead 128 ≡ false → lead_form max_bits lead ≡ Some form → number_at 8 old.cursor ≡ Ok (lead, mid.cursor)
    → old.held + length mid.cursor.left ≤ mid.held + length old.cursor.left → HeldEnds (continued form.0 form.1) mid → HeldEnds (number max_bits) old
unfolding number
number_ends max_bits lead form old mid large is ran held s =
    let more : ℕ × ℕ × ℕ → Layout ℕ = λ f. bind (continued f.0 f.1) (λ value. choose (nat_lt value f.2) (refuse BadNumber) (done value)) in
    let rest : ℕ → Layout ℕ = λ b. choose (nat_lt b 128) (done b) (bind (some_or_bad (lead_form max_bits b)) more) in
    let here : IsCut (rest lead) mid.cursor.mark (take mid.held mid.cursor.left) = rw (large, is) (inr (form, [], take mid.held mid.cursor.left, refl, (refl, refl), inl s)) in
    then_ends (bits 8) rest lead old.cursor mid.cursor old.held mid.held ran held here
