-- Contents that are too short, and rules between fields.
use Rattle.std.proofs.Common.{◌≡◌, ℕ, ◌-◌, ◌*◌, ◌<◌, ◌≤◌, Bool, true, false, not, nat_lt, List, [], ◌∷◌, Result, Ok, Err, refl, sym, ap, ◌∙◌, arith}
use Rattle.std.proofs.lemmas.Bool.Decides.{nat_tests}
use Rattle.std.specs.Prelude.{⊤}
use Rattle.flac_bits.specs.State.{State, Cursor}
use Rattle.flac_bits.specs.Layout.{Layout, Rule, Reason, run, bind, choose, and_then, because, unless_broken}
use Rattle.flac_bits.specs.declared.why.Why.{Why}
use Rattle.flac_bits.specs.declared.why.Why.TheVariants.{BlockLength, CueSheet}
use Rattle.flac_bits.specs.Reading.{Counts, Answers, Gives}
use Rattle.flac_bits.proofs.Counting.{Answered, answered_then, failed_then}
use Rattle.flac_bits.proofs.Telling.{Told}
use Rattle.flac_meta.specs.Padding.{skipped}
use Rattle.flac_meta.specs.Fields.{ends_short, part, sized, zeros, reserved}
use Rattle.flac_meta.specs.inner.Counted.{counted}
use Rattle.flac_meta.proofs.Tied.{less_not}

pub is_less : (a b : ℕ) → a < b → nat_lt a b ≡ true
is_less a b h = grind (arith, nat_tests)

abbrev reason_in : {A : Type 0} → Result A Reason → Reason
reason_in (Ok x) = because BlockLength
reason_in (Err r) = r

abbrev failed : {A : Type 0} → Reason → Result (A × Cursor) Reason
failed r = Err r

-- the same reason, whatever was to be read
ends : {A Y : Type 0} (r : Result (A × Cursor) Reason) (e : Why) → and_then r (λ _ d. failed {A = ⊤} (because BlockLength)) ≡ failed {A = ⊤} (because e) → and_then r (λ _ d. failed {A = Y} (because BlockLength)) ≡ failed {A = Y} (because e)
ends (Ok x) e h = ap failed (ap reason_in h)
ends (Err r) e h = ap failed (ap reason_in h)

-- fields for which too few bytes are left
pub part_short : {Y : Type 0} {e : Why} (size left : ℕ) (fields : Layout Y) (old new : State) → left < size
    → Told (run (ends_short {A = ⊤} left) old.cursor) (Err (because e)) old new → Told (run (part size left fields) old.cursor) (Err (because e)) old new
part_short {e = e} size left fields old new lt r = λ known same. rw (is_less left size lt) (ends (run (skipped (8 * left)) old.cursor) e (r known same))

-- and those for which there are enough
part_long : {Y : Type 0} (size left : ℕ) (fields : Layout Y) (c : Cursor) → size ≤ left → run (part size left fields) c ≡ run fields c
part_long size left fields c le = rw (less_not left size le) refl

pub told_part : {Y : Type 0} {answer : Result (Y × Cursor) Reason} (size left : ℕ) (fields : Layout Y) (old new : State) → size ≤ left
    → Told (run fields old.cursor) answer old new → Told (run (part size left fields) old.cursor) answer old new
told_part size left fields old new le t = λ known same. part_long size left fields old.cursor le ∙ t known same

-- a rule between two fields
pub told_kept : {Y : Type 0} {answer : Result (Y × Cursor) Reason} (broken : Bool) (why : Why) (old new : State) (d : Cursor) (more : ⊤ → Cursor → Result (Y × Cursor) Reason) → broken ≡ false
    → Told (more tt d) answer old new → Told (and_then (unless_broken (record { broken = broken; why = why } ∷ []) (Ok (tt, d))) more) answer old new
told_kept broken why old new d more is t = λ known same. rw is (t known same)

-- two rules
pub told_kept_both : {Y : Type 0} {answer : Result (Y × Cursor) Reason} (broken : Bool) (why : Why) (broken' : Bool) (why' : Why) (old new : State) (d : Cursor) (more : ⊤ → Cursor → Result (Y × Cursor) Reason)
    → broken ≡ false → broken' ≡ false → Told (more tt d) answer old new
    → Told (and_then (unless_broken (record { broken = broken; why = why } ∷ record { broken = broken'; why = why' } ∷ []) (Ok (tt, d))) more) answer old new
told_kept_both broken why broken' why' old new d more is is' t = λ known same. rw (is, is') (t known same)

pub told_broken : {Y : Type 0} (broken : Bool) (why : Why) (old new : State) (d : Cursor) (more : ⊤ → Cursor → Result (Y × Cursor) Reason) → broken ≡ true
    → Told (and_then (unless_broken (record { broken = broken; why = why } ∷ []) (Ok (tt, d))) more) (Err (because why)) old new
told_broken broken why old new d more is = λ known same. rw is refl

-- and of more rules the first or the second
pub told_first : {Y : Type 0} (broken : Bool) (why : Why) (rules : List Rule) (old new : State) (d : Cursor) (more : ⊤ → Cursor → Result (Y × Cursor) Reason) → broken ≡ true
    → Told (and_then (unless_broken (record { broken = broken; why = why } ∷ rules) (Ok (tt, d))) more) (Err (because why)) old new
told_first broken why rules old new d more is = λ known same. rw is refl

pub told_second : {Y : Type 0} (broken : Bool) (why : Why) (broken' : Bool) (why' : Why) (old new : State) (d : Cursor) (more : ⊤ → Cursor → Result (Y × Cursor) Reason)
    → broken ≡ false → broken' ≡ true
    → Told (and_then (unless_broken (record { broken = broken; why = why } ∷ record { broken = broken'; why = why' } ∷ []) (Ok (tt, d))) more) (Err (because why')) old new
told_second broken why broken' why' old new d more is is' = λ known same. rw (is, is') refl

-- reserved bits
abbrev clear_then : Bool → Cursor → Result (⊤ × Cursor) Reason
clear_then clear d = unless_broken (record { broken = not clear; why = CueSheet } ∷ []) (Ok (tt, d))

pub told_clear : (n : ℕ) (old new : State) (clear : Bool) → clear ≡ true → Told (run (zeros n) old.cursor) (Ok (clear, new.cursor)) old new → Told (run (reserved n) old.cursor) (Ok (tt, new.cursor)) old new
unfolding reserved
told_clear n old new clear is t = λ known same. ap (λ p. and_then p clear_then) (t known same) ∙ rw is refl

pub told_unclear : (n : ℕ) (old new : State) (clear : Bool) → clear ≡ false → Told (run (zeros n) old.cursor) (Ok (clear, new.cursor)) old new → Told (run (reserved n) old.cursor) (Err (because CueSheet)) old new
unfolding reserved
told_unclear n old new clear is t = λ known same. ap (λ p. and_then p clear_then) (t known same) ∙ rw is refl

pub told_reserved : {e : Why} (n : ℕ) (old new : State) → Told (run (zeros n) old.cursor) (Err (because e)) old new → Told (run (reserved n) old.cursor) (Err (because e)) old new
unfolding reserved
told_reserved n old new t = λ known same. ap (λ p. and_then p clear_then) (t known same)

-- ---- a call whose result is returned as it is

pub counts_then : {X : Type 0} (old mid new : State) (result : Result X Why) → Answered old mid → Counts mid new result → Counts old new result
counts_then old mid new (Ok x) a b = answered_then old mid new a b
counts_then old mid new (Err e) a b = failed_then old mid new a b

pub answers_same : {X Y : Type 0} {read read' : Result (Y × Cursor) Reason} (view : X → Y) (place : Cursor) (result : Result X Why) → read ≡ read' → Answers view read' place result → Answers view read place result
answers_same view place (Ok x) is h = is ∙ h
answers_same view place (Err e) is h = is ∙ h

pub gives_then : {A X Y : Type 0} {part : Result (A × Cursor) Reason} {x : A} {d : Cursor} (view : X → Y) (old mid new : State) (result : Result X Why) (more : A → Cursor → Result (Y × Cursor) Reason)
    → Answered old mid → (old.known ≡ true → mid.errors ≡ old.errors → part ≡ Ok (x, d)) → Gives view (more x d) mid new result → Gives view (and_then part more) old new result
gives_then view old mid new result more a r q = λ known same. answers_same view new.cursor result (ap (λ p. and_then p more) (r known a.1)) (q (a.0 known) (same ∙ sym a.1))

pub gives_kept : {X Y : Type 0} (view : X → Y) (broken : Bool) (why : Why) (old new : State) (result : Result X Why) (d : Cursor) (more : ⊤ → Cursor → Result (Y × Cursor) Reason) → broken ≡ false
    → Gives view (more tt d) old new result → Gives view (and_then (unless_broken (record { broken = broken; why = why } ∷ []) (Ok (tt, d))) more) old new result
gives_kept view broken why old new result d more is q = λ known same. answers_same view new.cursor result (rw is refl) (q known same)

pub gives_part : {X Y : Type 0} (view : X → Y) (size left : ℕ) (fields : Layout Y) (old new : State) (result : Result X Why) → size ≤ left
    → Gives view (run fields old.cursor) old new result → Gives view (run (part size left fields) old.cursor) old new result
gives_part view size left fields old new result le q = λ known same. answers_same view new.cursor result (part_long size left fields old.cursor le) (q known same)

-- ---- bytes after their number

short_then : {A X Y : Type 0} (r : Result (X × Cursor) Reason) (more : A → Cursor → Result (Y × Cursor) Reason) → and_then r (λ _ d. failed {A = Y} (because BlockLength)) ≡ and_then (and_then r (λ _ d. failed {A = A} (because BlockLength))) more
short_then (Ok x) more = refl
short_then (Err e) more = refl

part_then : {A Y : Type 0} (short : Bool) (left : ℕ) (first : Layout A) (rest : A → Layout Y) (c : Cursor)
    → run (choose short (ends_short left) (bind first rest)) c ≡ and_then (run (choose short (ends_short left) first) c) (λ x d. run (rest x) d)
part_then true left first rest c = short_then (run (skipped (8 * left)) c) (λ x d. run (rest x) d)
part_then false left first rest c = refl

-- the number, and then the bytes
pub sized_parts : (number : Layout ℕ) (left : ℕ) (c : Cursor) → run (sized number left) c ≡ and_then (run (part 4 left number) c) (λ size d. run (counted size (left - 4)) d)
unfolding sized
sized_parts number left c = part_then (nat_lt left 4) left number (λ size. counted size (left - 4)) c
