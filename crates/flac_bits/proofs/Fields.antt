-- Fields that are held.
use Rattle.std.proofs.Common.{◌≡◌, ℕ, zero, suc, ◌+◌, ◌-◌, ◌*◌, ◌^◌, ◌<◌, ◌≤◌, Bool, false, nat_eq, List, [], ◌∷◌, ◌++◌, length, replicate, Some, Ok, Err, refl, sym, ap, ◌∙◌, arith, append_assoc}
use Rattle.std.proofs.lemmas.List.{length-append}
use Rattle.flac_bits.specs.Bits.{unsigned, bits_of}
use Rattle.flac_bits.specs.State.{Mark, Cursor, step, past, with_short}
use Rattle.flac_bits.specs.declared.why.Why.{Why}
use Rattle.flac_bits.specs.Store.{Store}
use Rattle.flac_bits.specs.inner.Store.{Takes}
use Rattle.flac_bits.specs.Meaning.{unary_bits}
use Rattle.flac_bits.specs.Layout.{next_bit, number_at, zeros_at, zeros_from, run}
use Rattle.flac_bits.specs.Rice.{rice}
use Rattle.flac_bits.proofs.Readings.{at_, number_again, zeros_again, past-append}

-- the state of a store and the bits after it
abbrev pub cursor_of : Why → Store → List Bool → Cursor
cursor_of why s rest = record { left = (s.word ++ bits_of s.bytes) ++ rest; mark = with_short why s.mark }

-- the reason if bits run short does not depend on the bits
pub past-with_short : (bs : List Bool) (why : Why) (m : Mark) → past bs (with_short why m) ≡ with_short why (past bs m)
past-with_short [] why m = refl
past-with_short (b ∷ bs) why m = past-with_short bs why (step b m)

pub left_is : (text : List Bool) (old new : Store) (rest : List Bool) → Takes text old new → (old.word ++ bits_of old.bytes) ++ rest ≡ text ++ ((new.word ++ bits_of new.bytes) ++ rest)
left_is text old new rest takes =
    rw (takes.0, ← takes.1) (ap (λ bs. bs ++ rest) (append_assoc text new.word (bits_of new.bytes)) ∙ append_assoc text (new.word ++ bits_of new.bytes) rest)

pub taken_read : (n v : ℕ) (why : Why) (old new : Store) (rest : List Bool) → v < 2 ^ n → Takes (unsigned n v) old new → number_at n (cursor_of why old rest) ≡ Ok (v, cursor_of why new rest)
taken_read n v why old new rest lt takes = rw (left_is (unsigned n v) old new rest takes, takes.2, ← past-with_short (unsigned n v) why old.mark) (number_again n v ((new.word ++ bits_of new.bytes) ++ rest) (with_short why old.mark) lt)

pub taken_spends : (text : List Bool) (old new : Store) → Takes text old new → length (old.word ++ bits_of old.bytes) ≡ length text + length (new.word ++ bits_of new.bytes)
taken_spends text old new takes =
    rw (takes.0, ← takes.1) (ap (λ (bs : List Bool). length bs) (append_assoc text new.word (bits_of new.bytes)) ∙ length-append text (new.word ++ bits_of new.bytes))

pub unary_read : (limit q : ℕ) (why : Why) (old new : Store) (rest : List Bool) → q ≤ limit → Takes (unary_bits q) old new → zeros_at limit (cursor_of why old rest) ≡ Ok (Some q, cursor_of why new rest)
unary_read limit q why old new rest le takes =
    rw (left_is (unary_bits q) old new rest takes, takes.2, ← past-with_short (unary_bits q) why old.mark) (zeros_again limit (Some q) (unary_bits q ++ ((new.word ++ bits_of new.bytes) ++ rest)) ((new.word ++ bits_of new.bytes) ++ rest) (with_short why old.mark) (le, refl))

-- zeros that are passed over
zeros_skip : (q room count : ℕ) (left : List Bool) (m : Mark) → q ≤ room
    → zeros_from room count (at_ (replicate q false ++ left) m) ≡ zeros_from (room - q) (count + q) (at_ left (past (replicate q false) m))
unfolding zeros_from next_bit
zeros_skip zero room count left m le = let e : room - 0 ≡ room = omega arith in let k : count + 0 ≡ count = omega arith in rw (e, k) refl
zeros_skip (suc q) zero count left m le = absurd (omega (arith, le))
zeros_skip (suc q) (suc room) count left m le =
    let e : suc room - suc q ≡ room - q = omega arith in
    let k : count + suc q ≡ count + 1 + q = omega arith in
    rw (e, k) (zeros_skip q room (count + 1) left (step false m) (omega (arith, le)))

pub skip_read : (q room count : ℕ) (why : Why) (old new : Store) (rest : List Bool) → q ≤ room → Takes (replicate q false) old new
    → zeros_from room count (cursor_of why old rest) ≡ zeros_from (room - q) (count + q) (cursor_of why new rest)
skip_read q room count why old new rest le takes =
    rw (left_is (replicate q false) old new rest takes, takes.2, ← past-with_short (replicate q false) why old.mark)
    (zeros_skip q room count ((new.word ++ bits_of new.bytes) ++ rest) (with_short why old.mark) le)

-- one bit
bit_of : (v : ℕ) → v < 2 ^ 1 → unsigned 1 v ≡ nat_eq v 1 ∷ []
bit_of zero lt = refl
bit_of (suc zero) lt = refl
bit_of (suc (suc v)) lt = absurd (omega (arith, lt))

pub bit_read : (v : ℕ) (at : Cursor) (why why' : Why) (held old new : Store) (rest more : List Bool) → why' ≡ why → v < 2 ^ 1 → cursor_of why held more ≡ at → old.mark ≡ held.mark
    → (old.word ++ bits_of old.bytes) ++ rest ≡ (held.word ++ bits_of held.bytes) ++ more → Takes (unsigned 1 v) old new → next_bit at ≡ Ok (nat_eq v 1, cursor_of why' new rest)
unfolding next_bit
bit_read v at why why' held old new rest more same lt is mark left takes =
    let whole : (held.word ++ bits_of held.bytes) ++ more ≡ nat_eq v 1 ∷ ((new.word ++ bits_of new.bytes) ++ rest) =
    sym left ∙ left_is (unsigned 1 v) old new rest takes ∙ ap (λ bs. bs ++ ((new.word ++ bits_of new.bytes) ++ rest)) (bit_of v lt) in
    let marked : new.mark ≡ past (nat_eq v 1 ∷ []) held.mark = takes.2 ∙ ap (λ bs. past bs old.mark) (bit_of v lt) ∙ ap (λ m. past (nat_eq v 1 ∷ []) m) mark in
    rw (← is, whole, marked, same) refl

pub bit_none : (at : Cursor) (why : Why) (held : Store) (more : List Bool) → cursor_of why held more ≡ at → (held.word ++ bits_of held.bytes) ++ more ≡ [] → next_bit at ≡ Err (record { why = why })
unfolding next_bit
bit_none at why held more is none = rw (← is, none) refl

pub rice_read : (k limit q low v : ℕ) (why : Why) (old new : Store) (rest : List Bool) → q ≤ limit → low < 2 ^ k → v ≡ q * 2 ^ k + low → Takes (unary_bits q ++ unsigned k low) old new
    → run (rice k limit) (cursor_of why old rest) ≡ Ok (v, cursor_of why new rest)
unfolding rice
rice_read k limit q low v why old new rest le lt e takes =
    let after = (new.word ++ bits_of new.bytes) ++ rest in
    let left = left_is (unary_bits q ++ unsigned k low) old new rest takes ∙ append_assoc (unary_bits q) (unsigned k low) after in
    let marked : with_short why new.mark ≡ past (unsigned k low) (past (unary_bits q) (with_short why old.mark)) =
    ap (with_short why) takes.2 ∙ sym (past-with_short (unary_bits q ++ unsigned k low) why old.mark) ∙ past-append (unary_bits q) (unsigned k low) (with_short why old.mark) in
    rw (left, zeros_again limit (Some q) (unary_bits q ++ (unsigned k low ++ after)) (unsigned k low ++ after) (with_short why old.mark) (le, refl), number_again k low after (past (unary_bits q) (with_short why old.mark)) lt, marked, e) refl
