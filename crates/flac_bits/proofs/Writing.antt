-- What was written, one piece after another.
use Rattle.std.proofs.Common.{◌≡◌, Bool, true, false, List, [], ◌∷◌, ◌++◌, Result, Ok, Err, refl, sym, ap, ◌∙◌, arith, append_assoc}
use Rattle.std.proofs.lemmas.List.{append-nil}
use Rattle.flac_bits.specs.Bits.{bits_of}
use Rattle.flac_bits.specs.Forms.{joined}
use Rattle.flac_bits.specs.State.{Mark, past}
use Rattle.flac_bits.specs.Written.{Written, Adds, Writes, Fails, begins}
use Rattle.flac_bits.specs.inner.Written.{Wrote, WritesParts, after_parts, past_parts}
use Rattle.flac_bits.specs.declared.why.Why.{Why}
use Rattle.flac_bits.proofs.Counting.{rises_then}
use Rattle.flac_bits.proofs.Readings.{past-append}

-- ---- beginnings

pub begins_itself : (front rest : List Bool) → begins front (front ++ rest) ≡ true
unfolding begins
begins_itself [] rest = refl
begins_itself (true ∷ front) rest = begins_itself front rest
begins_itself (false ∷ front) rest = begins_itself front rest

pub begins_more : (front whole more : List Bool) → begins front whole ≡ true → begins front (whole ++ more) ≡ true
unfolding begins
begins_more [] whole more e = refl
begins_more (b ∷ front) [] more e = absurd cc
begins_more (true ∷ front) (true ∷ whole) more e = begins_more front whole more e
begins_more (true ∷ front) (false ∷ whole) more e = absurd cc
begins_more (false ∷ front) (true ∷ whole) more e = absurd cc
begins_more (false ∷ front) (false ∷ whole) more e = begins_more front whole more e

-- a prefix is followed by some bits
pub begins_is : (front whole : List Bool) → begins front whole ≡ true → (rest : List Bool) × (whole ≡ front ++ rest)
unfolding begins
begins_is [] whole e = (whole, refl)
begins_is (b ∷ front) [] e = absurd cc
begins_is (true ∷ front) (true ∷ whole) e = let r = begins_is front whole e in (r.0, ap (λ bs. true ∷ bs) r.1)
begins_is (true ∷ front) (false ∷ whole) e = absurd cc
begins_is (false ∷ front) (true ∷ whole) e = absurd cc
begins_is (false ∷ front) (false ∷ whole) e = let r = begins_is front whole e in (r.0, ap (λ bs. false ∷ bs) r.1)

pub begins_at : (front whole rest : List Bool) → whole ≡ front ++ rest → begins front whole ≡ true
begins_at front whole rest e = ap (begins front) e ∙ begins_itself front rest

-- ---- one piece and then others

-- the target failed in a later call
pub fails_later : {bits : List Bool} {old mid new : Written} {e : Why} (bits' : List Bool) → (old.known ≡ true → mid.known ≡ true) → mid.errors ≡ old.errors → mid.names ≡ old.names
    → (more : List Bool) → (old.known ≡ true → bits' ≡ bits ++ more) → Fails bits mid new e → Fails bits' old new e
fails_later {bits = bits} {old = old} {mid = mid} {new = new} bits' known errors names more is f = record {
  reason = f.reason;
  kept = let le = f.kept in omega (arith, errors, le);
  names = f.names ∙ names;
  rises = λ k. let lt = f.rises (known k) in omega (arith, errors, lt);
  begun = λ k. ap (begins (bits_of new.sent)) (is k) ∙ begins_more (bits_of new.sent) bits more (f.begun (known k));
  risen = rises_then old.errors mid.errors new.errors errors f.risen;
}

pub fails_more : {bits : List Bool} {old new : Written} {e : Why} (more : List Bool) → Fails bits old new e → Fails (bits ++ more) old new e
fails_more {bits = bits} more f = fails_later (bits ++ more) (λ k. k) refl refl more (λ _. refl) f

-- a piece that was written, and what came of the next
pub adds_then : {a b : List Bool} {old mid new : Written} → Adds a old mid → Adds b mid new → Adds (a ++ b) old new
adds_then {a = a} {b = b} {old = old} p q = record {
  known = λ k. q.known (p.known k);
  errors = q.errors ∙ p.errors;
  names = q.names ∙ p.names;
  mark = q.mark ∙ ap (past b) p.mark ∙ sym (past-append a b old.mark);
  bits = λ k. q.bits (p.known k) ∙ ap (λ bits. bits ++ b) (p.bits k) ∙ append_assoc old.bits a b;
}

pub fails_then : {a : List Bool} {old mid new : Written} {e : Why} (b : List Bool) → Adds a old mid → Fails (mid.bits ++ b) mid new e → Fails (old.bits ++ (a ++ b)) old new e
fails_then {a = a} {old = old} {mid = mid} b p f =
    fails_later (old.bits ++ (a ++ b)) p.known p.errors p.names [] (λ k. sym (append_assoc old.bits a b) ∙ ap (λ bits. bits ++ b) (sym (p.bits k)) ∙ sym (append-nil (mid.bits ++ b))) f

pub writes_then : {X : Type 0} {a : List Bool} {old mid : Written} (b : List Bool) (new : Written) (result : Result X Why) → Adds a old mid → Writes b mid new result → Writes (a ++ b) old new result
writes_then b new (Ok x) p q = adds_then p q
writes_then b new (Err e) p q = fails_then b p q

-- a piece that was not written, of more bits
pub fails_first : {old new : Written} {e : Why} (a b : List Bool) → Fails (old.bits ++ a) old new e → Fails (old.bits ++ (a ++ b)) old new e
fails_first {old = old} a b f = fails_later (old.bits ++ (a ++ b)) (λ k. k) refl refl b (λ _. sym (append_assoc old.bits a b)) f

-- ---- a loop

-- What was written so far and the bits that are still to be written are the bits written before and the whole.
pub record Towards (rest whole : List Bool) (old now : Written) : Type 0 where
  pub known : old.known ≡ true → now.known ≡ true
  pub errors : now.errors ≡ old.errors
  pub names : now.names ≡ old.names
  pub mark : past rest now.mark ≡ past whole old.mark
  pub bits : old.known ≡ true → now.bits ++ rest ≡ old.bits ++ whole

pub towards_start : (whole : List Bool) (w : Written) → Towards whole whole w w
towards_start whole w = record { known = λ k. k; errors = refl; names = refl; mark = refl; bits = λ _. refl }

pub towards_more : {rest' whole part : List Bool} {old now new : Written} (rest : List Bool) → rest' ≡ part ++ rest → Towards rest' whole old now → Adds part now new → Towards rest whole old new
towards_more {part = part} {old = old} {now = now} {new = new} rest is t a = record {
  known = λ k. a.known (t.known k);
  errors = a.errors ∙ t.errors;
  names = a.names ∙ t.names;
  mark = ap (past rest) a.mark ∙ sym (past-append part rest now.mark) ∙ ap (λ bs. past bs now.mark) (sym is) ∙ t.mark;
  bits = λ k. ap (λ bits. bits ++ rest) (a.bits (t.known k)) ∙ append_assoc now.bits part rest ∙ ap (λ bs. now.bits ++ bs) (sym is) ∙ t.bits k;
}

pub towards_end : {rest whole : List Bool} {old now : Written} → rest ≡ [] → Towards rest whole old now → Adds whole old now
towards_end {old = old} {now = now} is t = record {
  known = t.known;
  errors = t.errors;
  names = t.names;
  mark = ap (λ bs. past bs now.mark) (sym is) ∙ t.mark;
  bits = λ k. sym (append-nil now.bits) ∙ ap (λ bs. now.bits ++ bs) (sym is) ∙ t.bits k;
}

-- the last piece
pub towards_last : {X : Type 0} {rest whole : List Bool} {old now : Written} (new : Written) (result : Result X Why) → Towards rest whole old now → Writes rest now new result → Writes whole old new result
towards_last new (Ok x) t a = record { known = λ k. a.known (t.known k); errors = a.errors ∙ t.errors; names = a.names ∙ t.names; mark = a.mark ∙ t.mark; bits = λ k. a.bits (t.known k) ∙ t.bits k }
towards_last {rest = rest} {whole = whole} {old = old} {now = now} new (Err e) t f = fails_later (old.bits ++ whole) t.known t.errors t.names [] (λ k. sym (t.bits k) ∙ sym (append-nil (now.bits ++ rest))) f

pub towards_fail : {rest' whole : List Bool} {old now new : Written} {e : Why} (part rest : List Bool) → rest' ≡ part ++ rest → Towards rest' whole old now → Fails (now.bits ++ part) now new e → Fails (old.bits ++ whole) old new e
towards_fail {whole = whole} {old = old} {now = now} part rest is t f =
    fails_later (old.bits ++ whole) t.known t.errors t.names rest (λ k. sym (t.bits k) ∙ ap (λ bs. now.bits ++ bs) is ∙ sym (append_assoc now.bits part rest)) f

-- ---- a chain of calls

after_joined : (bits : List Bool) (parts : List (List Bool)) → after_parts bits parts ≡ bits ++ joined parts
after_joined bits [] = sym (append-nil bits)
after_joined bits (part ∷ parts) = after_joined (bits ++ part) parts ∙ append_assoc bits part (joined parts)

past_joined : (parts : List (List Bool)) (m : Mark) → past_parts parts m ≡ past (joined parts) m
past_joined [] m = refl
past_joined (part ∷ parts) m = past_joined parts (past part m) ∙ sym (past-append part (joined parts) m)

-- what is written part by part is written
pub parts_written : {X : Type 0} (parts : List (List Bool)) (old new : Written) (result : Result X Why) → WritesParts parts old new result → Writes (joined parts) old new result
parts_written parts old new (Ok x) w = record { known = w.known; errors = w.errors; names = w.names; mark = w.mark ∙ past_joined parts old.mark; bits = λ k. w.bits k ∙ after_joined old.bits parts }
parts_written parts old new (Err e) f =
    fails_later (old.bits ++ joined parts) (λ k. k) refl refl [] (λ _. sym (after_joined old.bits parts) ∙ sym (append-nil (after_parts old.bits parts))) f

pub wrote_none : (w : Written) → Wrote [] w w
wrote_none w = record { known = λ known. known; errors = refl; names = refl; mark = refl; bits = λ known. refl }

after_more : (bits : List Bool) (parts : List (List Bool)) (part : List Bool) (more : List (List Bool)) → after_parts bits (parts ++ part ∷ more) ≡ after_parts (after_parts bits parts ++ part) more
after_more bits [] part more = refl
after_more bits (p ∷ parts) part more = after_more (bits ++ p) parts part more

past_more : (m : Mark) (parts : List (List Bool)) (part : List Bool) → past_parts (parts ++ part ∷ []) m ≡ past part (past_parts parts m)
past_more m [] part = refl
past_more m (p ∷ parts) part = past_more (past p m) parts part

pub wrote_more : {parts : List (List Bool)} {last : List Bool} {old mid new : Written} → Wrote parts old mid → Adds last mid new → Wrote (parts ++ last ∷ []) old new
wrote_more {parts = parts} {last = last} {old = old} w a = record {
  known = λ k. a.known (w.known k);
  errors = a.errors ∙ w.errors;
  names = a.names ∙ w.names;
  mark = a.mark ∙ ap (past last) w.mark ∙ sym (past_more old.mark parts last);
  bits = λ k. a.bits (w.known k) ∙ ap (λ b. b ++ last) (w.bits k) ∙ sym (after_more old.bits parts last []);
}

-- the part that was not written, before others
pub wrote_fails : {parts : List (List Bool)} {old mid new : Written} {e : Why} (last : List Bool) (more : List (List Bool)) → Wrote parts old mid → Fails (mid.bits ++ last) mid new e
    → Fails (after_parts old.bits (parts ++ last ∷ more)) old new e
wrote_fails {parts = parts} {old = old} {mid = mid} last more w f =
    fails_later (after_parts old.bits (parts ++ last ∷ more)) w.known w.errors w.names (joined more)
    (λ k. after_more old.bits parts last more ∙ ap (λ b. after_parts (b ++ last) more) (sym (w.bits k)) ∙ after_joined (mid.bits ++ last) more) f
