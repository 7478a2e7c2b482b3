-- What a target was sent while it was borrowed.
use Rattle.std.proofs.Common.{inl, inr, ◌≡◌, ◌∙◌, refl, sym, ap, subst, ℕ, arith, nat_eq, Bool, true, false, cond, ◌&&◌, List, [], ◌∷◌, ◌++◌, drop, length, take, Result, Ok, Err, OnOk, IfOk}
use Rattle.std.proofs.lemmas.Bool.{cases_Bool, and_parts, and_from, eqb-true, eq-eqb}
use Rattle.flac_bits.specs.Bits.{bits_of}
use Rattle.flac_bits.specs.Written.{Written, begins}
use Rattle.flac_bits.specs.declared.why.Why.{Why}
use Rattle.flac_bits.specs.declared.why.Why.TheVariants.{Truncated}
use Rattle.flac_bits.specs.declared.target.Target as target
use Rattle.flac_bits.proofs.Holding.{bits_of-append}
use Rattle.flac_bits.proofs.Writing.{begins_is}
use Rattle.flac_native.specs.inner.Borrowed.{has_still, sent_since, named}
use Rattle.flac_native.specs.inner.Writing.{WritesAll}
use Rattle.flac_native.specs.Sent.{SendsBits}

-- ---- what was sent before is still there

eq_self : (n : ℕ) → nat_eq n n ≡ true
eq_self n = eq-eqb n n refl

pub still_self : (before : List ℕ) → has_still before before ≡ true
still_self [] = refl
still_self (b ∷ before) = ap (λ t. cond t (has_still before before) false) (eq_self b) ∙ still_self before

pub since_self : (before : List ℕ) → sent_since before before ≡ 1 ∷ []
since_self [] = refl
since_self (b ∷ before) = ap (λ t. cond t (sent_since before before) (0 ∷ [])) (eq_self b) ∙ since_self before

both : (t s : Bool) → cond t s false ≡ true → (t ≡ true) × (s ≡ true)
both true s e = (refl, e)
both false s e = absurd cc

pub still_more : (before now more : List ℕ) → has_still before now ≡ true → has_still before (now ++ more) ≡ true
still_more [] now more e = refl
still_more (b ∷ before) [] more e = absurd cc
still_more (b ∷ before) (c ∷ now) more e =
    let h = both (nat_eq b c) (has_still before now) e in ap (λ t. cond t (has_still before (now ++ more)) false) h.0 ∙ still_more before now more h.1

pub since_more : (before now more : List ℕ) → has_still before now ≡ true → sent_since before (now ++ more) ≡ sent_since before now ++ more
since_more [] now more e = refl
since_more (b ∷ before) [] more e = absurd cc
since_more (b ∷ before) (c ∷ now) more e =
    let h = both (nat_eq b c) (has_still before now) e in
    ap (λ t. cond t (sent_since before (now ++ more)) (0 ∷ [])) h.0 ∙ since_more before now more h.1 ∙ ap (λ t. cond t (sent_since before now) (0 ∷ []) ++ more) (sym h.0)

module _ {S E : Type 0} (g : target.Ghosts S) (before : List ℕ) (old new : S) (bytes : List ℕ) where
  -- it is known what is sent to a target that is borrowed
  pub known_more : (r : Result ℕ E) → OnOk r (g.known old ≡ true → g.known new ≡ true) → IfOk r (λ n. g.known old ≡ true → g.sent new ≡ g.sent old ++ take n bytes)
      → OnOk r ((g.known old && has_still before (g.sent old)) ≡ true → (g.known new && has_still before (g.sent new)) ≡ true)
  known_more (Err e) known sent = tt
  known_more (Ok n) known sent = λ k.
      let h = and_parts (g.known old) _ k in
      and_from (g.known new) _ (known h.0) (ap (has_still before) (sent h.0) ∙ still_more before (g.sent old) (take n bytes) h.1)

  pub sent_more : (r : Result ℕ E) → IfOk r (λ n. g.known old ≡ true → g.sent new ≡ g.sent old ++ take n bytes)
      → IfOk r (λ n. (g.known old && has_still before (g.sent old)) ≡ true → sent_since before (g.sent new) ≡ sent_since before (g.sent old) ++ take n bytes)
  sent_more (Err e) sent = tt
  sent_more (Ok n) sent = λ k.
      let h = and_parts (g.known old) _ k in
      ap (sent_since before) (sent h.0) ∙ since_more before (g.sent old) (take n bytes) h.1

-- ---- what was sent since

one_more : (b c : ℕ) (before now rest : List ℕ) → nat_eq b c ≡ true → now ≡ before ++ rest → c ∷ now ≡ b ∷ before ++ rest
one_more b c before now rest t e = ap (λ x. x ∷ now) (sym (eqb-true b c t)) ∙ ap (λ l. b ∷ l) e

-- a beginning of these bits
pub since_begins : (before now : List ℕ) (text : List Bool) → begins (bits_of (sent_since before now)) (bits_of (1 ∷ []) ++ text) ≡ true → (rest : List ℕ) × (now ≡ before ++ rest) × (begins (bits_of rest) text ≡ true)
unfolding begins
since_begins [] now text e = (now, refl, e)
since_begins (b ∷ before) [] text e = absurd cc
since_begins (b ∷ before) (c ∷ now) text e =
    elim (cases_Bool (nat_eq b c)) [
      | inl t ↦
          let h = since_begins before now text (subst (λ z. begins (bits_of (cond z (sent_since before now) (0 ∷ []))) (bits_of (1 ∷ []) ++ text) ≡ true) t e) in
          (h.0, one_more b c before now h.0 t h.1, h.2)
      | inr f ↦ let k = subst (λ z. begins (bits_of (cond z (sent_since before now) (0 ∷ []))) (bits_of (1 ∷ []) ++ text) ≡ true) f e in absurd cc
    ]

-- just these bits
pub since_is : (before now : List ℕ) (text : List Bool) → bits_of (sent_since before now) ≡ bits_of (1 ∷ []) ++ text → (rest : List ℕ) × (now ≡ before ++ rest) × (bits_of rest ≡ text)
since_is [] now text e = (now, refl, ap (drop 8) e)
since_is (b ∷ before) [] text e = absurd cc
since_is (b ∷ before) (c ∷ now) text e =
    elim (cases_Bool (nat_eq b c)) [
      | inl t ↦
          let h = since_is before now text (subst (λ z. bits_of (cond z (sent_since before now) (0 ∷ [])) ≡ bits_of (1 ∷ []) ++ text) t e) in
          (h.0, one_more b c before now h.0 t h.1, h.2)
      | inr f ↦ let k = subst (λ z. bits_of (cond z (sent_since before now) (0 ∷ [])) ≡ bits_of (1 ∷ []) ++ text) f e in absurd cc
    ]

-- ---- the names

same_parts : (a b xs ys : List ℕ) → length a ≡ length b → a ++ xs ≡ b ++ ys → (a ≡ b) × (xs ≡ ys)
same_parts [] [] xs ys long e = (refl, e)
same_parts [] (y ∷ b) xs ys long e = absurd (omega (arith, long))
same_parts (x ∷ a) [] xs ys long e = absurd (omega (arith, long))
same_parts (x ∷ a) (y ∷ b) xs ys long e =
    let first : x ≡ y = cc in
    let h = same_parts a b xs ys (omega (arith, long)) cc in (ap (λ z. z ∷ a) first ∙ ap (λ l. y ∷ l) h.0, h.1)

-- the same reference, which had been sent the same, and the same names
pub same_named : (m n : ℕ) (a b xs ys : List ℕ) → m ∷ named a xs ≡ n ∷ named b ys → (m ≡ n) × ((a ≡ b) × (xs ≡ ys))
same_named m n a b xs ys e =
    let long : length a ≡ length b = cc in
    let rest : a ++ xs ≡ b ++ ys = cc in
    (cc, same_parts a b xs ys long rest)

-- ---- a writer over a target that is borrowed

module _ {S : Type 0} (g : target.Ghosts S) where
  -- it has written nothing yet
  pub record Lends (old : S) (name : ℕ) (w : Written) : Type 0 where
    pub known : w.known ≡ (g.known old && has_still (g.sent old) (g.sent old))
    pub errors : w.errors ≡ g.errors old
    pub names : w.names ≡ name ∷ named (g.sent old) (g.names old)
    pub bits : w.bits ≡ bits_of (sent_since (g.sent old) (g.sent old))
    pub unread : w.mark.unread ≡ 0

  pub lends_at : (old at began : S) (name : ℕ) (w : Written) → at ≡ old → began ≡ old
      → w ≡ record {
        known = g.known at && has_still (g.sent began) (g.sent at);
        errors = g.errors at;
        names = name ∷ named (g.sent began) (g.names at);
        sent = sent_since (g.sent began) (g.sent at);
        bits = bits_of (sent_since (g.sent began) (g.sent at));
        mark = record { unread = 0; bytes = 0; check8 = 0; check16 = 0; short = Truncated };
      } → Lends old name w
  lends_at old at began name w a b is = record {
    known = ap (λ (v : Written). v.known) is ∙ ap (λ x. g.known x && has_still (g.sent began) (g.sent x)) a ∙ ap (λ x. g.known old && has_still (g.sent x) (g.sent old)) b;
    errors = ap (λ (v : Written). v.errors) is ∙ ap g.errors a;
    names = ap (λ (v : Written). v.names) is ∙ ap (λ x. name ∷ named (g.sent began) (g.names x)) a ∙ ap (λ x. name ∷ named (g.sent x) (g.names old)) b;
    bits = ap (λ (v : Written). v.bits) is ∙ ap (λ x. bits_of (sent_since (g.sent began) (g.sent x))) a ∙ ap (λ x. bits_of (sent_since (g.sent x) (g.sent old))) b;
    unread = ap (λ (v : Written). v.mark.unread) is;
  }

  -- the target as the writer gives it back
  pub record Returns (began new : S) (name : ℕ) (w : Written) : Type 0 where
    pub known : (g.known new && has_still (g.sent began) (g.sent new)) ≡ w.known
    pub sent : sent_since (g.sent began) (g.sent new) ≡ w.sent
    pub errors : g.errors new ≡ w.errors
    pub names : name ∷ named (g.sent began) (g.names new) ≡ w.names

  -- the same reference is given back, to what had been sent the same
  pub same_lent : (old began new : S) (name again : ℕ) (first last : Written) → Lends old name first → Returns began new again last → last.names ≡ first.names
      → (again ≡ name) × ((g.sent began ≡ g.sent old) × (g.names new ≡ g.names old))
  same_lent old began new name again first last lends returns kept =
      same_named again name (g.sent began) (g.sent old) (g.names new) (g.names old) (returns.names ∙ kept ∙ lends.names)

  known_first : (old : S) (name : ℕ) (first : Written) → Lends old name first → g.known old ≡ true → first.known ≡ true
  known_first old name first lends k = lends.known ∙ and_from (g.known old) _ k (still_self (g.sent old))

  blank : (old : S) (name : ℕ) (first : Written) → Lends old name first → first.bits ≡ bits_of (1 ∷ [])
  blank old name first lends = lends.bits ∙ ap bits_of (since_self (g.sent old))

  -- what the writer wrote and sent was sent to the target
  pub lent_sends : {X : Type 0} (text : List Bool) (old began new : S) (name again : ℕ) (first last : Written) (r : Result X Why) → Lends old name first → Returns began new again last → WritesAll text first last r
      → SendsBits g text old new r
  lent_sends text old began new name again first last (Ok x) lends returns w =
      let known = known_first old name first lends in
      let same = same_lent old began new name again first last lends returns w.names in
      record {
        known = λ k. (and_parts (g.known new) _ (returns.known ∙ w.known (known k))).0;
        sent = λ k.
            let s = since_is (g.sent began) (g.sent new) text (ap bits_of returns.sent ∙ w.sent (known k) ∙ ap (λ b. b ++ text) (blank old name first lends)) in
            ap bits_of (s.1 ∙ ap (λ l. l ++ s.0) same.1.0) ∙ bits_of-append (g.sent old) s.0 ∙ ap (λ t. bits_of (g.sent old) ++ t) s.2;
        begun = tt;
        names = same.1.1;
        counted = returns.errors ∙ w.counted ∙ lends.errors;
        kept = omega (arith, returns.errors, w.counted, lends.errors);
        rises = tt;
        risen = tt;
      }
  lent_sends text old began new name again first last (Err e) lends returns w =
      let known = known_first old name first lends in
      let fails = w.failed in
      let same = same_lent old began new name again first last lends returns w.names in
      record {
        known = tt;
        sent = tt;
        begun = λ k.
            let front = subst (λ b. begins (bits_of last.sent) (b ++ text) ≡ true) (blank old name first lends) (fails.begun (known k)) in
            let s = since_begins (g.sent began) (g.sent new) text (subst (λ l. begins (bits_of l) (bits_of (1 ∷ []) ++ text) ≡ true) (sym returns.sent) front) in
            let cut = begins_is (bits_of s.0) text s.2 in
            (bits_of s.0, cut.0, cut.1, ap bits_of (s.1 ∙ ap (λ l. l ++ s.0) same.1.0) ∙ bits_of-append (g.sent old) s.0);
        names = same.1.1;
        counted = tt;
        kept = let k = fails.kept in omega (arith, returns.errors, k, lends.errors);
        rises = λ k. let r = fails.rises (known k) in omega (arith, returns.errors, r, lends.errors);
        risen = λ few. let r = fails.risen (omega (arith, few, lends.errors)) in omega (arith, returns.errors, r, lends.errors);
      }
