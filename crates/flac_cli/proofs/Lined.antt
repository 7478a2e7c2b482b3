-- What calls that write text one after another have written.
use Rattle.std.proofs.Common.{◌≡◌, ◌<◌, ◌≤◌, ◌+◌, ◌/◌, ◌%◌, ◌^◌, ℕ, List, [], ◌∷◌, ◌++◌, true, take, Result, Ok, Err, OnOk, OnErr, ap, refl, sym, subst, ◌∙◌, append_assoc, append-nil, arith, decimal}
use Rattle.std.proofs.lemmas.Fmt.{decimal_digit, decimal_step}
use Rattle.flac_bits.specs.declared.target.Target as target
use Rattle.flac_cli.specs.inner.Lined.{Adds}

pub none_taken : (bytes : List ℕ) → take 0 bytes ≡ []
none_taken [] = refl
none_taken (x ∷ xs) = refl

module _ {T : Type 0} (g : target.Ghosts T) where
  -- a text that was added, and what came of the next
  pub adds_then : {X Y E F : Type 0} {a b : List ℕ} {old mid new : T} {had held has : List ℕ} {x : X} (r : Result Y F)
      → Adds {E = E} g a old mid had held (Ok x) → Adds g b mid new held has r → Adds g (a ++ b) old new had has r
  adds_then {a = a} {b = b} {old = old} {had = had} (Ok y) p q = record {
    names = q.names ∙ p.names;
    kept = omega (arith, p.kept, q.kept);
    known = λ k. q.known (p.known k);
    added = λ k. q.added (p.known k) ∙ (ap (λ l. l ++ b) (p.added k) ∙ append_assoc (g.sent old ++ had) a b);
    rises = tt;
  }
  adds_then (Err e) p q = record {
    names = q.names ∙ p.names;
    kept = omega (arith, p.kept, q.kept);
    known = tt;
    added = tt;
    rises = λ k. omega (arith, q.rises (p.known k), p.kept);
  }

  -- a call that did not come out
  abbrev pub Lost : T → T → Type 0
  Lost old new = record {
    names : g.names new ≡ g.names old;
    kept : g.errors old ≤ g.errors new;
    rises : g.known old ≡ true → g.errors old < g.errors new;
  }

  pub lost : {X E : Type 0} {text : List ℕ} {old new : T} {had has : List ℕ} {e : E} → Adds {X = X} g text old new had has (Err e) → Lost old new
  lost p = record {
    names = p.names;
    kept = p.kept;
    rises = p.rises;
  }

  -- the same after a text that was added
  pub lost_then : {X E : Type 0} {text : List ℕ} {old mid new : T} {had has : List ℕ} {x : X} → Adds {E = E} g text old mid had has (Ok x) → Lost mid new → Lost old new
  lost_then p q = record {
    names = q.names ∙ p.names;
    kept = omega (arith, p.kept, q.kept);
    rises = λ k. omega (arith, q.rises (p.known k), p.kept);
  }

  -- so no text was added, whatever it was
  pub adds_lost : {X E : Type 0} {text : List ℕ} {old new : T} {had has : List ℕ} {e : E} → Lost old new → Adds {X = X} g text old new had has (Err e)
  adds_lost p = record {
    names = p.names;
    kept = p.kept;
    known = tt;
    added = tt;
    rises = p.rises;
  }

  -- nothing was to be added
  pub none_added : {E : Type 0} (now : T) (held : List ℕ) → Adds {X = Unit {0}} {E = E} g [] now now held held (Ok tt)
  none_added now held = record {
    names = refl;
    kept = omega arith;
    known = λ k. k;
    added = λ k. sym (append-nil (g.sent now ++ held));
    rises = tt;
  }

  -- what is held, sent
  pub sent_adds : {X E : Type 0} {old new : T} (held : List ℕ) (r : Result X E) → g.names new ≡ g.names old → g.errors old ≤ g.errors new
      → OnOk r (g.known old ≡ true → g.known new ≡ true) → OnOk r (g.known old ≡ true → g.sent new ≡ g.sent old ++ held)
      → OnErr r (g.known old ≡ true → g.errors old < g.errors new) → Adds g [] old new held [] r
  sent_adds {old = old} {new = new} held (Ok x) names kept known sent rises = record {
    names = names;
    kept = kept;
    known = known;
    added = λ k. append-nil (g.sent new) ∙ (sent k ∙ sym (append-nil (g.sent old ++ held)));
    rises = tt;
  }
  sent_adds held (Err e) names kept known sent rises = record {
    names = names;
    kept = kept;
    known = tt;
    added = tt;
    rises = rises;
  }

  -- with nothing held before and after, the text was sent
  pub all_added : {X E : Type 0} {text : List ℕ} {old new : T} (r : Result X E) → Adds g text old new [] [] r → OnOk r (g.known old ≡ true → g.sent new ≡ g.sent old ++ text)
  all_added {text = text} {old = old} {new = new} (Ok x) p = λ k. sym (append-nil (g.sent new)) ∙ (p.added k ∙ ap (λ l. l ++ text) (append-nil (g.sent old)))
  all_added (Err e) p = tt

  -- the text, said in another way
  pub adds_same : {X E : Type 0} {text other : List ℕ} {old new : T} {had has : List ℕ} (r : Result X E) → Adds g text old new had has r → text ≡ other → Adds g other old new had has r
  adds_same {old = old} {new = new} {had = had} {has = has} r p same = subst (λ l. Adds g l old new had has r) same p

-- ---- decimal digits

-- a number of one digit
pub one_digit : (b n : ℕ) → b ≡ 48 + n % 10 → n < 10 → b ∷ [] ≡ decimal n
one_digit b n is few =
    let e : b ≡ 48 + n = omega (arith, is, few) in
    ap (λ k. k ∷ []) e ∙ sym (decimal_digit n few)

-- the last digit of a longer one
pub next_digit : (b n : ℕ) → b ≡ 48 + n % 10 → 10 ≤ n → n < 2 ^ 64 → decimal (n / 10) ++ b ∷ [] ≡ decimal n
next_digit b n is many small = ap (λ k. decimal (n / 10) ++ k ∷ []) is ∙ sym (decimal_step n many small)
