-- What calls that print lines did to the targets, one after another.
use Rattle.std.proofs.Common.{◌≡◌, ◌≤◌, ◌<◌, ℕ, Bool, true, false, List, [], ◌++◌, Result, Ok, Err, OnOk, OnErr, refl, sym, ap, subst, ◌∙◌, append-nil, append_assoc, arith}
use Rattle.std.specs.Result.{is_ok}
use Rattle.flac_bits.specs.declared.target.Target as target
use Rattle.flac_cli.specs.inner.Verifying.{IsSent, IsTold, IsEntered}

not_both : {X : Type 0} (b : Bool) → b ≡ true → b ≡ false → X
not_both true holds fails = absurd cc
not_both false holds fails = absurd cc

module _ {T : Type 0} (g : target.Ghosts T) where
  -- a call that was to send a text
  pub sent_of : {X E : Type 0} {text : List ℕ} {old new : T} (r : Result X E) (done : Bool) → done ≡ is_ok r → g.errors old ≤ g.errors new → OnOk r (g.known old ≡ true → g.known new ≡ true)
      → OnOk r (g.known old ≡ true → g.sent new ≡ g.sent old ++ text) → OnErr r (g.known old ≡ true → g.errors old < g.errors new) → IsSent g text old new done
  sent_of (Ok x) done is kept known sent failed = record {
    kept = kept;
    sent = λ holds k. (known k, sent k);
    lost = λ fails. not_both done is fails;
  }
  sent_of (Err e) done is kept known sent failed = record {
    kept = kept;
    sent = λ holds. not_both done holds is;
    lost = λ fails. failed;
  }

  pub told_of : {X E : Type 0} {text : List ℕ} {old new : T} (r : Result X E) → g.errors old ≤ g.errors new → OnOk r (g.known old ≡ true → g.known new ≡ true)
      → OnOk r (g.known old ≡ true → g.sent new ≡ g.sent old ++ text) → OnErr r (g.known old ≡ true → g.errors old < g.errors new) → IsTold g text old new
  told_of (Ok x) kept known sent failed = record {
    kept = kept;
    told = λ k same. (known k, sent k);
  }
  told_of {old = old} {new = new} (Err e) kept known sent failed = record {
    kept = kept;
    told = λ k same. let rose = failed k in absurd (omega (arith, rose, same));
  }

  -- nothing was to be sent
  pub none_sent : (t : T) → IsSent g [] t t true
  none_sent t = record {
    kept = omega arith;
    sent = λ holds k. (k, sym (append-nil (g.sent t)));
    lost = λ fails. not_both true refl fails;
  }

  pub none_told : (t : T) → IsTold g [] t t
  none_told t = record {
    kept = omega arith;
    told = λ k same. (k, sym (append-nil (g.sent t)));
  }

  pub told_same : {text other : List ℕ} {old new : T} → IsTold g text old new → text ≡ other → IsTold g other old new
  told_same {old = old} {new = new} p same = subst (λ l. IsTold g l old new) same p

  -- one text after another
  pub told_then : {text more : List ℕ} {old mid new : T} → IsTold g text old mid → IsTold g more mid new → IsTold g (text ++ more) old new
  told_then {text = text} {more = more} {old = old} {mid = mid} {new = new} p q = record {
    kept = omega (arith, p.kept, q.kept);
    told = λ k same.
        let first : g.errors mid ≡ g.errors old = omega (arith, same, p.kept, q.kept) in
        let then : g.errors new ≡ g.errors mid = omega (arith, same, p.kept, q.kept) in
        let a = p.told k first in
        let b = q.told a.0 then in
        (b.0, b.1 ∙ ap (λ l. l ++ more) a.1 ∙ append_assoc (g.sent old) text more);
  }

  pub sent_same : {text other : List ℕ} {old new : T} {done : Bool} → IsSent g text old new done → text ≡ other → IsSent g other old new done
  sent_same {old = old} {new = new} {done = done} p same = subst (λ l. IsSent g l old new done) same p

  -- a line of a report, which is going on or not
  pub entered_of : {X E : Type 0} {text : List ℕ} {old new : T} (r : Result X E) (done : Bool) → done ≡ is_ok r → g.errors old ≤ g.errors new → OnOk r (g.known old ≡ true → g.known new ≡ true)
      → OnOk r (g.known old ≡ true → g.sent new ≡ g.sent old ++ text) → OnErr r (g.known old ≡ true → g.errors old < g.errors new) → IsEntered g true text old new done
  entered_of r done is kept known sent failed =
      let s = sent_of r done is kept known sent failed in
      record {
        kept = s.kept;
        was = λ holds. refl;
        sent = s.sent;
        lost = λ going. s.lost;
      }

  pub not_entered : {text : List ℕ} (t : T) → IsEntered g false text t t false
  not_entered t = record {
    kept = omega arith;
    was = λ holds. holds;
    sent = λ holds. not_both false holds refl;
    lost = λ going. not_both false going refl;
  }

  pub entered_same : {going : Bool} {text other : List ℕ} {old new : T} {done : Bool} → IsEntered g going text old new done → text ≡ other → IsEntered g going other old new done
  entered_same {going = going} {old = old} {new = new} {done = done} n same = subst (λ l. IsEntered g going l old new done) same n

  pub going_same : {going is_going : Bool} {text : List ℕ} {old new : T} {done : Bool} → IsEntered g going text old new done → is_going ≡ going → IsEntered g is_going text old new done
  going_same {text = text} {old = old} {new = new} {done = done} n same = subst (λ b. IsEntered g b text old new done) (sym same) n
