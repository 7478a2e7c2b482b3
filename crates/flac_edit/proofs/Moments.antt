-- How runs of device calls go on.
use Rattle.std.proofs.Common.{inl, inr, ⊎_elim, ℕ, List, subst, sym, arith}
use Rattle.flac_edit.specs.Device.{Timeline, Follows, Only, Elapses, LeavesOnly}

-- what a run leaves has a weaker property too
pub weaker : (old new : Timeline) (P Q : List ℕ → Type 0) → ((c : List ℕ) → Q c → P c) → LeavesOnly old new Q → LeavesOnly old new P
weaker old new P Q into run = record {
  later = run.later;
  each = λ c left. into c (run.each c left);
  before = λ t c le left. ⊎_elim (λ had. inl had) (λ q. inr (into c q)) (run.before t c le left);
}

-- one run after another
pub joins : (old mid new : Timeline) (P Q : List ℕ → Type 0) → ((c : List ℕ) → Q c → P c) → LeavesOnly old mid P → LeavesOnly mid new Q → LeavesOnly old new P
joins old mid new P Q into first second = record {
  later = omega (arith, first.later, second.later);
  each = λ c left. ⊎_elim (λ had. first.each c had) (λ q. into c q) (second.before old.moment c first.later left);
  before = λ t c le left. ⊎_elim (λ had. first.before t c le had) (λ q. inr (into c q)) (second.before t c (omega (arith, le, first.later)) left);
}

-- before the first write
pub still : (old : Timeline) (P : List ℕ → Type 0) → ((c : List ℕ) → old.left_since old.moment c → P c) → LeavesOnly old old P
still old P here = record { later = omega arith; each = here; before = λ t c le left. inl left }

-- one call, which leaves what has P, after a moment at which all was stored
pub one_call : (old new : Timeline) (P : List ℕ → Type 0) → ((c : List ℕ) → old.left_since old.moment c → P c) → ((c : List ℕ) → new.may_leave c → P c) → Elapses old new → LeavesOnly old new P
one_call old new P here now goes = record {
  later = goes.later;
  each = λ c left. ⊎_elim (here c) (now c) (goes.nothing_else old.moment c (omega arith) left);
  before = λ t c le left. ⊎_elim (λ had. inl had) (λ may. inr (now c may)) (goes.nothing_else t c le left);
}

-- what a write leaves of a file that was stored
pub stepped : (old new : Timeline) (file : List ℕ) (step : List ℕ → List ℕ → Type 0) → Only file old → Follows step old new → (c : List ℕ) → new.may_leave c → step file c
stepped old new file step only follows c left =
    let d = follows c left in
    subst (λ (f : List ℕ). step f c) (only d.0 d.1) d.2

-- a write to a file that was stored
pub writes : (old new : Timeline) (file : List ℕ) (step : List ℕ → List ℕ → Type 0) → step file file → Only file old → ((c : List ℕ) → old.left_since old.moment c → old.may_leave c) → Follows step old new → Elapses old new
    → LeavesOnly old new (step file)
writes old new file step same only now follows goes =
    one_call old new (step file) (λ c left. subst (λ (f : List ℕ). step file f) (sym (only c (now c left))) same) (stepped old new file step only follows) goes

-- and a sync after it
pub writes_synced : (old mid new : Timeline) (file : List ℕ) (step : List ℕ → List ℕ → Type 0) → step file file → Only file old → ((c : List ℕ) → old.left_since old.moment c → old.may_leave c)
    → ((c : List ℕ) → mid.left_since mid.moment c → mid.may_leave c) → Follows step old mid → Elapses old mid → ((c : List ℕ) → new.may_leave c → mid.may_leave c) → Elapses mid new → LeavesOnly old new (step file)
writes_synced old mid new file step same only now later follows goes less more =
    joins old mid new (step file) (step file) (λ c s. s) (writes old mid file step same only now follows goes)
    (one_call mid new (step file) (λ c left. stepped old mid file step only follows c (later c left)) (λ c left. stepped old mid file step only follows c (less c left)) more)
