-- A fence round one item, and no fence between items.
use Rattle.std.proofs.Common.{◌≡◌, ℕ, ◌<◌, ◌≤◌, Bool, true, false, nat_eq, List, ◌++◌, Some, Result, Ok, Err, refl, sym, ap, subst, ◌∙◌}
use Rattle.std.proofs.lemmas.List.{append-nil}
use Rattle.flac_bits.specs.State.{State, Mark, Cursor, After, fresh, with_short, without_fence, started, short_of}
use Rattle.flac_bits.specs.Layout.{Layout, Reason, run, done, ◌>>=◌, and_then}
use Rattle.flac_bits.specs.Reading.{Reads, Counts}
use Rattle.flac_bits.specs.Fence.{fenced, unfenced, read_in}
use Rattle.flac_bits.specs.Fencing.{lifted, fence_at, all_left}
use Rattle.flac_bits.specs.Within.{ReadsWithin}
use Rattle.flac_bits.specs.inner.Within.{IsOpen}
use Rattle.flac_bits.specs.Items.{Grammar, item}
use Rattle.flac_bits.specs.inner.Items.{step_at}
use Rattle.flac_bits.specs.declared.why.Why.{Why}
use Rattle.flac_bits.proofs.Counting.{rises_then}
use Rattle.flac_bits.proofs.Meaning.{past-short}
use Rattle.flac_bits.proofs.Fences.{answers_in}
use Rattle.flac_bits.proofs.Items.{step_spelled}
use Rattle.flac_bits.proofs.Handing.{SoFar, Far}

-- ---- no fence stands

pub lifted_open : (s : State) → IsOpen (lifted s)
lifted_open s = record { none = refl; short = refl }

pub open_lifted : (s : State) → IsOpen s → lifted s ≡ s
open_lifted s opened =
    ap (λ (b : After). record s { after = b; cursor = record { left = all_left s; mark = with_short (short_of s.after.fails) s.cursor.mark } }) (ap (λ (f : List Bool). record s.after { fenced = f }) (sym opened.none))
    ∙ ap (λ (l : List Bool). record s { cursor = record { left = l; mark = with_short (short_of s.after.fails) s.cursor.mark } }) (ap (λ (f : List Bool). s.cursor.left ++ f) opened.none ∙ append-nil s.cursor.left)
    ∙ ap (λ (w : Why). record s { cursor = record { left = s.cursor.left; mark = with_short w s.cursor.mark } }) (sym opened.short)

pub open_on : (s t : State) → IsOpen s → t.after ≡ s.after → t.cursor.mark.short ≡ s.cursor.mark.short → IsOpen t
open_on s t opened after short = record {
  none = ap (λ (b : After). b.fenced) after ∙ opened.none;
  short = short ∙ opened.short ∙ ap (λ (b : After). short_of b.fails) (sym after);
}

-- ---- the checks begin anew

pub fresh-short : (m : Mark) → (fresh m).short ≡ m.short
fresh-short m = go (nat_eq m.unread 0) refl
  where
    go : (b : Bool) → nat_eq m.unread 0 ≡ b → (fresh m).short ≡ m.short
    go true e = rw e refl
    go false e = rw e refl

fenced_start : (n : ℕ) (s : State) → (started (fence_at n s)).cursor ≡ fenced n (started (lifted s)).cursor
fenced_start n s = go (nat_eq s.cursor.mark.unread 0) refl
  where
    go : (b : Bool) → nat_eq s.cursor.mark.unread 0 ≡ b → (started (fence_at n s)).cursor ≡ fenced n (started (lifted s)).cursor
    go true e = rw e refl
    go false e = rw e refl

unfenced_end : (n : ℕ) (s t : State) → t.after ≡ (fence_at n s).after → (lifted t).cursor ≡ unfenced n (started (lifted s)).cursor t.cursor
unfenced_end n s t after =
    ap (λ (b : After). record { left = t.cursor.left ++ b.fenced; mark = with_short (short_of b.fails) t.cursor.mark }) after ∙ go (nat_eq s.cursor.mark.unread 0) refl
  where
    go : (b : Bool) → nat_eq s.cursor.mark.unread 0 ≡ b
        → record { left = t.cursor.left ++ (fence_at n s).after.fenced; mark = with_short (short_of s.after.fails) t.cursor.mark } ≡ unfenced n (started (lifted s)).cursor t.cursor
    go true e = rw e refl
    go false e = rw e refl

-- ---- a call after a fence, which is lifted then

pub counts_fenced : {X : Type 0} (n : ℕ) (s t : State) (result : Result X Why) → Counts (fence_at n s) t result → Counts (lifted s) (lifted t) result
counts_fenced n s t (Ok x) c = (c.0, c.1, c.2, λ known. ap without_fence (c.3 known), c.4)
counts_fenced n s t (Err e) c = (c.0, λ known same. ap without_fence (c.1 known same), c.2, c.3, c.4, c.5)

after_is : {X : Type 0} (s t : State) (result : Result X Why) → Counts s t result → s.known ≡ true → t.errors ≡ s.errors → t.after ≡ s.after
after_is s t (Ok x) c known same = c.3 known
after_is s t (Err e) c known same = c.1 known same

pub reads_fenced : {X Y : Type 0} (view : X → Y) (n : ℕ) (l : Layout Y) (s t : State) (result : Result X Why) → Reads view l (started (fence_at n s)) t result → Counts (fence_at n s) t result
    → ReadsWithin (Some n) view l s (lifted t) result
reads_fenced view n l s t result reads counts known same =
    answers_in view n l (started (lifted s)).cursor t.cursor (lifted t).cursor result (rw (fenced_start n s) at (reads known same)) (unfenced_end n s t (after_is (fence_at n s) t result counts known same))

-- ---- from one call to the next

pub counts_on : {X Y : Type 0} (s t u : State) (x : X) (result : Result Y Why) → Counts (lifted s) t (Ok x) → Counts (lifted t) u result → Counts (lifted s) u result
counts_on s t u x (Ok y) c d = (λ known. d.0 (c.0 known), d.1 ∙ c.1, d.2 ∙ c.2, λ known. d.3 (c.0 known) ∙ ap without_fence (c.3 known), d.4 ∙ c.4)
counts_on s t u x (Err e) c d = (
  subst (λ n. n ≤ u.errors) c.1 d.0,
  λ known same. d.1 (c.0 known) (same ∙ sym c.1) ∙ ap without_fence (c.3 known),
  λ known is. subst (λ n. n < u.raised) c.2 (d.2 (c.0 known) is),
  d.3 ∙ c.4,
  λ is. rises_then s.raised t.raised u.raised c.2 (d.4 is),
  d.5,
)

-- after an item bits run short for the same reason as before it
pub step_short : {S I P : Type 0} (g : Grammar S I P) (s : S) (c d : Cursor) (x : I) → step_at g s c ≡ item x d → d.mark.short ≡ c.mark.short
step_short g s c d x e =
    let t = step_spelled g s c.mark c.left x d e in
    ap (λ (m : Mark). m.short) t.4 ∙ past-short t.0 (fresh c.mark) ∙ fresh-short c.mark

-- where a fence may stand, nothing is read of what is left before it is lifted
pub lifted_same : (s t : State) → t.cursor ≡ (lifted s).cursor → t.after ≡ (lifted s).after → (lifted t).cursor ≡ (lifted s).cursor
lifted_same s t cursor after =
    let opened = open_on (lifted s) t (lifted_open s) after (ap (λ (c : Cursor). c.mark.short) cursor) in
    ap (λ (u : State). u.cursor) (open_lifted t opened) ∙ cursor

pub so_far_lifted : {S I P K : Type 0} (g : Grammar S I P) (takes : K → I → K → Type 0) (errors : K → ℕ) (first state : S) (old now : State) (sink taken : K)
    → SoFar g takes errors first state old now sink taken → (old.known ≡ true → IsOpen now) → SoFar g takes errors first state old (lifted now) sink taken
so_far_lifted g takes errors first state old now sink taken h opened = record {
  known = h.known;
  errors_are = h.errors_are;
  raised = h.raised;
  after = λ known. ap (λ (s : State). s.after) (open_lifted now (opened known)) ∙ h.after known;
  names = h.names;
  received = h.received;
  far = λ known. subst (λ (s : State). Far g takes first state old.cursor s.cursor sink taken) (sym (open_lifted now (opened known))) (h.far known);
}

-- ---- one layout in another

-- where a layout refuses within a room, so does one that begins with it
pub refused_within : {A B : Type 0} (n : ℕ) (l : Layout A) (f : A → B) (c : Cursor) (e : Reason) → read_in (Some n) l c ≡ Err e → read_in (Some n) (l >>= λ x. done (f x)) c ≡ Err e
refused_within {A} {B} n l f c e h = go (run l (fenced n c)) refl h
  where
    okay : {X : Type 0} → X → Result X Reason
    okay x = Ok x

    failed : {X : Type 0} → Reason → Result X Reason
    failed r = Err r

    no_okay : {X : Type 0} (x : X) (r : Reason) → okay x ≡ failed r → ⊥
    no_okay x r e = absurd cc

    same : {X Y : Type 0} (r s : Reason) → failed {X = X} r ≡ failed s → failed {X = Y} r ≡ failed s
    same r s e = let k : r ≡ s = cc in ap failed k

    go : (r : Result (A × Cursor) Reason) → run l (fenced n c) ≡ r → and_then r (λ x d. okay (x, unfenced n c d)) ≡ Err e → read_in (Some n) (l >>= λ x. done (f x)) c ≡ Err e
    go (Ok x) is h = absurd (no_okay (x.0, unfenced n c x.1) e h)
    go (Err r) is h = rw is (same r e h)
