-- One item after another is read and handed to a receiver.
use Rattle.std.proofs.Common.{◌≡◌, ◌≢◌, ◌<◌, ℕ, zero, suc, Bool, true, List, [], ◌∷◌, ◌++◌, length, inl, inr, Option, Some, None, refl, sym, ap, subst, ◌∙◌, append_assoc, arith}
use Rattle.std.proofs.lemmas.List.{append-nil, length-append}
use Rattle.flac_bits.specs.State.{Mark, Cursor, State, past, fresh}
use Rattle.flac_bits.specs.Meaning.{Spells}
use Rattle.flac_bits.specs.Fence.{InRoom}
use Rattle.flac_bits.specs.Items.{Grammar, state_after, Joined, mark_after, StopsAt, Refused, Step, item, over, refused}
use Rattle.flac_bits.specs.inner.Items.{step_at, NeedsBits}
use Rattle.flac_bits.specs.Handing.{TakesAll, InputReading, Hands, by_grammar, IsRead, OneReading, SomeReading}
use Rattle.flac_bits.specs.inner.Handing.{IsCalm}
use Rattle.flac_bits.specs.declared.why.Why.{Why}
use Rattle.flac_bits.specs.declared.why.Why.TheVariants.{Memory}
use Rattle.flac_bits.proofs.Readings.{at_}
use Rattle.flac_bits.proofs.Items.{step_spelled, step_over, step_stops, one_way, stream_steps, refused_steps}

-- ---- one item more

pub state_after-append : {S I P : Type 0} (g : Grammar S I P) (s : S) (xs : List I) (x : I) → state_after g s (xs ++ x ∷ []) ≡ g.next (state_after g s xs) x
state_after-append g s [] x = refl
state_after-append g s (y ∷ xs) x = state_after-append g (g.next s y) xs x

pub Joined-append : {S I P : Type 0} (g : Grammar S I P) (s : S) (m : Mark) (xs : List I) (x : I) (text more : List Bool) (j : Joined g s m xs text)
    → Spells (g.layout (state_after g s xs)) (fresh (mark_after g s m xs text j)) more x → InRoom (g.room (state_after g s xs)) (fresh (mark_after g s m xs text j)) more
    → (k : Joined g s m (xs ++ x ∷ []) (text ++ more)) × (mark_after g s m (xs ++ x ∷ []) (text ++ more) k ≡ past more (fresh (mark_after g s m xs text j)))
Joined-append g s m [] x text more j spelled fits = ((more, [], ap (λ t. t ++ more) j ∙ sym (append-nil more), spelled, fits, refl), refl)
Joined-append g s m (y ∷ xs) x text more (front, rest, split, first, room, others) spelled fits =
    let k = Joined-append g (g.next s y) (past front (fresh m)) xs x rest more others spelled fits in
    ((front, rest ++ more, ap (λ t. t ++ more) split ∙ append_assoc front rest more, first, room, k.0), k.1)

pub TakesAll-append : {K I : Type 0} (takes : K → I → K → Type 0) (old : K) (xs : List I) (mid : K) (x : I) (new : K) → TakesAll takes old xs mid → takes mid x new → TakesAll takes old (xs ++ x ∷ []) new
TakesAll-append takes old [] mid x new h t = (new, subst (λ k. takes k x new) (sym h) t, refl)
TakesAll-append takes old (y ∷ ys) mid x new h t = (h.0, h.1, TakesAll-append takes h.0 ys mid x new h.2 t)

-- ---- how far a reading is

-- from old to now the input is these items, and the receiver took them
pub record Far {S I P K : Type 0} (g : Grammar S I P) (takes : K → I → K → Type 0) (first state : S) (old now : Cursor) (sink taken : K) : Type 0 where
  pub items : List I
  pub text : List Bool
  pub stands : old.left ≡ text ++ now.left
  pub spelled : Joined g first old.mark items text
  pub state_is : state ≡ state_after g first items
  pub mark_is : now.mark ≡ mark_after g first old.mark items text spelled
  pub took : TakesAll takes sink items taken

-- so far neither the source nor the receiver failed
pub record SoFar {S I P K : Type 0} (g : Grammar S I P) (takes : K → I → K → Type 0) (errors : K → ℕ) (first state : S) (old now : State) (sink taken : K) : Type 0 where
  pub known : old.known ≡ true → now.known ≡ true
  pub errors_are : now.errors ≡ old.errors
  pub raised : now.raised ≡ old.raised
  pub after : old.known ≡ true → now.after ≡ old.after
  pub names : now.names ≡ old.names
  pub received : errors taken ≡ errors sink
  pub far : old.known ≡ true → Far g takes first state old.cursor now.cursor sink taken

pub starts : {S I P K : Type 0} (g : Grammar S I P) (takes : K → I → K → Type 0) (errors : K → ℕ) (first : S) (old : State) (sink : K) → SoFar g takes errors first first old old sink sink
starts g takes errors first old sink = record {
  known = λ known. known;
  errors_are = refl;
  raised = refl;
  after = λ known. refl;
  names = refl;
  received = refl;
  far = λ known. record { items = []; text = []; stands = refl; spelled = refl; state_is = refl; mark_is = refl; took = refl };
}

far_more : {S I P K : Type 0} (g : Grammar S I P) (takes : K → I → K → Type 0) (first state : S) (old now d : Cursor) (sink mid new : K) (x : I)
    → Far g takes first state old now sink mid → step_at g state now ≡ item x d → takes mid x new → Far g takes first (g.next state x) old d sink new
far_more g takes first state old now d sink mid new x far step took =
    let e : step_at g (state_after g first far.items) (at_ now.left (mark_after g first old.mark far.items far.text far.spelled)) ≡ item x d =
    subst (λ k. step_at g (state_after g first far.items) (at_ now.left k) ≡ item x d) far.mark_is (subst (λ s. step_at g s now ≡ item x d) far.state_is step) in
    let t = step_spelled g (state_after g first far.items) (mark_after g first old.mark far.items far.text far.spelled) now.left x d e in
    let k = Joined-append g first old.mark far.items x far.text t.0 far.spelled t.2 t.3 in
    record {
      items = far.items ++ x ∷ [];
      text = far.text ++ t.0;
      stands = far.stands ∙ ap (λ k. far.text ++ k) t.1 ∙ sym (append_assoc far.text t.0 d.left);
      spelled = k.0;
      state_is = ap (λ s. g.next s x) far.state_is ∙ sym (state_after-append g first far.items x);
      mark_is = t.4 ∙ sym k.1;
      took = TakesAll-append takes sink far.items mid x new far.took took;
    }

-- what a call that returned a value left of the source: the clause Counts at Ok
abbrev pub Went : State → State → Type 0
Went old new = (old.known ≡ true → new.known ≡ true) × (new.errors ≡ old.errors) × (new.raised ≡ old.raised) × (old.known ≡ true → new.after ≡ old.after) × (new.names ≡ old.names)

-- an item was read and taken
pub one_more : {S I P K : Type 0} (g : Grammar S I P) (takes : K → I → K → Type 0) (errors : K → ℕ) (first state next : S) (old now d : State) (sink mid new : K) (x : I)
    → SoFar g takes errors first state old now sink mid → Went now d → (now.known ≡ true → step_at g state now.cursor ≡ item x d.cursor) → errors new ≡ errors mid → takes mid x new → next ≡ g.next state x
    → SoFar g takes errors first next old d sink new
one_more g takes errors first state next old now d sink mid new x so_far went step received took noted = record {
  known = λ k. went.0 (so_far.known k);
  errors_are = went.1 ∙ so_far.errors_are;
  raised = went.2 ∙ so_far.raised;
  after = λ k. went.3 (so_far.known k) ∙ so_far.after k;
  names = went.4 ∙ so_far.names;
  received = received ∙ so_far.received;
  far = λ k. subst (λ s. Far g takes first s old.cursor d.cursor sink new) (sym noted) (far_more g takes first state old.cursor now.cursor d.cursor sink mid new x (so_far.far k) (step (so_far.known k)) took);
}

-- ---- and how it ends

abbrev ends : {P : Type 0} → Option (P × Why) → Option (P × Why)
ends e = e

none_some : {P : Type 0} (r : P × Why) → ends None ≡ Some r → ⊥
none_some r e = absurd cc

some_is : {P : Type 0} (r q : P × Why) → ends (Some r) ≡ Some q → r ≡ q
some_is r q e = cc

same_end : {P : Type 0} (at to : P) (v w : Why) → ends (Some (at, v)) ≡ Some (to, w) → (at ≡ to) × (v ≡ w)
same_end {P} at to v w e = let pair = some_is (at, v) (to, w) e in (ap (λ (r : P × Why). r.0) pair, ap (λ (r : P × Why). r.1) pair)

-- the step refused, if the source returned no error in the call and memory did not run out
pub step_refused : {S I P K : Type 0} (g : Grammar S I P) (takes : K → I → K → Type 0) (errors : K → ℕ) (first state : S) (old now end : State) (sink taken : K) (at : P) (why : Why)
    → SoFar g takes errors first state old now sink taken → (now.known ≡ true → end.errors ≡ now.errors → end.raised ≡ now.raised → why ≢ Memory → step_at g state now.cursor ≡ refused at why) → old.known ≡ true
    → IsCalm old end → why ≢ Memory → (items : List I) × Refused g first old.cursor.mark items old.cursor.left at why × TakesAll takes sink items taken
step_refused g takes errors first state old now end sink taken at why so_far step known calm room =
    let far = so_far.far known in
    let stop = step (so_far.known known) (calm.0 ∙ sym so_far.errors_are) (calm.1 ∙ sym so_far.raised) room in (
      far.items,
      record {
        front = far.text;
        left = now.cursor.left;
        stands = far.stands;
        spelled = far.spelled;
        stops = subst (λ (k : Mark). StopsAt g (state_after g first far.items) k now.cursor.left at why) far.mark_is
            (subst (λ s. StopsAt g s now.cursor.mark now.cursor.left at why) far.state_is (step_stops g state now.cursor.mark now.cursor.left at why stop));
      },
      far.took,
    )

-- what holds if the source returned no error holds if a stronger condition says so
pub calmer : {I P K : Type 0} {r : InputReading I P} {takes : K → I → K → Type 0} {errors : K → ℕ} (calm quiet : Type 0) {old new : K} {outcome : Option (P × Why)}
    → (quiet → calm) → Hands r takes errors calm old new outcome → Hands r takes errors quiet old new outcome
calmer calm quiet f h = record { done = λ q. h.done (f q); refused = λ q. h.refused (f q); begun = h.begun; broken = h.broken; failed = h.failed }

-- ---- an input has one outcome

pub one_reading : {S I P : Type 0} (g : Grammar S I P) → NeedsBits g → OneReading g
one_reading g needs s m text = record {
  streams = λ xs ys p q. (one_way g s (at_ text m) xs ys None None (stream_steps g needs s m xs text p) (stream_steps g needs s m ys text q)).0;
  either = λ xs ys at why p q. none_some (at, why) (one_way g s (at_ text m) xs ys None (Some (at, why)) (stream_steps g needs s m xs text p) (refused_steps g needs s m ys text at why q)).1;
  refusals = λ xs ys at to v w p q.
      let same = one_way g s (at_ text m) xs ys (Some (at, v)) (Some (to, w)) (refused_steps g needs s m xs text at v p) (refused_steps g needs s m ys text to w q) in
      let pair = same_end at to v w same.1 in
      (same.0, pair.0, pair.1);
}

-- ---- and each input has an outcome

-- after an item a reading of what is left is a reading of the whole
read_on : {S I P : Type 0} (g : Grammar S I P) (s : S) (m : Mark) (x : I) (left front rest : List Bool) → left ≡ front ++ rest → Spells (g.layout s) (fresh m) front x → InRoom (g.room s) (fresh m) front
    → IsRead (by_grammar g (g.next s x) (past front (fresh m)) rest) → IsRead (by_grammar g s m left)
read_on g s m x left front rest split spelled fits (inl (items, w)) = inl (x ∷ items, record { spelled = (front, rest, split, spelled, fits, w.spelled); ends = w.ends; kept = w.kept })
read_on g s m x left front rest split spelled fits (inr (items, at, why, r)) = inr (
  x ∷ items,
  at,
  why,
  record {
    front = front ++ r.front;
    left = r.left;
    stands = split ∙ ap (λ k. front ++ k) r.stands ∙ sym (append_assoc front r.front r.left);
    spelled = (front, r.front, refl, spelled, fits, r.spelled);
    stops = r.stops;
  },
)

-- no item is spelled by no bit
abbrev pub HasBits : {S I P : Type 0} → Grammar S I P → Type 0
HasBits {S = S} {I = I} g = (s : S) (m : Mark) (text : List Bool) (x : I) → Spells (g.layout s) m text x → 0 < length text

read_all : {S I P : Type 0} (g : Grammar S I P) → HasBits g → (n : ℕ) (s : S) (m : Mark) (left : List Bool) → length left < n → IsRead (by_grammar g s m left)
read_all g has zero s m left lt = absurd (omega arith)
read_all {S = S} {I = I} {P = P} g has (suc n) s m left lt = go (λ t k rest h. read_all g has n t k rest h) (step_at g s (at_ left m)) refl
  where
    go : ((t : S) (k : Mark) (rest : List Bool) → length rest < n → IsRead (by_grammar g t k rest)) → (step : Step I P) → step_at g s (at_ left m) ≡ step → IsRead (by_grammar g s m left)
    go more (item x d) e =
        let t = step_spelled g s m left x d e in
        let some = has s (fresh m) t.0 x t.2 in
        let shorter : length d.left < n = omega (arith, lt, some, ap (λ (k : List Bool). length k) t.1, length-append t.0 d.left) in
        read_on g s m x left t.0 d.left t.1 t.2 t.3 (more (g.next s x) (past t.0 (fresh m)) d.left shorter)
    go more over e = let t = step_over g s m left e in inl ([], record { spelled = t.1; ends = t.0; kept = t.2 })
    go more (refused at why) e = inr ([], at, why, record { front = []; left = left; stands = refl; spelled = refl; stops = step_stops g s m left at why e })

-- so each input is a stream, or is refused
pub some_reading : {S I P : Type 0} (g : Grammar S I P) → HasBits g → SomeReading g
some_reading g has s m text = read_all g has (suc (length text)) s m text (omega arith)
