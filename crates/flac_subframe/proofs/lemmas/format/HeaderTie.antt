-- The tie of a subframe's header, and of the whole.
use Rattle.std.proofs.Common.{◌≡◌, ℕ, zero, suc, ◌+◌, ◌-◌, ◌^◌, ◌≤◌, ◌<◌, refl, sym, subst, arith, Bool, true, false, List, [], ◌++◌, length, Option, Some, None, nat_lt, nat_eq, eq-eqb, ◌&&◌, ◌||◌, inl, inr}
use Rattle.std.proofs.lemmas.Bool.{lt-ltb, le-ltb, ltb-true, ltb-false, eqb-true, eqb-false, false≢true, cases_lt, not-false, not_from_true}
use Rattle.std.proofs.lemmas.List.{append-nil}
use Rattle.flac_bits.specs.Bits.{unsigned}
use Rattle.flac_bits.specs.State.{Mark, past}
use Rattle.flac_bits.specs.Layout.{done, unary, bind}
use Rattle.flac_bits.specs.inner.Forms.{Ties}
use Rattle.flac_bits.specs.Meaning.{Spells, unary_bits, zeros_bits, IsWithin}
use Rattle.flac_subframe.specs.format.Laws.{SubframesAreSpelled, SubframesAreReadAgain}
use Rattle.flac_bits.proofs.Meaning.{again}
use Rattle.flac_bits.proofs.Ties.{ForEach, ForSome, tie, each_tied, some_tied, choose_each, choose_true, choose_false}
use Rattle.flac_subframe.specs.declared.format.limits.Limits.{Limits}
use Rattle.flac_subframe.specs.format.Subframe.{Content, Constant, Verbatim, Fixed, Linear, Header, is_reserved, predictor_order, linear_order, content, one_more, wasted_bits, header, subframe}
use Rattle.flac_subframe.specs.format.Spelling.{content_spelling, type_of, flag_of, wasted_spelling, header_spelling, subframe_spelling, MayHold, IsSubframe}
use Rattle.flac_subframe.proofs.lemmas.format.SubframeTie.{Holds, each_constant, each_verbatim, each_fixed, each_linear, some_content}

-- ---- tests

or_parts : (a b : Bool) → (a || b) ≡ false → (a ≡ false) × (b ≡ false)
or_parts true b e = absurd (false≢true (sym e))
or_parts false b e = (refl, e)

or_both : (a b : Bool) → a ≡ false → b ≡ false → (a || b) ≡ false
or_both a b e h = rw (e, h) refl

and_first : (a b : Bool) → a ≡ false → (a && b) ≡ false
and_first a b e = rw e refl

and_second : (a b : Bool) → b ≡ false → (a && b) ≡ false
and_second true b e = e
and_second false b e = refl

and_then_first : (a b : Bool) → (a && b) ≡ false → a ≡ true → b ≡ false
and_then_first true b e h = e
and_then_first false b e h = absurd (false≢true h)

-- types that are not reserved
record IsKind (kind : ℕ) : Type 0 where
  few : kind < 2 ^ 6
  eight : 1 < kind → 8 ≤ kind
  later : 12 < kind → 32 ≤ kind

kind_is : (kind : ℕ) → kind < 2 ^ 6 → is_reserved kind ≡ false → IsKind kind
kind_is kind few e =
    let both = or_parts (nat_lt 1 kind && nat_lt kind 8) (nat_lt 12 kind && nat_lt kind 32) e in
    record {
      few = few;
      eight = λ h. ltb-false kind 8 (and_then_first (nat_lt 1 kind) (nat_lt kind 8) both.0 (lt-ltb 1 kind h));
      later = λ h. ltb-false kind 32 (and_then_first (nat_lt 12 kind) (nat_lt kind 32) both.1 (lt-ltb 12 kind h));
    }

not_reserved : (kind : ℕ) → (1 < kind → 8 ≤ kind) → (12 < kind → 32 ≤ kind) → is_reserved kind ≡ false
not_reserved kind eight later = or_both (nat_lt 1 kind && nat_lt kind 8) (nat_lt 12 kind && nat_lt kind 32)
    (elim (cases_lt 1 kind) [ inl h ↦ and_second (nat_lt 1 kind) (nat_lt kind 8) (le-ltb kind 8 (eight h)) | inr h ↦ and_first (nat_lt 1 kind) (nat_lt kind 8) (le-ltb 1 kind h) ])
    (elim (cases_lt 12 kind) [ inl h ↦ and_second (nat_lt 12 kind) (nat_lt kind 32) (le-ltb kind 32 (later h)) | inr h ↦ and_first (nat_lt 12 kind) (nat_lt kind 32) (le-ltb 12 kind h) ])

-- ---- the wasted bits

module _ (depth : ℕ) (some : 1 ≤ depth) (m : Mark) where
  each_wasted : (flag : ℕ) (P : List Bool → ℕ → Type 0) → flag < 2 → (nat_eq flag 1 && nat_lt depth 2) ≡ false → ((k : ℕ) → flag_of k ≡ flag → k < depth → P (wasted_spelling k ++ []) k) → ForEach (wasted_bits flag depth) m (λ text k. P (text ++ []) k)
  unfolding wasted_bits
  each_wasted flag P small kept h = choose_each (nat_eq flag 0) _ _ m _ (λ e. h 0 (sym (eqb-true flag 0 e)) some) (λ e. go e)
    where
      go : nat_eq flag 0 ≡ false → (o : Option ℕ) → IsWithin (depth - 2) o → ForEach (one_more o) (past (zeros_bits (depth - 2) o) m) (λ rest k. P ((zeros_bits (depth - 2) o ++ rest) ++ []) k)
      go e None w = tt
      go e (Some z) w =
          let one : z + 1 ≡ suc z = omega arith in
          let is : flag ≡ 1 = omega (arith, small, eqb-false flag 0 e) in
          let deep : 2 ≤ depth = ltb-false depth 2 (and_then_first (nat_eq flag 1) (nat_lt depth 2) kept (eq-eqb flag 1 is)) in
          rw (one, append-nil (unary_bits z)) (h (suc z) (sym is) (omega (arith, w, deep)))

  some_wasted : (k : ℕ) (P : List Bool → ℕ → Type 0) → k < depth → P (wasted_spelling k) k → ForSome (wasted_bits (flag_of k) depth) m P
  unfolding wasted_bits
  some_wasted zero P lt h = choose_true (nat_eq 0 0) (done 0) (bind (unary (depth - 2)) (λ zeros. one_more zeros)) m P refl h
  some_wasted (suc k) P lt h =
      let one : k + 1 ≡ suc k = omega arith in
      choose_false (nat_eq 1 0) (done 0) (bind (unary (depth - 2)) (λ zeros. one_more zeros)) m P refl (Some k, omega (arith, lt), rw (one, append-nil (unary_bits k)) h)

flag_small : (k : ℕ) → flag_of k < 2
flag_small zero = omega arith
flag_small (suc k) = omega arith

flag_deep : (k depth : ℕ) → k < depth → (nat_eq (flag_of k) 1 && nat_lt depth 2) ≡ false
flag_deep zero depth lt = refl
flag_deep (suc k) depth lt = le-ltb depth 2 (omega (arith, lt))

-- ---- the header

record IsHeader (depth block : ℕ) (limits : Limits) (h : Header) : Type 0 where
  kind : IsKind h.kind
  allowed : linear_order h.kind ≤ limits.linear
  room : predictor_order h.kind < block
  left : h.wasted < depth

abbrev spelled_header : Header → List Bool
spelled_header h = header_spelling h.kind h.wasted

module _ (depth block : ℕ) (limits : Limits) (some : 1 ≤ depth) (m : Mark) where
  header_tie : Ties (header depth block limits) m (IsHeader depth block limits) spelled_header
  unfolding header header_spelling
  header_tie = tie (header depth block limits) m (IsHeader depth block limits) spelled_header
      (λ z zero_small kind few flag flag_few kept.
      let first = or_parts (nat_eq z 1) (is_reserved kind || (nat_eq flag 1 && nat_lt depth 2)) kept.0 in
      let second = or_parts (is_reserved kind) (nat_eq flag 1 && nat_lt depth 2) first.1 in
      let is_zero : z ≡ 0 = omega (arith, zero_small, eqb-false z 1 first.0) in
      each_wasted depth some _ flag (λ text k. IsHeader depth block limits (record { kind = kind; wasted = k }) × (unsigned 1 z ++ (unsigned 6 kind ++ (unsigned 1 flag ++ text)) ≡ header_spelling kind k)) flag_few second.1
      (λ k e lt. (
        record { kind = kind_is kind few second.0; allowed = ltb-false limits.linear (linear_order kind) kept.1.0; room = ltb-true (predictor_order kind) block (not-false (nat_lt (predictor_order kind) block) kept.1.1.0); left = lt },
        rw (is_zero, ← e) refl,
      )))
      (λ h v. (
        0,
        omega arith,
        (
          h.kind,
          v.kind.few,
          (
            flag_of h.wasted,
            flag_small h.wasted,
            (
              (
                or_both (nat_eq 0 1) (is_reserved h.kind || (nat_eq (flag_of h.wasted) 1 && nat_lt depth 2)) refl (or_both (is_reserved h.kind) _ (not_reserved h.kind v.kind.eight v.kind.later) (flag_deep h.wasted depth v.left)),
                (le-ltb limits.linear (linear_order h.kind) v.allowed, (not_from_true (nat_lt (predictor_order h.kind) block) (lt-ltb (predictor_order h.kind) block v.room), tt)),
              ),
              some_wasted depth some _ h.wasted _ v.left (refl, refl),
            ),
          ),
        ),
      ))

-- ---- the whole

module _ (depth block : ℕ) (limits : Limits) (m : Mark) where
  each_content : (kind : ℕ) → IsKind kind → linear_order kind ≤ limits.linear → predictor_order kind < block → ForEach (content kind depth block limits.partition) m (λ text c. Holds depth block limits m kind c × (text ≡ content_spelling depth c))
  unfolding content
  each_content kind ok allowed room =
      choose_each (nat_eq kind 0) _ _ m _ (λ e. let is = eqb-true kind 0 e in rw is (each_constant depth block limits m))
      (λ e. choose_each (nat_eq kind 1) _ _ m _ (λ f. let is = eqb-true kind 1 f in rw is (each_verbatim depth block limits m))
      (λ f. choose_each (nat_lt kind 32) _ _ m _
      (λ t. let below = ltb-true kind 32 t in
      let is : predictor_order kind ≡ kind - 8 = rw t refl in
      let above : 8 ≤ kind = ok.eight (omega (arith, eqb-false kind 0 e, eqb-false kind 1 f)) in
      let upto : kind ≤ 12 = elim (cases_lt 12 kind) [ inl h ↦ absurd (omega (arith, ok.later h, below)) | inr h ↦ h ] in
      each_fixed depth block limits m (predictor_order kind) kind (omega (arith, is, above)) (omega (arith, is, upto)) room)
      (λ t. let above = ltb-false kind 32 t in
      let is : predictor_order kind ≡ kind - 31 = rw t refl in
      each_linear depth block limits m (predictor_order kind) kind (omega (arith, is, above)) (omega (arith, is, above)) (omega (arith, is, allowed)) room)))

  content_tie : (kind : ℕ) → IsKind kind → linear_order kind ≤ limits.linear → predictor_order kind < block → Ties (content kind depth block limits.partition) m (Holds depth block limits m kind) (content_spelling depth)
  content_tie kind ok allowed room = tie (content kind depth block limits.partition) m (Holds depth block limits m kind) (content_spelling depth) (each_content kind ok allowed room)
      (λ c v. rw (← v.0) (some_content depth block limits m c v.1))

header_of : (depth block : ℕ) (limits : Limits) (c : Content) (wasted : ℕ) → 1 ≤ block → limits.linear ≤ 32 → wasted < depth → MayHold (depth - wasted) block limits c → IsHeader depth block limits (record { kind = type_of c; wasted = wasted })
header_of depth block limits (Constant z) wasted some few left v = record { kind = record { few = omega arith; eight = λ h. absurd (omega (arith, h)); later = λ h. absurd (omega (arith, h)) }; allowed = omega arith; room = some; left = left }
header_of depth block limits (Verbatim zs) wasted some few left v = record { kind = record { few = omega arith; eight = λ h. absurd (omega (arith, h)); later = λ h. absurd (omega (arith, h)) }; allowed = omega arith; room = some; left = left }
header_of depth block limits (Fixed ws r) wasted some few left v =
    let e : predictor_order (8 + length ws) ≡ length ws = rw (lt-ltb (8 + length ws) 32 (omega (arith, v.0))) (omega arith) in
    record { kind = record { few = omega (arith, v.0); eight = λ h. omega arith; later = λ h. absurd (omega (arith, h, v.0)) }; allowed = omega (arith, v.0); room = omega (arith, e, v.1); left = left }
header_of depth block limits (Linear ws p r) wasted some few left v =
    let e : predictor_order (31 + length ws) ≡ length ws = rw (le-ltb (31 + length ws) 32 (omega (arith, v.0))) (omega arith) in
    record { kind = record { few = omega (arith, v.1, few); eight = λ h. omega arith; later = λ h. omega (arith, v.0) }; allowed = omega (arith, v.1); room = omega (arith, e, v.2); left = left }

module _ (depth block : ℕ) (limits : Limits) (deep : 1 ≤ depth) (some : 1 ≤ block) (few : limits.linear ≤ 32) (m : Mark) where
  pub subframe_tie : Ties (subframe depth block limits) m (IsSubframe depth block limits) (subframe_spelling depth)
  unfolding subframe subframe_spelling
  subframe_tie = tie (subframe depth block limits) m (IsSubframe depth block limits) (subframe_spelling depth)
      (each_tied (header depth block limits) m (IsHeader depth block limits) spelled_header _ (header_tie depth block limits deep m)
      (λ h ok. each_tied (content h.kind (depth - h.wasted) block limits.partition) _ (Holds (depth - h.wasted) block limits m h.kind) (content_spelling (depth - h.wasted)) _
      (content_tie (depth - h.wasted) block limits _ h.kind ok.kind ok.allowed ok.room)
      (λ c v. (record { left = ok.left; content = v.1 }, rw (← v.0) refl))))
      (λ f v. let ok = header_of depth block limits f.content f.wasted some few v.left v.content in
      some_tied (header depth block limits) m (IsHeader depth block limits) spelled_header _ (record { kind = type_of f.content; wasted = f.wasted }) (header_tie depth block limits deep m) ok
      (some_tied (content (type_of f.content) (depth - f.wasted) block limits.partition) _ (Holds (depth - f.wasted) block limits m (type_of f.content)) (content_spelling (depth - f.wasted)) _ f.content
      (content_tie (depth - f.wasted) block limits _ (type_of f.content) ok.kind ok.allowed ok.room) (refl, v.content) (refl, refl)))

pub subframes_spelled : SubframesAreSpelled
subframes_spelled depth block limits m text f deep some few =
    let t = subframe_tie depth block limits deep some few m in
    (λ s. t.only text f s, λ v. subst (λ (b : List Bool). Spells (subframe depth block limits) m b f) (sym v.1) (t.each f v.0))

pub subframes_again : SubframesAreReadAgain
subframes_again depth block limits m rest f deep some few v = again (subframe depth block limits) m (subframe_spelling depth f) rest f ((subframe_tie depth block limits deep some few m).each f v)
