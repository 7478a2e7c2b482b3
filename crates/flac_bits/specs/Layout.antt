-- A layout: which fields follow one another, and what is refused at which of their ends.
use Rattle.std.specs.Prelude.{nat_eq, ℕ, zero, suc, ◌+◌, ◌*◌, Bool, true, false, cond, List, [], ◌∷◌, Option, Some, None, Result, Ok, Err, ⊤}
use Rattle.flac_bits.specs.Bits.{bit_value}
use Rattle.flac_bits.specs.State.{Mark, Cursor, step, with_short}
use Rattle.flac_bits.specs.declared.why.Why.{Why}
use Rattle.flac_bits.specs.declared.why.Why.TheVariants.{Truncated}

-- Why a read fails. It is a record, so that a proof that splits a result into its cases does not split the reason.
pub record Reason : Type 0 where
  pub why : Why

abbrev pub because : Why → Reason
because why = record { why = why }

-- a rule that may be broken, and the reason that this gives
pub record Rule : Type 0 where
  pub broken : Bool
  pub why : Why

-- the reason of the first rule that is broken
abbrev pub first_broken : List Rule → Option Why
first_broken [] = None
first_broken (rule ∷ rules) = cond rule.broken (Some rule.why) (first_broken rules)

pub data Layout : Type 0 → Type 1 where
  -- nothing more: the value
  done : {A : Type 0} → A → Layout A
  -- a layout after another, which may depend on the value of the first
  bind : {A B : Type 0} → Layout A → (A → Layout B) → Layout B
  -- a number of n bits
  bits : ℕ → Layout ℕ
  -- the number of zeros before a one; None if there is one zero more than the limit, which is then the last bit that
  -- was read
  unary : ℕ → Layout (Option ℕ)
  -- rules at the end of the field before; the first that is broken gives the reason
  judge : List Rule → Layout ⊤
  -- refused at the end of the field before
  refuse : {A : Type 0} → Why → Layout A
  -- what is known of the bits that were read, such as the remainder since the checks began, but not why bits run short
  mark : Layout Mark

infixl 10 ◌>>=◌
abbrev pub ◌>>=◌ : {A B : Type 0} → Layout A → (A → Layout B) → Layout B
l >>= f = bind l f

-- the remainder of what was read since the checks began
abbrev pub check8 : Layout ℕ
check8 = mark >>= λ m. done m.check8

-- the bits up to the next whole byte, and whether they are zeros
abbrev pub align : Layout Bool
align = mark >>= λ m. bits m.unread >>= λ v. done (nat_eq v 0)

-- the layout that a test chooses
abbrev pub choose : {A : Type 0} → Bool → Layout A → Layout A → Layout A
choose true l r = l
choose false l r = r

-- ---- what reading a layout gives: the value and the position after it, or the reason

unfoldable pub next_bit : Cursor → Result (Bool × Cursor) Reason
next_bit c = elim c.left [ [] ↦ Err (because c.mark.short) | b ∷ rest ↦ Ok (b, record { left = rest; mark = step b c.mark }) ]

abbrev pub and_then : {A B : Type 0} → Result (A × Cursor) Reason → (A → Cursor → Result (B × Cursor) Reason) → Result (B × Cursor) Reason
and_then (Ok x) f = f x.0 x.1
and_then (Err e) f = Err e

-- n more bits, after those of the number that was read so far
unfoldable pub number_from : ℕ → ℕ → Cursor → Result (ℕ × Cursor) Reason
number_from zero value c = Ok (value, c)
number_from (suc n) value c = and_then (next_bit c) (λ b d. number_from n (2 * value + bit_value b) d)

-- the next n bits as a number
unfoldable pub number_at : ℕ → Cursor → Result (ℕ × Cursor) Reason
number_at n c = number_from n 0 c

-- the zeros before the next one, with `count` that were read before; None if more than `room` follow
unfoldable pub zeros_from : ℕ → ℕ → Cursor → Result (Option ℕ × Cursor) Reason
zeros_from zero count c = and_then (next_bit c) (λ b d. cond b (Ok (Some count, d)) (Ok (None, d)))
zeros_from (suc room) count c = and_then (next_bit c) (λ b d. cond b (Ok (Some count, d)) (zeros_from room (count + 1) d))

-- the zeros before the next one; None if they are more than the limit
unfoldable pub zeros_at : ℕ → Cursor → Result (Option ℕ × Cursor) Reason
zeros_at limit c = zeros_from limit 0 c

-- the reason of the first broken rule, or the result if no rule is broken
abbrev pub unless_broken : {X : Type 0} → List Rule → Result X Reason → Result X Reason
unless_broken [] read = read
unless_broken (rule ∷ rules) read = cond rule.broken (Err (because rule.why)) (unless_broken rules read)

abbrev pub run : {A : Type 0} → Layout A → Cursor → Result (A × Cursor) Reason
run (done x) c = Ok (x, c)
run (bind l f) c = and_then (run l c) (λ x d. run (f x) d)
run (bits n) c = number_at n c
run (unary limit) c = zeros_at limit c
run (judge rules) c = unless_broken rules (Ok (tt, c))
run (refuse why) c = Err (because why)
run mark c = Ok (with_short Truncated c.mark, c)
