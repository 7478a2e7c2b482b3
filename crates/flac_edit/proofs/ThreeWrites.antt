-- What the three writes of a flip leave.
use Rattle.std.proofs.Common.{◌≡◌, inl, inr, ⊎_elim, ℕ, ◌+◌, ◌≤◌, Bool, List, length, subst, sym, arith}
use Rattle.flac_edit.specs.Device.{Timeline, Fits, Holds, Torn, Whole, LeavesOnly}
use Rattle.flac_edit.specs.inner.Reads.{Reads, IsOldOrNew}
use Rattle.flac_edit.specs.inner.Flips.{Flips}
use Rattle.flac_edit.specs.declared.flipping.Change.{Change}
use Rattle.flac_meta.specs.declared.block.Block.{Block}
use Rattle.flac_edit.proofs.Writes.{torn_same, holds_torn}
use Rattle.flac_edit.proofs.Moments.{weaker, joins}

-- the plan's bytes, as slices have them
module _ (olds news : List (Bool × Block)) (frames : List ℕ) (plan : Change) (file : List ℕ) (flips : Flips olds news frames plan file) (W H Z : List ℕ) (w : W ≡ plan.bytes.items) (h : H ≡ plan.header.items) (z : Z ≡ plan.zeros.items) where
  pub written : (c : List ℕ) → Torn plan.at (length W) file c → IsOldOrNew olds news frames c
  written c torn = inl (flips.old c (subst (λ (l : List ℕ). Torn plan.at (length l) file c) w torn))

  -- after the first two writes, and a third that a crash cuts short
  pub cleaned : (staged flipped c : List ℕ) → Holds file plan.at W staged → Holds staged plan.header_at H flipped → Torn plan.zeros_at (length Z) flipped c → Reads news frames c
  cleaned staged flipped c holds turn torn =
      flips.new
      staged
      flipped
      c
      (subst (λ (l : List ℕ). Holds file plan.at l staged) w holds)
      (subst (λ (l : List ℕ). Holds staged plan.header_at l flipped) h turn)
      (subst (λ (l : List ℕ). Torn plan.zeros_at (length l) flipped c) z torn)

  pub turned : (staged c : List ℕ) → plan.at + length plan.bytes.items ≤ length file → Holds file plan.at W staged → Whole plan.header_at H staged c → IsOldOrNew olds news frames c
  turned staged c fits holds whole =
      ⊎_elim
      (λ same. subst (λ (f : List ℕ). IsOldOrNew olds news frames f) (sym same) (written staged (holds_torn file staged W plan.at (subst (λ (l : List ℕ). plan.at + length l ≤ length file) (sym w) fits) holds)))
      (λ flipped. inr (cleaned staged c c holds flipped (torn_same plan.zeros_at (length Z) c)))
      whole

  -- what is there after all three
  pub last : (staged flipped new : List ℕ) → Holds file plan.at W staged → Holds staged plan.header_at H flipped → plan.zeros_at + length plan.zeros.items ≤ length file
      → length staged ≡ length file → length flipped ≡ length staged → Holds flipped plan.zeros_at Z new → Reads news frames new
  last staged flipped new holds turn fits long longer clean =
      let in_it : plan.zeros_at + length Z ≤ length file = subst (λ (l : List ℕ). plan.zeros_at + length l ≤ length file) (sym z) fits in
      cleaned staged flipped new holds turn (holds_torn flipped new Z plan.zeros_at (omega (arith, in_it, long, longer)) clean)

  pub first : (old mid : Timeline) → LeavesOnly old mid (Torn plan.at (length W) file) → LeavesOnly old mid (IsOldOrNew olds news frames)
  first old mid run = weaker old mid (IsOldOrNew olds news frames) (Torn plan.at (length W) file) written run

  pub second : (old mid new : Timeline) (staged : List ℕ) → Fits plan.at plan.bytes.items file → Holds file plan.at W staged → LeavesOnly old mid (Torn plan.at (length W) file) → LeavesOnly mid new (Whole plan.header_at H staged)
      → LeavesOnly old new (IsOldOrNew olds news frames)
  second old mid new staged fits holds run turn =
      joins old mid new (IsOldOrNew olds news frames) (Whole plan.header_at H staged) (λ c whole. turned staged c fits holds whole) (first old mid run) turn

  pub third : (old mid flip new : Timeline) (staged flipped : List ℕ) → Fits plan.at plan.bytes.items file → Holds file plan.at W staged → Holds staged plan.header_at H flipped → LeavesOnly old mid (Torn plan.at (length W) file)
      → LeavesOnly mid flip (Whole plan.header_at H staged) → LeavesOnly flip new (Torn plan.zeros_at (length Z) flipped) → LeavesOnly old new (IsOldOrNew olds news frames)
  third old mid flip new staged flipped fits holds turn run stored clean =
      joins old flip new (IsOldOrNew olds news frames) (Torn plan.zeros_at (length Z) flipped) (λ c torn. inr (cleaned staged flipped c holds turn torn)) (second old mid flip staged fits holds run stored) clean
