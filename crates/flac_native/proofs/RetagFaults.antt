-- The faults of retagging, told apart.
use Rattle.std.proofs.Common.{◌≡◌, ◌≢◌, ◌<◌, ◌≤◌, ◌⊎◌, inl, inr, ℕ, true, false, Result, Ok, Err, Option, Some, None, Bool, List, refl, sym, ap, subst, ◌∙◌, arith}
use Rattle.std.specs.Prelude.{IfErr, IfSome}
use Rattle.flac_bits.specs.State.{Cursor}
use Rattle.flac_bits.specs.Reasons.{of_output}
use Rattle.flac_bits.specs.declared.why.Why.{Why}
use Rattle.flac_bits.specs.declared.why.Why.TheVariants as why
use Rattle.flac_native.specs.Retag.{HasHead, is_before_frames, not_read, not_written, no_memory, too_long}
use Rattle.flac_meta.specs.declared.block.Block.{Block}
use Rattle.flac_native.specs.inner.Retag.{AreKept}
use Rattle.flac_native.specs.declared.fault.Place.{Place}
use Rattle.flac_native.specs.declared.fault.Place.TheVariants as place
use Rattle.flac_native.specs.declared.retagging.RetagFault.{RetagFault}

abbrev pub fault_at : Option Place → Why → RetagFault
fault_at at w = record { at = at; why = w }

-- a fault with a place is none of the target
pub placed : (at : Place) (w : Why) → fault_at (Some at) w ≡ not_written → ⊥
placed at w e = let p = ap (λ (f : RetagFault). f.at) e in absurd cc

pub placed_some : (at : Place) → Some at ≡ None → ⊥
placed_some at e = absurd cc

pub same_place : (at to : Place) → Some at ≡ Some to → at ≡ to
same_place at to e = cc

pub frame_marker : place.Frame 0 ≡ place.Marker → ⊥
frame_marker e = absurd cc

-- a fault before the frames is none of a device after them
pub before_device : (at : Place) (w : Why) → is_before_frames at ≡ true
    → (fault_at (Some at) w ≡ not_read) ⊎ (fault_at (Some at) w ≡ not_written) → ⊥
before_device at w before (inl e) =
    let p : Some at ≡ Some (place.Frame 0) = ap (λ (f : RetagFault). f.at) e in
    let q : at ≡ place.Frame 0 = cc in
    let b : is_before_frames (place.Frame 0) ≡ true = subst (λ x. is_before_frames x ≡ true) q before in
    absurd cc
before_device at w before (inr e) = absurd (placed at w e)

-- nor is one of a reason that is no device's
pub unread_device : (at : Place) (w : Why) → w ≢ why.Read
    → (fault_at (Some at) w ≡ not_read) ⊎ (fault_at (Some at) w ≡ not_written) → ⊥
unread_device at w unread (inl e) = unread (ap (λ (f : RetagFault). f.why) e)
unread_device at w unread (inr e) = absurd (placed at w e)

pub write_no_read : why.Write ≡ why.Read → ⊥
write_no_read e = absurd cc

pub write_memory : why.Write ≡ why.Memory → ⊥
write_memory e = absurd cc

pub read_memory : why.Read ≡ why.Memory → ⊥
read_memory e = absurd cc

pub length_memory : why.BlockLength ≡ why.Memory → ⊥
length_memory e = absurd cc

pub read_no_write : why.Read ≡ why.Write → ⊥
read_no_write e = absurd cc

pub length_no_read : why.BlockLength ≡ why.Read → ⊥
length_no_read e = absurd cc

-- comments that are too long are the fault of no device
pub long_written : too_long ≡ not_written → ⊥
long_written e = let w = ap (λ (f : RetagFault). f.why) e in absurd cc

pub long_device : (too_long ≡ not_read) ⊎ (too_long ≡ not_written) → ⊥
long_device (inl e) = length_no_read (ap (λ (f : RetagFault). f.why) e)
long_device (inr e) = long_written e

pub has_head : {kept : List Block} {rest : List Bool} (c : Cursor) → AreKept false c kept rest → HasHead c.mark c.left
has_head {rest = rest} c are = record { info = are.info; list = are.list; rest = rest; begins = are.input }

pub no_fewer : (m n : ℕ) → n ≡ m → m ≤ n
no_fewer m n e = omega arith

pub no_rise : (old mid new : ℕ) → mid ≡ old → new ≡ old → mid < new → ⊥
no_rise old mid new e f h = absurd (omega arith)

-- a call whose faults without a place are of the target never answers so
pub never_long : {X : Type 0} (r : Result X RetagFault) → IfErr r (λ f. f.at ≡ None → f ≡ not_written) → r ≡ Err too_long → ⊥
never_long (Ok x) h e = absurd cc
never_long (Err f) h e =
    let is : f ≡ too_long = cc in
    long_written (sym is ∙ h (ap (λ (k : RetagFault). k.at) is))

-- ---- a last call that copies the rest

pub both_err : {X : Type 0} {P Q S : RetagFault → Type 0} (r : Result X RetagFault) → ((f : RetagFault) → P f → Q f → S f)
    → IfErr r P → IfErr r Q → IfErr r S
both_err (Ok x) h p q = tt
both_err (Err f) h p q = h f p q

-- with no error of the source, what fails is the target
pub copy_calm : (f : RetagFault) (K A : Type 0) (Q : Place → Type 0) → (f ≡ not_read) ⊎ (f ≡ not_written) → (f.why ≡ why.Read → K → A → ⊥)
    → IfSome f.at (λ at. K → A → f.why ≢ why.Memory → Q at)
copy_calm f K A Q (inl e) none = rw e (λ k a room. absurd (none (ap (λ (x : RetagFault). x.why) e) k a))
copy_calm f K A Q (inr e) none = rw e tt

-- its fault is none of the blocks
pub copy_after : (f : RetagFault) (K : Type 0) → (f ≡ not_read) ⊎ (f ≡ not_written)
    → IfSome f.at (λ at. K → (is_before_frames at ≡ true) ⊎ ((f ≡ not_read) ⊎ (f ≡ no_memory)))
copy_after f K (inl e) = rw e (λ k. inr (inl refl))
copy_after f K (inr e) = rw e tt

pub copy_placeless : (f : RetagFault) → (f ≡ not_read) ⊎ (f ≡ not_written) → f.at ≡ None → f ≡ not_written
copy_placeless f (inl e) none = let p = sym none ∙ ap (λ (x : RetagFault). x.at) e in absurd cc
copy_placeless f (inr e) none = e

pub copy_output : (f : RetagFault) → (f ≡ not_read) ⊎ (f ≡ not_written) → IfSome f.at (λ _. of_output f.why ≡ false)
copy_output f (inl e) = rw e refl
copy_output f (inr e) = rw e tt

-- nor of an allocation
pub copy_memory : (f : RetagFault) → (f ≡ not_read) ⊎ (f ≡ not_written) → f.why ≡ why.Memory → f.at ≢ Some place.Marker
copy_memory f (inl e) is = absurd (read_memory (sym (ap (λ (x : RetagFault). x.why) e) ∙ is))
copy_memory f (inr e) is = absurd (write_memory (sym (ap (λ (x : RetagFault). x.why) e) ∙ is))
