-- What a crash may leave of a file that had some calls.
use Rattle.std.specs.Prelude.{◌≡◌, ◌≤◌, ◌⊎◌, ℕ, ◌+◌, cond, nat_le, List, [], ◌∷◌, ◌++◌, length, take, drop, Vec}
use Rattle.std.proofs.Common.{inl, refl, sym, subst, arith}
use Rattle.std.proofs.lemmas.List.{take_all}
use Rattle.flac_edit.specs.Device.{Timeline, Torn, Whole, IsWord}
use Rattle.flac_edit.specs.declared.crash_file.Call.{Call}
use Rattle.flac_edit.specs.declared.crash_file.Call.TheVariants as call
use Rattle.std.specs.declared.alloc.Global.{Global}

-- A file after some calls: what is stored for certain, the writes since, the last one first, each an offset and bytes,
-- and what a read returns.
pub record Image : Type 0 where
  pub stored : List ℕ
  pub writes : List (ℕ × List ℕ)
  pub shown : List ℕ

-- the bytes with others at an offset, if they fit
abbrev pub written : ℕ → List ℕ → List ℕ → List ℕ
written at bytes old = cond (nat_le (at + length bytes) (length old)) (take at old ++ (bytes ++ drop (at + length bytes) old)) old

abbrev pub after_one : Image → Call → Image
after_one i (call.Write at bytes) = record { stored = i.stored; writes = (at, bytes.items) ∷ i.writes; shown = written at bytes.items i.shown }
after_one i call.Sync = record { stored = i.shown; writes = []; shown = i.shown }

abbrev pub after_calls : Image → List Call → Image
after_calls i [] = i
after_calls i (c ∷ cs) = after_calls (after_one i c) cs

-- after these calls of a file that had this content, all of it stored
abbrev pub image_of : List ℕ → List Call → Image
image_of first calls = after_calls (record { stored = first; writes = []; shown = first }) calls

abbrev pub shown_after : List ℕ → List Call → List ℕ
shown_after first calls = (image_of first calls).shown

-- a write that a crash cuts short: torn at any byte, unless it is a word
pub record IsCut (at : ℕ) (bytes old new : List ℕ) : Type 0 where
  pub torn : Torn at (length bytes) old new
  pub whole : IsWord at (length bytes) → Whole at bytes old new

-- what writes, each done or cut short, make of what is stored
abbrev pub IsLeft : List ℕ → List (ℕ × List ℕ) → List ℕ → Type 0
IsLeft stored [] c = c ≡ stored
IsLeft stored (w ∷ ws) c = (d : List ℕ) × IsLeft stored ws d × ((c ≡ written w.0 w.1 d) ⊎ IsCut w.0 w.1 d c)

abbrev pub MayLeave : List ℕ → List Call → List ℕ → Type 0
MayLeave first calls c = IsLeft (image_of first calls).stored (image_of first calls).writes c

-- a moment is a number of calls
abbrev pub crash_time : List ℕ → List Call → Timeline
crash_time first calls = record {
  moment = length calls;
  may_leave = λ c. MayLeave first calls c;
  left_since = λ t c. (k : ℕ) × (t ≤ k) × (k ≤ length calls) × MayLeave first (take k calls) c;
}

-- ---- the laws of a device

pub counts : (first : List ℕ) (calls : List Call) (t : ℕ) (c : List ℕ) → t ≤ length calls → MayLeave first calls c → (crash_time first calls).left_since t c
counts first calls t c le now = (length calls, le, omega arith, subst (λ (l : List Call). MayLeave first l c) (sym (take_all (length calls) calls (omega arith))) now)

pub only : (first : List ℕ) (calls : List Call) (c : List ℕ) → (crash_time first calls).left_since (length calls) c → MayLeave first calls c
only first calls c (k, le, within, may) = subst (λ (l : List Call). MayLeave first l c) (take_all k calls le) may

shows : (i : Image) (calls : List Call) → IsLeft i.stored i.writes i.shown → IsLeft (after_calls i calls).stored (after_calls i calls).writes (after_calls i calls).shown
shows i [] left = left
shows i (call.Write at bytes ∷ cs) left = shows (after_one i (call.Write at bytes)) cs (i.shown, left, inl refl)
shows i (call.Sync ∷ cs) left = shows (after_one i call.Sync) cs refl

pub leaves_shown : (first : List ℕ) (calls : List Call) → MayLeave first calls (shown_after first calls)
leaves_shown first calls = shows (record { stored = first; writes = []; shown = first }) calls refl

-- after these calls a write of these bytes at this offset was noted
abbrev pub NotesWrite : (at : ℕ) → (bytes : List ℕ) → (before after : List Call) → Type 0
NotesWrite at bytes before after = (v : Vec ℕ Global) × (v.items ≡ bytes) × (after ≡ before ++ call.Write at v ∷ [])
