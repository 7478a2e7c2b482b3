-- The contents that a file has had.
use Rattle.std.specs.Prelude.{◌≡◌, ◌⊎◌, ℕ, List, [], ◌∷◌, length, drop, Vec}
use mathlib.Core.Logic.{inl, inr}
use Rattle.std.specs.declared.alloc.Global.{Global}
use Rattle.flac_edit.specs.Device.{Timeline}

-- one of them is this
abbrev pub HadBeen : List (Vec ℕ Global) → List ℕ → Type 0
HadBeen [] bytes = ⊥
HadBeen (v ∷ past) bytes = (bytes ≡ v.items) ⊎ HadBeen past bytes

none_left : (past : List (Vec ℕ Global)) (c : List ℕ) → HadBeen (drop (length past) past) c → ⊥
none_left [] c had = had
none_left (v ∷ past) c had = none_left past c had

-- since the last of them there is what is there now
pub only_bytes : (past : List (Vec ℕ Global)) (bytes c : List ℕ) → (c ≡ bytes) ⊎ HadBeen (drop (length past) past) c → c ≡ bytes
only_bytes past bytes c (inl now) = now
only_bytes past bytes c (inr had) = absurd (none_left past c had)

-- each call is done at once: a crash leaves what is there, or what was there
abbrev pub past_time : List (Vec ℕ Global) → List ℕ → Timeline
past_time past bytes = record {
  moment = length past;
  may_leave = λ c. c ≡ bytes;
  left_since = λ t c. (c ≡ bytes) ⊎ HadBeen (drop t past) c;
}
