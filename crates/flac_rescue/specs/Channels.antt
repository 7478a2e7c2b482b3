-- Channels of samples, to which those of frames are added, or silence (RFC 9639, section 9).
use Rattle.std.specs.Prelude.{ℕ, ℤ, pos, List, [], ◌∷◌, ◌++◌, map, replicate, ◌≡◌, Vec}
use Rattle.flac_frame.specs.Frame.{Frame}
use Rattle.std.specs.declared.alloc.Global.{Global}

-- each channel's samples, and after them those that it has in a frame
abbrev pub extended : (channels more : List (List ℤ)) → List (List ℤ)
extended [] more = []
extended (c ∷ cs) [] = c ∷ cs
extended (c ∷ cs) (m ∷ ms) = (c ++ m) ∷ extended cs ms

-- vectors of samples that have those of a frame after their own
abbrev pub IsExtended : (old : List (Vec ℤ Global)) → Frame → (new : List (Vec ℤ Global)) → Type 0
IsExtended old f new = map (λ c. c.items) new ≡ extended (map (λ c. c.items) old) f.channels

-- the same, whatever number of bytes the frame has
abbrev pub IsExtendedBy : (old new : List (Vec ℤ Global)) → Frame → ℕ → Type 0
IsExtendedBy old new f n = IsExtended old f new

-- and after them so many samples of silence
abbrev pub with_silence : ℕ → (channels : List (List ℤ)) → List (List ℤ)
with_silence n [] = []
with_silence n (c ∷ cs) = (c ++ replicate n (pos 0)) ∷ with_silence n cs
