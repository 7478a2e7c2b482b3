-- No frame stands from an offset up to another.
use Rattle.std.proofs.Common.{ℕ, ◌+◌, ◌<◌, ◌≤◌, ◌⊎◌, inl, inr, zero, suc, below_more, List, length, arith}
use Rattle.flac_info.specs.Info.{Info}
use Rattle.flac_header.specs.declared.subset.Profile.{Profile}
use Rattle.flac_native.proofs.FramesRead.{none_past}
use Rattle.flac_salvage.specs.Standing.{NoneAt, NoneStands, NoneBetween}

pub none_more : (profile : Profile) (i : Info) (bytes : List ℕ) (from at : ℕ) → NoneBetween profile i bytes from at → NoneAt profile i bytes at → NoneBetween profile i bytes from (at + 1)
none_more profile i bytes from at before here = below_more (λ k. from ≤ k → NoneAt profile i bytes k) at before (λ least. here)

pub lt_or_not : (a b : ℕ) → (a < b) ⊎ (b ≤ a)
lt_or_not a zero = inr (omega arith)
lt_or_not zero (suc b) = inl (omega arith)
lt_or_not (suc a) (suc b) = elim (lt_or_not a b) [
  | inl h ↦ inl (omega (arith, h))
  | inr h ↦ inr (omega (arith, h))
]

pub none_all : (profile : Profile) (i : Info) (bytes : List ℕ) (from at : ℕ) → NoneBetween profile i bytes from at → length bytes ≤ at → NoneStands profile i bytes from
none_all profile i bytes from at before past = λ k least. elim (lt_or_not k at) [
  | inl h ↦ before k h least
  | inr h ↦ none_past profile i bytes k (omega (arith, h, past))
]
