-- Frames that were found lie inside the bytes.
use Rattle.std.proofs.Common.{◌≡◌, ◌⊎◌, inl, inr, ℕ, ◌+◌, ◌<◌, ◌≤◌, List, [], ◌∷◌, map, Option, Some, None, length, refl, sym, ap, subst, ◌∙◌, arith}
use Rattle.flac_info.specs.Info.{Info}
use Rattle.flac_header.specs.declared.subset.Profile.{Profile}
use Rattle.flac_salvage.specs.Found.{Spot, Found}
use Rattle.flac_salvage.specs.Kept.{FoundUpTo, FoundIn, AreFound, kept_of}
use Rattle.flac_salvage.specs.Chain.{IsPart}
use Rattle.flac_salvage.specs.declared.find.WholeFrame.{WholeFrame}
use Rattle.flac_salvage.proofs.Finding.{has_bytes}
use Rattle.flac_rescue.specs.Gaps.{AreWithin}

module _ (profile : Profile) (i : Info) (bytes : List ℕ) (block : ℕ) where
  all_within : (from : ℕ) (spots : List Spot) → Found profile i bytes from spots → AreWithin (length bytes) (map (kept_of block) spots)
  all_within from [] found = tt
  all_within from (s ∷ more) found = ((has_bytes profile i bytes s.at s.frame s.len found.0.stands).1, all_within (s.at + s.len) more found.1)

  some_within : (end from : ℕ) (spots : List Spot) → FoundUpTo profile i bytes end from spots → AreWithin (length bytes) (map (kept_of block) spots)
  some_within end from [] found = tt
  some_within end from (s ∷ more) found = ((has_bytes profile i bytes s.at s.frame s.len found.0.stands).1, some_within end (s.at + s.len) more found.1)

  in_within : (from : ℕ) (cut : Option ℕ) (spots : List Spot) → FoundIn profile i bytes from cut spots → AreWithin (length bytes) (map (kept_of block) spots)
  in_within from None spots found = all_within from spots found
  in_within from (Some end) spots found = some_within end from spots found

pub found_within : (profile : Profile) (i : Info) (bytes : List ℕ) (from : ℕ) (cut : Option ℕ) (frames : List WholeFrame) → AreFound profile i bytes from cut frames → AreWithin (length bytes) frames
found_within profile i bytes from cut frames found = subst (λ (l : List WholeFrame). AreWithin (length bytes) l) found.kept (in_within profile i bytes i.greatest_block from cut found.spots found.found)

pub part_within : (end : ℕ) (some all : List WholeFrame) → IsPart some all → AreWithin end all → AreWithin end some
part_within end [] all p w = tt
part_within end (f ∷ some) [] p w = absurd p
part_within end (f ∷ some) (g ∷ all) (inl (e, p)) w = (subst (λ (h : WholeFrame). h.at + h.bytes ≤ end) (sym e) w.0, part_within end some all p w.1)
part_within end (f ∷ some) (g ∷ all) (inr p) w = part_within end (f ∷ some) all p w.1
