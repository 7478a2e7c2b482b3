-- The predictors of a block's planes: those given, and after them those that a search found.
use Rattle.std.proofs.Common.{◌≡◌, ◌≤◌, refl, ap, arith, ℕ, zero, suc, Bool, List, [], ◌∷◌, length, All, Option, Some, None, Vec, Global, Result, Ok, Err, IfOk}
use Rattle.std.specs.Prelude.{slice_index_or, ⊤, MatchOption}
use Rattle.flac_bits.specs.declared.why.Why.{Why}
use Rattle.flac_header.specs.declared.subset.Profile.{Profile}
use Rattle.flac_subframe.specs.declared.format.linear.LinearPredictor.{LinearPredictor}
use Rattle.flac_subframe.specs.format.Handed.{AreWithin}
use Rattle.flac_frame.specs.Audio.{Sound}
use Rattle.flac_frame.specs.Frame.{Frame, limits_at}
use Rattle.flac_frame.specs.PlaneLists.{Lists, same_list, AreAllWithin}
use Rattle.flac_native.specs.Writing.{SpellsLeastByPlane}
use Rattle.flac_predict.specs.Found.{IsPrefixOf, IsFoundAfter}
use Rattle.flac_predict.specs.declared.search.Search.{Search}
use Rattle.flac_predict.proofs.Lists.{begins, found_none, all_within}
use Rattle.flac_predict.proofs.Longer.{more_shorten}
use Rattle.flac_encoder.specs.declared.block_search.BlockSearch.{BlockSearch}
use Rattle.flac_encoder.specs.Pushing.{SpellsLeastFound, IsLeastOfPlanesAt, IsLeastFoundAt, FoundShorten}

-- a search for blocks of a size has room for shorter ones
pub room_in : (o : Option BlockSearch) (n size : ℕ) → MatchOption o ⊤ (λ s. s.finder ≡ size) → n ≤ size → MatchOption o ⊤ (λ s. n ≤ s.finder)
room_in None n size h le = tt
room_in (Some s) n size h le = omega (arith, h, le)

-- the list of a plane among those of the first planes, or the one for the others
at_plane : (P : List LinearPredictor → Type 0) (others : List LinearPredictor) (lists : List (List LinearPredictor)) (plane : ℕ) → P others → All P lists → P (slice_index_or lists plane others)
at_plane P others [] plane o h = o
at_plane P others (l ∷ lists) zero o h = h 0 l (omega arith)
at_plane P others (l ∷ lists) (suc plane) o h = at_plane P others lists plane o (λ j d lt. h (suc j) d (omega (arith, lt)))

module _ (given : List LinearPredictor) (lists : List (List LinearPredictor)) (after : All (IsFoundAfter given) lists) where
  pub found_at : (plane : ℕ) → IsFoundAfter given (slice_index_or lists plane given)
  found_at plane = at_plane (IsFoundAfter given) given lists plane (found_none given given refl) after

  pub found_made : (effort : Search) (a : Sound) (number : ℕ) (r : Result (Vec ℕ Global) Why) → IfOk r (λ v. IsLeastOfPlanesAt (λ plane. slice_index_or lists plane given) a number v.items)
      → IfOk r (λ v. IsLeastFoundAt (Some effort) given a number v.items)
  found_made effort a number (Err e) h = tt
  found_made effort a number (Ok v) h = ((λ plane. slice_index_or lists plane given), found_at, h)

  pub within_at : (p : Profile) (rate : ℕ) → AreWithin (limits_at p rate).linear given → AreAllWithin (limits_at p rate).linear (λ plane. slice_index_or lists plane given)
  within_at p rate few plane = at_plane (AreWithin (limits_at p rate).linear) given lists plane few (all_within p rate given lists few after)

begins_after : (given list : List LinearPredictor) → IsFoundAfter given list → IsPrefixOf given list
begins_after given list (copy, same, more) = begins given copy list same more

shorter : (front lists : Lists) (a : Sound) (b : Frame) (f g : List Bool) → ((plane : ℕ) → IsPrefixOf (front plane) (lists plane)) → SpellsLeastByPlane front a b f → SpellsLeastByPlane lists a b g → length g ≤ length f
shorter front lists a b f g begin x y =
    let le = more_shorten front lists a b.size b.number b.channels x.form y.form begin x.least y.least in
    omega (arith, le, ap (λ (k : List Bool). length k) x.spelling, ap (λ (k : List Bool). length k) y.spelling)

found_for : (effort : Option Search) (ps : List LinearPredictor) (a : Sound) (f : Frame) (text : List Bool) → SpellsLeastFound effort ps a f text → (lists : Lists) × ((plane : ℕ) → IsPrefixOf ps (lists plane)) × SpellsLeastByPlane lists a f text
found_for None ps a f text h = (same_list ps, (λ plane. begins_after ps ps (found_none ps ps refl)), h)
found_for (Some effort) ps a f text h = (h.0, (λ plane. begins_after ps (h.0 plane) (h.1 plane)), h.2)

-- what a search adds makes no frame longer
pub found_shorten : FoundShorten
found_shorten effort ps a f without after x y =
    let found = found_for effort ps a f after y in
    shorter (same_list ps) found.0 a f without after found.1 x found.2
