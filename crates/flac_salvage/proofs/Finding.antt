-- What a search that goes on from each frame to the next has found.
use Rattle.std.proofs.Common.{◌≡◌, inl, inr, ℕ, Bool, ◌+◌, ◌<◌, ◌≤◌, List, [], ◌∷◌, ◌++◌, Option, Some, None, IfSome, length, drop, refl, sym, ap, subst, ◌∙◌, length-append, arith}
use Rattle.flac_info.specs.Info.{Info}
use Rattle.flac_header.specs.declared.subset.Profile.{Profile}
use Rattle.flac_frame.specs.Frame.{Frame}
use Rattle.flac_salvage.specs.Standing.{Stands, NoneBetween, NoneStands, IsNextWhole}
use Rattle.flac_salvage.specs.Found.{Spot, Found}
use Rattle.flac_salvage.specs.Kept.{FoundUpTo, AreFound, kept_of}
use Rattle.flac_salvage.specs.declared.find.WholeFrame.{WholeFrame}
use Rattle.flac_salvage.proofs.NoneBetween.{lt_or_not}
use Rattle.flac_native.proofs.FramesRead.{none_past, frame_some}
use Rattle.flac_bits.specs.Bits.{bits_of}
use Rattle.flac_native.specs.Decoding.{beginning}
use Rattle.flac_bits.specs.declared.why.Why.TheVariants.{Truncated}
use Rattle.std.proofs.lemmas.List.{length-drop, map-append}
use Rattle.flac_bits.proofs.Holding.{length-bits_of}

module _ (profile : Profile) (i : Info) (bytes : List ℕ) where
  -- none up to an offset, and none from there up to another
  none_on : (from at end : ℕ) → NoneBetween profile i bytes from at → NoneBetween profile i bytes at end → NoneBetween profile i bytes from end
  none_on from at end first second = λ k below least. elim (lt_or_not k at) [
    | inl h ↦ first k h least
    | inr h ↦ second k below h
  ]

  -- a frame that is next from an offset on is next from an earlier one up to which there is none
  next_from : (from at start : ℕ) (f : Frame) (n : ℕ) → from ≤ at → NoneBetween profile i bytes from at → IsNextWhole profile i bytes at start f n → IsNextWhole profile i bytes from start f n
  next_from from at start f n later none next = record {
    after = let a = next.after in omega (arith, a, later);
    stands = next.stands;
    least = none_on from at start none next.least;
    only = next.only;
  }

  -- one frame more
  more_found : (from at : ℕ) (spots : List Spot) (s : Spot) → FoundUpTo profile i bytes at from spots → IsNextWhole profile i bytes at s.at s.frame s.len → FoundUpTo profile i bytes (s.at + s.len) from (spots ++ s ∷ [])
  more_found from at [] s found next = (next_from from at s.at s.frame s.len found.0 found.1 next, (omega arith, λ k below least. absurd (omega (arith, below, least))))
  more_found from at (t ∷ more) s found next = (found.0, more_found (t.at + t.len) at more s found.1 next)

  -- no frame more
  rest_none : (from at : ℕ) (spots : List Spot) → FoundUpTo profile i bytes at from spots → NoneStands profile i bytes at → Found profile i bytes from spots
  rest_none from at [] found none = λ k least. elim (lt_or_not k at) [
    | inl h ↦ found.1 k h least
    | inr h ↦ none k h
  ]
  rest_none from at (t ∷ more) found none = (found.0, rest_none (t.at + t.len) at more found.1 none)

  -- none up to a later end
  none_up_to : (from at end : ℕ) (spots : List Spot) → FoundUpTo profile i bytes at from spots → at ≤ end → NoneBetween profile i bytes at end → FoundUpTo profile i bytes end from spots
  none_up_to from at end [] found later none = (let a = found.0 in omega (arith, a, later), none_on from at end found.1 none)
  none_up_to from at end (t ∷ more) found later none = (found.0, none_up_to (t.at + t.len) at end more found.1 later none)

  pub at_first : (from : ℕ) → AreFound profile i bytes from (Some from) []
  at_first from = record { spots = []; found = (omega arith, λ k below least. absurd (omega (arith, below, least))); kept = refl }

  pub and_next : (from at start : ℕ) (f : Frame) (n : ℕ) (frames : List WholeFrame) → AreFound profile i bytes from (Some at) frames → IsNextWhole profile i bytes at start f n
      → AreFound profile i bytes from (Some (start + n)) (frames ++ kept_of i.greatest_block (record { at = start; len = n; frame = f }) ∷ [])
  and_next from at start f n frames found next =
      let s : Spot = record { at = start; len = n; frame = f } in
      record {
        spots = found.spots ++ s ∷ [];
        found = more_found from at found.spots s found.found next;
        kept = map-append (kept_of i.greatest_block) found.spots (s ∷ []) ∙ ap (λ (l : List WholeFrame). l ++ kept_of i.greatest_block s ∷ []) found.kept;
      }

  pub and_none : (from at : ℕ) (frames : List WholeFrame) → AreFound profile i bytes from (Some at) frames → NoneStands profile i bytes at → AreFound profile i bytes from None frames
  and_none from at frames found none = record { spots = found.spots; found = rest_none from at found.spots found.found none; kept = found.kept }

  pub and_end : (from at : ℕ) (frames : List WholeFrame) → AreFound profile i bytes from (Some at) frames → length bytes ≤ at → AreFound profile i bytes from None frames
  and_end from at frames found past = and_none from at frames found (λ k least. none_past profile i bytes k (omega (arith, past, least)))

  pub and_cut : (from at end : ℕ) (frames : List WholeFrame) → AreFound profile i bytes from (Some at) frames → at ≤ end → NoneBetween profile i bytes at end → AreFound profile i bytes from (Some end) frames
  and_cut from at end frames found later none = record { spots = found.spots; found = none_up_to from at end found.spots found.found later none; kept = found.kept }

  -- a frame has a byte, and ends inside the bytes
  has_inside : (at : ℕ) (f : Frame) (n : ℕ) → at < length bytes → Stands profile i bytes at f n → (0 < n) × (at + n ≤ length bytes)
  has_inside at f n inside there =
      let some = frame_some profile i (beginning Truncated) there.text f there.spelled in
      let within = there.within in
      let rest = length-drop at bytes in
      let split : length (bits_of (drop at bytes)) ≡ length there.text + length (bits_of (drop n (drop at bytes))) = ap (λ (l : List Bool). length l) there.split ∙ length-append there.text (bits_of (drop n (drop at bytes))) in
      let left = length-bits_of (drop at bytes) in
      let less = length-bits_of (drop n (drop at bytes)) in
      let gone = length-drop n (drop at bytes) in
      (omega (arith, some, split, left, less, gone), omega (arith, within, rest, inside))

  pub has_bytes : (at : ℕ) (f : Frame) (n : ℕ) → Stands profile i bytes at f n → (0 < n) × (at + n ≤ length bytes)
  has_bytes at f n there = elim (lt_or_not at (length bytes)) [
    | inl h ↦ has_inside at f n h there
    | inr h ↦ absurd (none_past profile i bytes at h f n there)
  ]

  -- the frame that a call found
  pub next_is : (at : ℕ) (held : Frame) (o : Option (ℕ × ℕ)) (p : ℕ × ℕ) → o ≡ Some p → IfSome o (λ p. IsNextWhole profile i bytes at p.0 held p.1) → IsNextWhole profile i bytes at p.0 held p.1
  next_is at held o p is found = subst (λ o. IfSome o (λ (p : ℕ × ℕ). IsNextWhole profile i bytes at p.0 held p.1)) is found

  -- what is kept of a frame that was found next
  pub and_kept : (from at : ℕ) (held f : Frame) (p : ℕ × ℕ) (one : WholeFrame) (frames all : List WholeFrame) → AreFound profile i bytes from (Some at) frames → IsNextWhole profile i bytes at p.0 held p.1
      → f ≡ held → one ≡ kept_of i.greatest_block (record { at = p.0; len = p.1; frame = f }) → all ≡ frames ++ one ∷ []
      → AreFound profile i bytes from (Some (p.0 + p.1)) all
  and_kept from at held f p one frames all found next same is_one is =
      let whole : one ≡ kept_of i.greatest_block (record { at = p.0; len = p.1; frame = held }) = is_one ∙ ap (λ x. kept_of i.greatest_block (record { at = p.0; len = p.1; frame = x })) same in
      subst (λ l. AreFound profile i bytes from (Some (p.0 + p.1)) l) (sym (is ∙ ap (λ (x : WholeFrame). frames ++ x ∷ []) whole)) (and_next from at p.0 held p.1 frames found next)
