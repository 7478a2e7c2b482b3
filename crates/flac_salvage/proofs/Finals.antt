-- A refusal that does not come from the end of the bytes is final.
use Rattle.std.proofs.Common.{◌≡◌, inl, inr, ℕ, Bool, Some, None, List, ◌++◌, drop, sym, ap, subst, ◌∙◌, append_assoc}
use Rattle.std.proofs.lemmas.List.{drop-append-le}
use Rattle.flac_bits.specs.Bits.{bits_of}
use Rattle.flac_bits.specs.Layout.{because}
use Rattle.flac_bits.specs.Fence.{StopsIn, read_in}
use Rattle.flac_bits.specs.State.{past}
use Rattle.flac_bits.specs.declared.why.Why.{Why}
use Rattle.flac_bits.specs.declared.why.Why.TheVariants.{Truncated}
use Rattle.flac_bits.proofs.Readings.{at_}
use Rattle.flac_bits.proofs.Meaning.{differ}
use Rattle.flac_bits.proofs.Fences.{again_in, stops_in}
use Rattle.flac_bits.proofs.Holding.{bits_of-append}
use Rattle.flac_info.specs.Info.{Info}
use Rattle.flac_header.specs.declared.subset.Profile.{Profile}
use Rattle.flac_frame.specs.Frame.{Frame, frame}
use Rattle.flac_native.specs.Decoding.{beginning}
use Rattle.flac_salvage.specs.Standing.{RefusalsAreFinal}
use Rattle.flac_native.specs.FrameAt.{IsFrameAt}

module _ (profile : Profile) (i : Info) (why : Why) (other : why ≡ Truncated → ⊥) where
  stops_more : (left more : List Bool) → StopsIn (Some 16777215) (frame profile i None) (beginning Truncated) left why → StopsIn (Some 16777215) (frame profile i None) (beginning Truncated) (left ++ more) why
  stops_more left more (inl (front, rest, is, shows, room)) = inl (front, rest ++ more, ap (λ (l : List Bool). l ++ more) is ∙ append_assoc front rest more, shows, room)
  stops_more left more (inr (inl (is, cut, leaves))) = absurd (other is)
  stops_more left more (inr (inr (is, fills))) = inr (inr (is, (fills.0, fills.1 ++ more, ap (λ (l : List Bool). l ++ more) fills.2 ∙ append_assoc fills.0 fills.1 more, fills.3, fills.4)))

  none_stands : (bytes : List ℕ) → StopsIn (Some 16777215) (frame profile i None) (beginning Truncated) (bits_of bytes) why → (f : Frame) (n : ℕ) → IsFrameAt profile i bytes f n → ⊥
  none_stands bytes stops f n there =
      let again = again_in (Some 16777215) (frame profile i None) (beginning Truncated) there.text (bits_of (drop n bytes)) f there.spelled there.room in
      let e = stops_in (Some 16777215) (frame profile i None) (beginning Truncated) (bits_of bytes) why stops in
      differ (f, at_ (bits_of (drop n bytes)) (past there.text (beginning Truncated))) (because why) (sym again ∙ ap (λ (l : List Bool). read_in (Some 16777215) (frame profile i None) (at_ l (beginning Truncated))) (sym there.split) ∙ e)

pub refusals_are_final : RefusalsAreFinal
refusals_are_final profile i bytes more at why inside refused other = λ f n there.
    let longer = stops_more profile i why other (bits_of (drop at bytes)) (bits_of more) refused in
    let same : bits_of (drop at bytes) ++ bits_of more ≡ bits_of (drop at (bytes ++ more)) = sym (bits_of-append (drop at bytes) more) ∙ ap (λ (l : List ℕ). bits_of l) (sym (drop-append-le at bytes more inside)) in
    none_stands profile i why other (drop at (bytes ++ more)) (subst (λ (l : List Bool). StopsIn (Some 16777215) (frame profile i None) (beginning Truncated) l why) same longer) f n there
