-- Whether a frame stands depends on its own bytes alone.
use Rattle.std.proofs.Common.{◌≡◌, ℕ, ◌+◌, ◌-◌, ◌*◌, ◌≤◌, Bool, List, ◌++◌, length, take, drop, sym, ap, subst, ◌∙◌, append_assoc, length-append, arith}
use Rattle.std.proofs.Math.Seq.{take-append_seam}
use Rattle.std.proofs.lemmas.List.{length-drop, length-take, drop-append-le, take-append-le, take-append-drop}
use Rattle.flac_bits.specs.Bits.{bits_of}
use Rattle.flac_bits.proofs.Holding.{length-bits_of, bits_of-append}
use Rattle.flac_info.specs.Info.{Info}
use Rattle.flac_header.specs.declared.subset.Profile.{Profile}
use Rattle.flac_frame.specs.Frame.{Frame}
use Rattle.flac_native.specs.FrameAt.{IsFrameAt}
use Rattle.flac_salvage.specs.Found.{FramesAreLocal}

module _ (profile : Profile) (i : Info) (xs ys : List ℕ) (f : Frame) (n : ℕ) where
  wider : IsFrameAt profile i xs f n → IsFrameAt profile i (xs ++ ys) f n
  wider at =
      let within = at.within in
      let after : bits_of (drop n xs) ++ bits_of ys ≡ bits_of (drop n (xs ++ ys)) = sym (bits_of-append (drop n xs) ys) ∙ ap (λ (l : List ℕ). bits_of l) (sym (drop-append-le n xs ys within)) in
      record {
        text = at.text;
        split = bits_of-append xs ys ∙ ap (λ (l : List Bool). l ++ bits_of ys) at.split ∙ append_assoc at.text (bits_of (drop n xs)) (bits_of ys) ∙ ap (λ (l : List Bool). at.text ++ l) after;
        within = omega (arith, within, length-append xs ys);
        spelled = at.spelled;
        room = at.room;
      }

  narrower : IsFrameAt profile i (xs ++ ys) f n → n ≤ length xs → IsFrameAt profile i xs f n
  narrower at within =
      let all : List ℕ = xs ++ ys in
      let total : length all ≡ length xs + length ys = length-append xs ys in
      let bits_all : 8 * length all ≡ length at.text + 8 * length (drop n all) = sym (length-bits_of all) ∙ ap (λ (l : List Bool). length l) at.split ∙ length-append at.text (bits_of (drop n all)) ∙ ap (λ k. length at.text + k) (length-bits_of (drop n all)) in
      let left : length (drop n all) ≡ length all - n = length-drop n all in
      let long : length at.text ≡ 8 * n = omega (arith, bits_all, left, total, within) in
      let front : List ℕ = take n xs in
      let some : length front ≡ n = length_front n within in
      let same : length (bits_of front) ≡ length at.text = length-bits_of front ∙ ap (λ k. 8 * k) some ∙ sym long in
      let parts : bits_of all ≡ bits_of front ++ bits_of (drop n all) =
      ap (λ (l : List ℕ). bits_of l) (sym (take-append-drop n all)) ∙ bits_of-append (take n all) (drop n all) ∙ ap (λ (l : List ℕ). bits_of l ++ bits_of (drop n all)) (take-append-le n xs ys within) in
      let is : at.text ≡ bits_of front = same_front at.text (bits_of front) (bits_of (drop n all)) (bits_of (drop n all)) (sym at.split ∙ parts) (sym same) in
      record {
        text = at.text;
        split = ap (λ (l : List ℕ). bits_of l) (sym (take-append-drop n xs)) ∙ bits_of-append front (drop n xs) ∙ ap (λ (l : List Bool). l ++ bits_of (drop n xs)) (sym is);
        within = within;
        spelled = at.spelled;
        room = at.room;
      }
    where
      length_front : (n : ℕ) → n ≤ length xs → length (take n xs) ≡ n
      length_front n h = omega (arith, h, length-take n xs)

      same_front : (a b r s : List Bool) → a ++ r ≡ b ++ s → length a ≡ length b → a ≡ b
      same_front a b r s e long = sym (take-append_seam a r) ∙ ap (λ (l : List Bool). take (length a) l) e ∙ ap (λ k. take k (b ++ s)) long ∙ take-append_seam b s

pub frames_are_local : FramesAreLocal
frames_are_local profile i xs ys at f n inside = (
  λ there. subst (λ (l : List ℕ). IsFrameAt profile i l f n) (sym (drop-append-le at xs ys (omega (arith, inside)))) (wider profile i (drop at xs) ys f n there),
  λ there. narrower profile i (drop at xs) ys f n (subst (λ (l : List ℕ). IsFrameAt profile i l f n) (drop-append-le at xs ys (omega (arith, inside))) there) (omega (arith, inside, length-drop at xs)),
)
