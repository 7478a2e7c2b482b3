-- A frame that is read from bytes in memory.
use Rattle.std.proofs.Common.{◌≡◌, ℕ, ◌+◌, ◌-◌, ◌*◌, ◌/◌, ◌%◌, ◌^◌, ◌<◌, ◌≤◌, zero, suc, min, Bool, true, List, [], ◌∷◌, ◌++◌, length, drop, Option, Some, None, Result, Ok, Err, IfOk, IfErr, IsOkAnd, refl, sym, ap, subst, ◌∙◌, append-nil, length-append, arith}
use Rattle.std.specs.Bool.{⊤}
use Rattle.std.proofs.Math.Seq.{drop-append_seam}
use Rattle.std.proofs.lemmas.List.{length-drop}
use Rattle.flac_bits.specs.Bits.{bits_of}
use Rattle.flac_bits.specs.State.{State, Mark, Cursor, past, the_end, started}
use Rattle.flac_bits.specs.Layout.{because}
use Rattle.flac_bits.specs.Meaning.{Spells}
use Rattle.flac_bits.specs.Fence.{read_in}
use Rattle.flac_bits.specs.Fencing.{lifted}
use Rattle.flac_bits.specs.Within.{MeansWithin}
use Rattle.flac_bits.specs.Reading.{Answers}
use Rattle.flac_bits.specs.declared.why.Why.{Why}
use Rattle.flac_bits.specs.declared.why.Why.TheVariants.{Truncated}
use Rattle.flac_bits.proofs.Readings.{at_}
use Rattle.flac_bits.proofs.Marks.{past-bytes}
use Rattle.flac_bits.proofs.Meaning.{differ, one_way}
use Rattle.flac_bits.proofs.Fences.{again_in, takes_in, refuses_in}
use Rattle.flac_bits.proofs.Within.{reads_within}
use Rattle.flac_bits.proofs.Fencing.{drop_bits}
use Rattle.flac_bits.proofs.Holding.{length-bits_of}
use Rattle.flac_info.specs.Info.{Info, KeepsRules}
use Rattle.flac_header.specs.declared.subset.Profile.{Profile}
use Rattle.flac_frame.specs.Frame.{Frame, frame}
use Rattle.flac_frame.proofs.FrameTie.{frames_spelled, frames_bytes}
use Rattle.flac_native.specs.Decoding.{beginning}
use Rattle.flac_native.specs.Resuming.{at_frames}
use Rattle.flac_native.specs.Stream.{framed, layout}
use Rattle.flac_native.proofs.Deciding.{needs_bits}
use Rattle.flac_native.proofs.Onwards.{as_part}
use Rattle.flac_bits.proofs.Items.{spelled_some}
use Rattle.flac_frame.specs.declared.before.Before.{Before}
use Rattle.flac_native.specs.FrameAt.{IsFrameAt, NoFrameAt}

-- a reader at the first of these bytes
abbrev pub at_bytes : List ℕ → State
at_bytes bytes = record { known = true; errors = 0; raised = 0; after = the_end; most = 8 * length bytes; held = 0; names = []; cursor = record { left = bits_of bytes; mark = beginning Truncated } }

-- a frame's spelling is whole bytes
pub frame_whole : (profile : Profile) (i : Info) (text : List Bool) (f : Frame) → KeepsRules i → Spells (frame profile i None) (beginning Truncated) text f → length text % 8 ≡ 0
frame_whole profile i text f rules h =
    let s = (frames_spelled profile i None (beginning Truncated) text f rules refl refl refl).0 h in
    ap (λ (t : List Bool). length t % 8) s.spelling ∙ frames_bytes i.depth s.form

-- what is left after the first bytes of a list
pub left_after : (bytes : List ℕ) (text left : List Bool) (n : ℕ) → bits_of bytes ≡ text ++ left → length text ≡ 8 * n → left ≡ bits_of (drop n bytes)
left_after bytes text left n split long =
    sym (drop-append_seam text left)
    ∙ ap (λ k. drop k (text ++ left)) long
    ∙ ap (λ t. drop (8 * n) t) (sym split)
    ∙ drop_bits n bytes

-- a frame that was read, and how many bytes it has; or why there is none
pub record FrameRead (profile : Profile) (i : Info) (bytes : List ℕ) (held : Frame) (n : ℕ) (result : Result ⊤ Why) : Type 0 where
  pub found : IfOk result (λ _. IsFrameAt profile i bytes held n)
  pub fault : IfErr result (λ why. NoFrameAt profile i bytes why)
  pub only : (f : Frame) (k : ℕ) → IsFrameAt profile i bytes f k → IsOkAnd result (λ _. (held ≡ f) × (n ≡ k))

module _ (profile : Profile) (i : Info) (bytes : List ℕ) (rules : KeepsRules i) (few : length bytes < 2 ^ 64) where
  abbrev room : ℕ
  room = 16777215

  here : (started (lifted (at_bytes bytes))).cursor ≡ at_ (bits_of bytes) (beginning Truncated)
  here = ap (λ (l : List Bool). at_ l (beginning Truncated)) (append-nil (bits_of bytes))

  -- the place after a frame
  record After (held : Frame) (d : Cursor) : Type 0 where
    n : ℕ
    text : List Bool
    long : length text ≡ 8 * n
    is : d.mark.bytes ≡ n
    at : IsFrameAt profile i bytes held n

  after : (held : Frame) (d : Cursor) → read_in (Some room) (frame profile i None) (at_ (bits_of bytes) (beginning Truncated)) ≡ Ok (held, d) → After held d
  after held d e =
      let t = takes_in (Some room) (frame profile i None) (bits_of bytes) (beginning Truncated) held d e in
      let text : List Bool = t.0 in
      let whole : length text % 8 ≡ 0 = frame_whole profile i text held rules t.2 in
      let n : ℕ = length text / 8 in
      let long : length text ≡ 8 * n = omega (arith, whole) in
      let all : 8 * length bytes ≡ length text + length d.left = sym (length-bits_of bytes) ∙ ap (λ (l : List Bool). length l) t.1 ∙ length-append text d.left in
      let counted : (past text (beginning Truncated)).bytes ≡ min (0 + (length text + 7 - 0) / 8) (2 ^ 64 - 1) = past-bytes text 0 0 (beginning Truncated) refl (omega arith) refl (omega arith) in
      let bytes_is : d.mark.bytes ≡ (past text (beginning Truncated)).bytes = ap (λ (m : Mark). m.bytes) t.4 in
      let rest : d.left ≡ bits_of (drop n bytes) = left_after bytes text d.left n t.1 long in
      record {
        n = n;
        text = text;
        long = long;
        is = omega (arith, counted, bytes_is, long, all, few);
        at = record { text = text; split = t.1 ∙ ap (λ l. text ++ l) rest; within = omega (arith, long, all); spelled = t.2; room = t.3 };
      }

  -- bytes are the same number
  same_count : (f g : Frame) (n k : ℕ) → (a : IsFrameAt profile i bytes f n) → (b : IsFrameAt profile i bytes g k) → (f ≡ g) × (n ≡ k)
  same_count f g n k a b =
      let one = one_way (frame profile i None) (beginning Truncated) a.text b.text (bits_of (drop n bytes)) (bits_of (drop k bytes)) f g a.spelled b.spelled (sym a.split ∙ b.split) in
      let first : length (bits_of bytes) ≡ length a.text + length (bits_of (drop n bytes)) = ap (λ (l : List Bool). length l) a.split ∙ length-append a.text (bits_of (drop n bytes)) in
      let second : length (bits_of bytes) ≡ length b.text + length (bits_of (drop k bytes)) = ap (λ (l : List Bool). length l) b.split ∙ length-append b.text (bits_of (drop k bytes)) in
      let texts : length a.text ≡ length b.text = ap (λ (l : List Bool). length l) one.0 in
      let within = a.within in
      let inside = b.within in
      (one.1, omega (arith, first, second, texts, within, inside, length-bits_of (drop n bytes), length-bits_of (drop k bytes), length-drop n bytes, length-drop k bytes))

  read_answers : (held : Frame) (d : Cursor) (result : Result ⊤ Why) → Answers (λ _. held) (read_in (Some room) (frame profile i None) (at_ (bits_of bytes) (beginning Truncated))) d result
      → FrameRead profile i bytes held d.mark.bytes result
  read_answers held d (Ok u) e =
      let b = after held d e in
      let at : IsFrameAt profile i bytes held d.mark.bytes = subst (λ k. IsFrameAt profile i bytes held k) (sym b.is) b.at in
      record { found = at; fault = tt; only = λ f k there. same_count held f d.mark.bytes k at there }
  read_answers held d (Err why) e = record {
    found = tt;
    fault = refuses_in (Some room) (frame profile i None) (bits_of bytes) (beginning Truncated) why e;
    only = λ f k there.
        let again = again_in (Some room) (frame profile i None) (beginning Truncated) there.text (bits_of (drop k bytes)) f there.spelled there.room in
        differ (f, at_ (bits_of (drop k bytes)) (past there.text (beginning Truncated))) (because why) (sym again ∙ ap (λ (l : List Bool). read_in (Some room) (frame profile i None) (at_ l (beginning Truncated))) (sym there.split) ∙ e);
  }

  -- a call that reads a frame
  pub filled : (src : List ℕ) (s t : State) (before : Option Before) (held : Frame) (result : Result ⊤ Why) (n : ℕ) → src ≡ bytes → s ≡ at_bytes src → before ≡ None
      → MeansWithin (Some 16777215) (λ _. held) (frame profile i before) s t result → 0 ≡ t.errors → n ≡ t.cursor.mark.bytes
      → FrameRead profile i bytes held n result
  filled src s t before held result n same is first means quiet taken =
      let from : s ≡ at_bytes bytes = is ∙ ap (λ (l : List ℕ). at_bytes l) same in
      let none = subst (λ (o : Option Before). MeansWithin (Some 16777215) (λ (_ : ⊤). held) (frame profile i o) s t result) first means in
      let there = subst (λ (q : State). MeansWithin (Some 16777215) (λ (_ : ⊤). held) (frame profile i None) q t result) from none in
      let answers = reads_within (Some 16777215) (λ (_ : ⊤). held) (frame profile i None) (at_bytes bytes) t result there refl (sym quiet) in
      subst (λ k. FrameRead profile i bytes held k result) (sym taken)
      (read_answers held t.cursor result (subst (λ (c : Cursor). Answers (λ (_ : ⊤). held) (read_in (Some 16777215) (frame profile i None) c) t.cursor result) here answers))

-- what was read, by what was returned
module _ {profile : Profile} {i : Info} {bytes : List ℕ} {held : Frame} {n : ℕ} (result : Result ⊤ Why) (r : FrameRead profile i bytes held n result) where
  pub found_ok : (u : ⊤) → result ≡ Ok u → IsFrameAt profile i bytes held n
  found_ok u is = let q = subst (λ x. FrameRead profile i bytes held n x) is r in q.found

  pub only_ok : (u : ⊤) → result ≡ Ok u → (f : Frame) (k : ℕ) → IsFrameAt profile i bytes f k → (held ≡ f) × (n ≡ k)
  only_ok u is = let q = subst (λ x. FrameRead profile i bytes held n x) is r in q.only

  pub fault_err : (why : Why) → result ≡ Err why → NoFrameAt profile i bytes why
  fault_err why is = let q = subst (λ x. FrameRead profile i bytes held n x) is r in q.fault

  pub only_err : (why : Why) → result ≡ Err why → (f : Frame) (k : ℕ) → IsFrameAt profile i bytes f k → ⊥
  only_err why is = let q = subst (λ x. FrameRead profile i bytes held n x) is r in q.only

-- a frame has a bit
pub frame_some : (profile : Profile) (i : Info) (m : Mark) (text : List Bool) (f : Frame) → Spells (frame profile i None) m text f → 0 < length text
frame_some profile i m text f h = spelled_some (layout (at_frames profile i).stand) m text (framed f) (as_part (at_frames profile i).stand i m text f refl refl h) (needs_bits (at_frames profile i) m refl)

drop_past : (bytes : List ℕ) (k : ℕ) → length bytes ≤ k → drop k bytes ≡ []
drop_past [] zero h = refl
drop_past [] (suc k) h = refl
drop_past (x ∷ xs) zero h = absurd (omega (arith, h))
drop_past (x ∷ xs) (suc k) h = drop_past xs k (omega (arith, h))

-- so none is at the end, or after it
pub none_past : (profile : Profile) (i : Info) (bytes : List ℕ) (k : ℕ) → length bytes ≤ k → (f : Frame) (n : ℕ) → IsFrameAt profile i (drop k bytes) f n → ⊥
none_past profile i bytes k past = λ f n at.
    let none : drop k bytes ≡ [] = drop_past bytes k past in
    let long : length (bits_of (drop k bytes)) ≡ length at.text + length (bits_of (drop n (drop k bytes))) = ap (λ (l : List Bool). length l) at.split ∙ length-append at.text (bits_of (drop n (drop k bytes))) in
    let short : length (bits_of (drop k bytes)) ≡ 0 = ap (λ (l : List ℕ). length (bits_of l)) none in
    let some = frame_some profile i (beginning Truncated) at.text f at.spelled in
    absurd (omega (arith, long, short, some))
