-- The samples of a frame that are handed over.
use Rattle.std.proofs.Common.{◌≡◌, ℕ, zero, suc, ◌+◌, ◌*◌, ◌/◌, ◌<◌, ◌≤◌, min, ℤ, List, [], ◌∷◌, ◌++◌, length, take, drop, refl, sym, ap, ◌∙◌, length-append, arith}
use Rattle.std.proofs.Math.Nat.{le-div_iff_mul-le, mul_comm}
use Rattle.std.proofs.lemmas.Nat.{mul-le}
use Rattle.std.proofs.lemmas.List.{take-append-drop, take_all}
use Rattle.flac_frame.specs.Frame.{Frame}
use Rattle.flac_frame.specs.Interleaved.{row, rows, interleaved}
use Rattle.flac_frame.specs.View.{chunks}
use Rattle.flac_frame.proofs.Interleaved.{length-row}
use Rattle.flac_frame.proofs.Subframes.{length-chunks}
use Rattle.flac_c.specs.Answers.{copied}
use Rattle.flac_c.specs.Cursors.{HandsOver, passed}
use Rattle.flac_c.specs.declared.cursor.FlacProvedCursor.{FlacProvedCursor}

no_rows : (n i : ℕ) → rows [] n i ≡ []
unfolding rows row
no_rows zero i = refl
no_rows (suc n) i = no_rows n (i + 1)

one_more : (n l a b c : ℕ) → c ≡ a + b → a ≡ l → b ≡ n * l → c ≡ suc n * l
one_more n l a b c e h k = omega (arith, e, h, k)

length-rows : (channels : List (List ℤ)) (n i : ℕ) → length (rows channels n i) ≡ n * length channels
unfolding rows
length-rows channels zero i = omega arith
length-rows channels (suc n) i = one_more n (length channels) _ _ _ (length-append (row channels i) (rows channels n (i + 1))) (length-row channels i) (length-rows channels n (i + 1))

nil_of : (xs : List (List ℤ)) → length xs ≡ 0 → xs ≡ []
nil_of [] e = refl
nil_of (x ∷ xs) e = absurd (omega (arith, e))

of_none : (channels : List (List ℤ)) (a b : ℕ) → channels ≡ [] → rows channels a 0 ≡ rows channels b 0
of_none channels a b none = ap (λ l. rows l a 0) none ∙ no_rows a 0 ∙ sym (no_rows b 0) ∙ ap (λ l. rows l b 0) (sym none)

rows_fit : (channels : List (List ℤ)) (size room l : ℕ) → l ≡ length channels → size * l ≤ room → rows channels (min size (room / length channels)) 0 ≡ rows channels size 0
rows_fit channels size room zero is le = of_none channels _ _ (nil_of channels (sym is))
rows_fit channels size room (suc m) is le =
    let fits : size ≤ room / suc m = (le-div_iff_mul-le {k = suc m} {x = size} {y = room} (omega arith)).1 le in
    let same : room / length channels ≡ room / suc m = ap (λ n. room / n) (sym is) in
    let k : min size (room / length channels) ≡ size = omega (arith, same, fits) in
    ap (λ n. rows channels n 0) k

-- a list whose front is all of another
whole_copied : (list out written : List ℤ) → length list ≤ length out → take (length list) written ≡ list → drop (length list) written ≡ drop (length list) out → written ≡ copied list out
whole_copied list out written le front rest =
    let k : min (length list) (length out) ≡ length list = omega (arith, le) in
    let all : take (length list) list ≡ list = take_all (length list) list (omega arith) in
    sym (take-append-drop (length list) written) ∙ ap (λ l. l ++ drop (length list) written) front ∙ ap (λ l. list ++ l) rest
    ∙ sym (ap (λ n. take n list ++ drop n out) k ∙ ap (λ l. l ++ drop (length list) out) all)

module _ (f : Frame) (out : List ℤ) (ch size : ℕ) (channels : ch ≡ length f.channels) (each : size ≡ f.size) where
  many_is : ch * size ≡ length (interleaved f)
  many_is = ap (λ n. n * size) channels ∙ ap (λ n. length f.channels * n) each ∙ mul_comm (length f.channels) f.size ∙ sym (length-rows f.channels f.size 0)

  -- a buffer with room for just these samples has them
  pub filled : (written : List ℤ) (w : ℕ) → length out ≡ ch * size → length written ≡ length out
      → w ≡ length f.channels * min f.size (length out / length f.channels)
      → take w written ≡ rows f.channels (min f.size (length out / length f.channels)) 0
      → written ≡ interleaved f
  filled written w room long count front =
      let k : ℕ = min f.size (length out / length f.channels) in
      let fits : f.size * length f.channels ≤ length out = omega (arith, room, many_is, length-rows f.channels f.size 0) in
      let same : rows f.channels k 0 ≡ interleaved f = rows_fit f.channels f.size (length out) (length f.channels) refl fits in
      let w_is : w ≡ length (interleaved f) = count ∙ mul_comm (length f.channels) k ∙ sym (length-rows f.channels k 0) ∙ ap (λ (l : List ℤ). length l) same in
      sym (take_all w written (omega (arith, w_is, many_is, room, long))) ∙ front ∙ same

module _ (f : Frame) (end : ℕ) (old : FlacProvedCursor) (out : List ℤ) (ch size : ℕ) (channels : ch ≡ length f.channels) (each : size ≡ f.size) where
  all_many : ch * size ≡ length (interleaved f)
  all_many = many_is f out ch size channels each

  pub handed : (new : FlacProvedCursor) (written : List ℤ) (w : ℕ) → ch * size ≤ length out
      → w ≡ length f.channels * min f.size (length out / length f.channels)
      → take w written ≡ rows f.channels (min f.size (length out / length f.channels)) 0
      → drop w written ≡ drop w out → new ≡ passed old f end → HandsOver f end old new out written (ch * size)
  handed new written w le count front rest moved =
      let k : ℕ = min f.size (length out / length f.channels) in
      let fits : f.size * length f.channels ≤ length out = omega (arith, le, all_many, length-rows f.channels f.size 0) in
      let same : rows f.channels k 0 ≡ interleaved f = rows_fit f.channels f.size (length out) (length f.channels) refl fits in
      let w_is : w ≡ length (interleaved f) = count ∙ mul_comm (length f.channels) k ∙ sym (length-rows f.channels k 0) ∙ ap (λ (l : List ℤ). length l) same in
      let short : length (interleaved f) ≤ length out = omega (arith, le, all_many) in
      let head : take (length (interleaved f)) written ≡ interleaved f = ap (λ n. take n written) (sym w_is) ∙ front ∙ same in
      let tail : drop (length (interleaved f)) written ≡ drop (length (interleaved f)) out = ap (λ n. drop n written) (sym w_is) ∙ rest ∙ ap (λ n. drop n out) w_is in
      record {
        many = all_many;
        given = λ _. (whole_copied (interleaved f) out written short head tail, moved);
        kept = λ lt. absurd (omega (arith, lt, le));
      }

  pub not_handed : length out < ch * size → HandsOver f end old old out out (ch * size)
  not_handed lt = record { many = all_many; given = λ le. absurd (omega (arith, lt, le)); kept = λ _. (refl, refl) }

-- a frame has at most 8 channels, of at most 65535 samples each
pub few_samples : (ch size n block : ℕ) (samples : List ℤ) → ch ≡ length (chunks n block samples) → size ≡ block → n ≤ 8 → block ≤ 65535 → ch * size ≤ 524280
few_samples ch size n block samples is each few short =
    let c : ch ≤ 8 = omega (arith, is, length-chunks n block samples, few) in
    let s : size ≤ 65535 = omega (arith, each, short) in
    omega (arith, mul-le ch size 8 65535 c s)
