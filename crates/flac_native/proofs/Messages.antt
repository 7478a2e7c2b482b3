-- Samples that are written one after another.
use Rattle.std.proofs.Common.{◌≡◌, ◌≤◌, ℕ, zero, suc, ℤ, pos, ◌+◌, ◌<◌, List, [], ◌∷◌, ◌++◌, length, take, drop, refl, sym, ap, ◌∙◌, append_assoc, subst, arith}
use Rattle.std.proofs.lemmas.List.{append-nil, take-take, length-take-le, take_at, drop_at}
use Rattle.std.proofs.lemmas.Slice.{take-put_mid}
use Rattle.std.proofs.Math.Seq.{take-add}
use Rattle.std.specs.Prelude.{slice_index_or}
use borrow.Rule.Slice.PartMut.{put_mid}
use Rattle.flac_frame.specs.Audio.{Sound, samples_each}
use Rattle.flac_frame.specs.Encoding.{block_of}
use Rattle.flac_native.specs.Given.{sound_message}
use Rattle.flac_native.specs.Message.{sample_width, sample_bytes, row_bytes, rows_bytes}
use Rattle.md5.specs.Md5.{Holds}
use Rattle.md5.specs.declared.Md5.{Md5}

-- the front of a part that is written
pub part_put : (at w k : ℕ) (xs ys : List ℕ) → at ≤ length xs → w ≤ length ys → take (at + w) (put_mid at k xs ys) ≡ take at xs ++ take w ys
part_put at w k xs ys inside few =
    let n = at + length ys in
    let front = take at xs in
    let long : length front ≡ at = length-take-le at xs inside in
    sym (take-take (at + w) n (put_mid at k xs ys) (omega (arith, few))) ∙ ap (take (at + w)) (take-put_mid at k xs ys n refl inside) ∙ take-add at w (front ++ ys)
    ∙ ap (λ l. l ++ take w (drop at (front ++ ys))) (take_at front ys at long) ∙ ap (λ l. front ++ take w l) (drop_at front ys at long)

-- the samples of one more channel
pub row_more : (width : ℕ) (channels : List (List ℤ)) (i c : ℕ) → c < length channels
    → row_bytes width (take (c + 1) channels) i ≡ row_bytes width (take c channels) i ++ sample_bytes width (slice_index_or (slice_index_or channels c []) i (pos 0))
unfolding row_bytes
row_more width [] i c lt = absurd (omega (arith, lt))
row_more width (x ∷ xs) i zero lt = append-nil (sample_bytes width (slice_index_or x i (pos 0)))
row_more width (x ∷ xs) i (suc c) lt =
    let more = row_more width xs i c (omega (arith, lt)) in
    let e : suc c + 1 ≡ suc (c + 1) = omega arith in
    rw e (ap (λ r. sample_bytes width (slice_index_or x i (pos 0)) ++ r) more ∙ sym (append_assoc (sample_bytes width (slice_index_or x i (pos 0))) (row_bytes width (take c xs) i) _))

-- the samples at one more index
pub rows_more : (width : ℕ) (channels : List (List ℤ)) (n i : ℕ) → rows_bytes width channels (n + 1) i ≡ rows_bytes width channels n i ++ row_bytes width channels (i + n)
unfolding rows_bytes
rows_more width channels zero i = append-nil (row_bytes width channels i) ∙ ap (λ k. row_bytes width channels k) (let e : i ≡ i + 0 = omega arith in e)
rows_more width channels (suc n) i =
    let more = rows_more width channels n (i + 1) in
    let e : i + 1 + n ≡ i + suc n = omega arith in
    let s : suc n + 1 ≡ suc (n + 1) = omega arith in
    rw s (ap (λ r. row_bytes width channels i ++ r) (more ∙ ap (λ k. rows_bytes width channels n (i + 1) ++ row_bytes width channels k) e) ∙ sym (append_assoc (row_bytes width channels i) (rows_bytes width channels n (i + 1)) (row_bytes width channels (i + suc n))))

-- the samples at more indices
pub rows_split : (width : ℕ) (channels : List (List ℤ)) (n k i : ℕ) → rows_bytes width channels (n + k) i ≡ rows_bytes width channels n i ++ rows_bytes width channels k (i + n)
unfolding rows_bytes
rows_split width channels zero k i =
    let e : i ≡ i + 0 = omega arith in
    let z : 0 + k ≡ k = omega arith in
    rw z (ap (λ j. rows_bytes width channels k j) e)
rows_split width channels (suc n) k i =
    let more = rows_split width channels n k (i + 1) in
    let e : i + 1 + n ≡ i + suc n = omega arith in
    let s : suc n + k ≡ suc (n + k) = omega arith in
    rw s (ap (λ r. row_bytes width channels i ++ r) (more ∙ ap (λ j. rows_bytes width channels n (i + 1) ++ rows_bytes width channels k j) e) ∙ sym (append_assoc (row_bytes width channels i) (rows_bytes width channels n (i + 1)) (rows_bytes width channels k (i + suc n))))

-- ---- samples that are fed block by block

abbrev pub fed_rows : Sound → (n start : ℕ) → List ℕ
fed_rows a n start = rows_bytes (sample_width a.bits) a.channels n start

pub fed_none : (a : Sound) (h : Md5) → Holds h [] → Holds h (fed_rows a 0 0)
unfolding rows_bytes
fed_none a h e = e

-- a block of n more after the first ones
pub fed_more : (a : Sound) (h k : Md5) (start more size : ℕ) → size ≡ more → ((m : List ℕ) → Holds h m → Holds k (m ++ fed_rows a size start)) → Holds h (fed_rows a start 0) → Holds k (fed_rows a (start + more) 0)
fed_more a h k start more size e feeds held =
    let so : Holds k (fed_rows a start 0 ++ fed_rows a more start) = subst (λ n. Holds k (fed_rows a start 0 ++ fed_rows a n start)) e (feeds (fed_rows a start 0) held) in
    let z : 0 + start ≡ start = omega arith in
    let rows : fed_rows a (start + more) 0 ≡ fed_rows a start 0 ++ fed_rows a more start = rows_split (sample_width a.bits) a.channels start more 0 ∙ ap (λ j. fed_rows a start 0 ++ fed_rows a more j) z in
    subst (Holds k) (sym rows) so

-- all blocks
pub fed_all : (a : Sound) (h : Md5) (start : ℕ) → start ≡ samples_each a.channels → Holds h (fed_rows a start 0) → Holds h (sound_message a)
unfolding sound_message
fed_all a h start e held = subst (λ n. Holds h (fed_rows a n 0)) e held

-- a block of two channels
pub two_parts : (start size : ℕ) (channels : List (List ℤ)) → length channels ≡ 2 → take size (drop start (slice_index_or channels 0 [])) ∷ take size (drop start (slice_index_or channels 1 [])) ∷ [] ≡ block_of start size channels
two_parts start size [] two = absurd (omega (arith, two))
two_parts start size (x ∷ []) two = absurd (omega (arith, two))
two_parts start size (x ∷ y ∷ []) two = refl
two_parts start size (x ∷ y ∷ z ∷ zs) two = absurd (omega (arith, two))
