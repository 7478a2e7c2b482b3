-- The head of a stream: how long it is, and what there is after it is written over.
use Rattle.std.proofs.Common.{◌≡◌, ℕ, ◌+◌, ◌*◌, Bool, true, List, [], ◌∷◌, ◌++◌, length, refl, length-append, append_assoc, take, drop, sym, ap, ◌∙◌, arith}
use Rattle.std.proofs.lemmas.List.{take_at, drop_at}
use Rattle.flac_bits.specs.Bits.{unsigned, bits_of, is_nil}
use Rattle.flac_bits.proofs.Fencing.{take_bits, drop_bits}
use Rattle.flac_bits.proofs.Holding.{length-bits_of, bits_of-append}
use Rattle.flac_info.specs.Info.{Info}
use Rattle.flac_meta.specs.Spelling.{each_spelled, point_spelling, info_spelling, content_spelling, header_spelling, block_spelling}
use Rattle.flac_meta.specs.declared.seek_table.SeekPoint.{SeekPoint}
use Rattle.flac_meta.specs.declared.block.Block.{Block}
use Rattle.flac_meta.specs.declared.block.Block.TheVariants as blocks
use Rattle.flac_native.specs.Seeking.{table_of}
use Rattle.flac_native.specs.Writing.{blocks_spelling, head_spelling}
use Rattle.flac_native.proofs.WholeBytes.{length-joined, header_long}
use Rattle.flac_draft.specs.Rewriting.{IsWrittenOver}

info_long : (i : Info) → length i.digest ≡ 16 → length (info_spelling i) ≡ 272
unfolding info_spelling
info_long i e = omega (arith, length-append (bits_of i.digest) [], length-bits_of i.digest, e)

block_alike : (last : Bool) (i j : Info) → length i.digest ≡ 16 → length j.digest ≡ 16 → length (block_spelling last (blocks.StreamInfo i)) ≡ length (block_spelling last (blocks.StreamInfo j))
unfolding block_spelling content_spelling
block_alike last i j e f =
    let head = header_spelling last 0 34 in
    let a = length-append head (info_spelling i ++ []) in
    let b = length-append head (info_spelling j ++ []) in
    omega (arith, a, b, length-append (info_spelling i) [], length-append (info_spelling j) [], info_long i e, info_long j f)

-- ---- seek tables of as many points

points_long : (points : List SeekPoint) → length (each_spelled point_spelling points) ≡ 144 * length points
unfolding each_spelled point_spelling
points_long [] = refl
points_long (p ∷ ps) = omega (arith, length-append (point_spelling p) (each_spelled point_spelling ps), points_long ps)

seek_long : (last : Bool) (points : List SeekPoint) → length (block_spelling last (blocks.SeekTable points)) ≡ 32 + 144 * length points
unfolding block_spelling content_spelling
seek_long last points =
    omega (arith, length-joined (header_spelling last 3 (18 * length points) ∷ each_spelled point_spelling points ∷ []), header_long last 3 (18 * length points), points_long points)

module _ (xs ys : List SeekPoint) (many : length xs ≡ length ys) where
  table_alike : length (blocks_spelling (table_of xs)) ≡ length (blocks_spelling (table_of ys))
  table_alike = go xs ys many
    where
      go : (xs ys : List SeekPoint) → length xs ≡ length ys → length (blocks_spelling (table_of xs)) ≡ length (blocks_spelling (table_of ys))
      go [] [] e = refl
      go [] (y ∷ ys) e = absurd (omega (arith, e))
      go (x ∷ xs) [] e = absurd (omega (arith, e))
      go (x ∷ xs) (y ∷ ys) e =
          let long = seek_long true (x ∷ xs) in
          let as_long = seek_long true (y ∷ ys) in
          omega (arith, e, long, as_long, length-append (block_spelling true (blocks.SeekTable (x ∷ xs))) [], length-append (block_spelling true (blocks.SeekTable (y ∷ ys))) [])

  nil_alike : (list : List Block) → is_nil (list ++ table_of xs) ≡ is_nil (list ++ table_of ys)
  nil_alike [] = go xs ys many
    where
      go : (xs ys : List SeekPoint) → length xs ≡ length ys → is_nil (table_of xs) ≡ is_nil (table_of ys)
      go [] [] e = refl
      go [] (y ∷ ys) e = absurd (omega (arith, e))
      go (x ∷ xs) [] e = absurd (omega (arith, e))
      go (x ∷ xs) (y ∷ ys) e = refl
  nil_alike (b ∷ bs) = refl

  blocks_alike : (list : List Block) → length (blocks_spelling (list ++ table_of xs)) ≡ length (blocks_spelling (list ++ table_of ys))
  blocks_alike [] = table_alike
  blocks_alike (b ∷ bs) =
      let x = length-append (block_spelling (is_nil (bs ++ table_of xs)) b) (blocks_spelling (bs ++ table_of xs)) in
      let y = length-append (block_spelling (is_nil (bs ++ table_of ys)) b) (blocks_spelling (bs ++ table_of ys)) in
      let same = ap (λ last. length (block_spelling last b)) (nil_alike bs) in
      omega (arith, x, y, same, blocks_alike bs)

-- all heads with the same blocks after STREAMINFO, and seek tables of as many points after them, have one length
pub heads_alike : (i j : Info) (list : List Block) (xs ys : List SeekPoint) → length i.digest ≡ 16 → length j.digest ≡ 16 → length xs ≡ length ys → length (head_spelling i (list ++ table_of xs)) ≡ length (head_spelling j (list ++ table_of ys))
heads_alike i j list xs ys e f many =
    let first = is_nil (list ++ table_of xs) in
    let last = is_nil (list ++ table_of ys) in
    let rest = blocks_spelling (list ++ table_of xs) in
    let others = blocks_spelling (list ++ table_of ys) in
    let a = length-append (block_spelling first (blocks.StreamInfo i)) rest in
    let b = length-append (block_spelling last (blocks.StreamInfo j)) others in
    let c = length-append (unsigned 32 0x664C6143) (block_spelling first (blocks.StreamInfo i) ++ rest) in
    let d = length-append (unsigned 32 0x664C6143) (block_spelling last (blocks.StreamInfo j) ++ others) in
    let same = ap (λ k. length (block_spelling k (blocks.StreamInfo i))) (nil_alike xs ys many list) in
    omega (arith, a, b, c, d, same, block_alike last i j e f, blocks_alike xs ys many list)

-- bytes in the place of others as long, after some and before others
pub written_bits : (at : ℕ) (bytes old new : List ℕ) (before first rest : List Bool) → IsWrittenOver at bytes old new → bits_of old ≡ before ++ (first ++ rest) → length before ≡ 8 * at → length first ≡ length (bits_of bytes)
    → bits_of new ≡ before ++ (bits_of bytes ++ rest)
written_bits at bytes old new before first rest over is start long =
    let k = at + length bytes in
    let front : bits_of (take at old) ≡ before = sym (take_bits at old) ∙ ap (take (8 * at)) is ∙ take_at before (first ++ rest) (8 * at) start in
    let far : length (before ++ first) ≡ 8 * k = omega (arith, length-append before first, start, long, length-bits_of bytes) in
    let back : bits_of (drop k old) ≡ rest = sym (drop_bits k old) ∙ ap (drop (8 * k)) (is ∙ sym (append_assoc before first rest)) ∙ drop_at (before ++ first) rest (8 * k) far in
    ap bits_of over.is ∙ bits_of-append (take at old) (bytes ++ drop k old) ∙ ap (λ l. l ++ bits_of (bytes ++ drop k old)) front
    ∙ ap (λ l. before ++ l) (bits_of-append bytes (drop k old) ∙ ap (λ l. bits_of bytes ++ l) back)
