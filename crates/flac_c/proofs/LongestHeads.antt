-- How long the comments and the seek table of a stream are (RFC 9639, sections 8.5 and 8.6).
use Rattle.std.proofs.Common.{◌≡◌, ◌∙◌, refl, sym, ap, subst, ℕ, zero, suc, ◌+◌, ◌-◌, ◌*◌, ◌/◌, ◌%◌, ◌≤◌, ◌<◌, ◌^◌, min, max, inl, inr, arith, mul-suc, mul_comm, div-add-mod', div-mul-le_self, Bool, true, false, nat_eq, nat_lt, List, [], ◌∷◌, length, length-append, fold, Option, Some, None}
use Rattle.std.proofs.lemmas.Bool.{cases_lt}
use Rattle.std.proofs.lemmas.Bool.Decides.{nat_tests}
use Rattle.std.proofs.lemmas.Nat.{le-div, div_below}
use Rattle.flac_bits.specs.Bits.{bit_value}
use Rattle.flac_bits.specs.declared.why.Why.{Why}
use Rattle.flac_meta.specs.Listed.{block_fault, or_else, list_fault, info_seen}
use Rattle.flac_meta.specs.Spelling as s
use Rattle.flac_meta.specs.declared.comments.Comments.{Comments}
use Rattle.flac_meta.specs.declared.seek_table.SeekPoint.{SeekPoint}
use Rattle.flac_meta.specs.declared.block.Block.TheVariants.{VorbisComment, SeekTable}
use Rattle.flac_meta.proofs.Lengths.{faultless}
use Rattle.flac_native.specs.Given.{Cut, blocks_in, size_of, has_point, points_before}
use Rattle.flac_native.specs.Seeking.{points_of, table_of}
use Rattle.flac_native.specs.Writing.{blocks_spelling}
use Rattle.flac_native.proofs.Tables.{counted, no_points}
use Rattle.flac_native.proofs.BlockLengths.{comments_long}
use Rattle.flac_native.proofs.WholeBytes.{length-joined, header_long}
use Rattle.flac_c.specs.Bound.{text_bytes, texts_bytes, most_parts, table_bytes}
use Rattle.flac_c.specs.Encoded.{texts_of, comments_of, blocks_of}
use Rattle.flac_c.specs.declared.tags.FlacProvedText.{FlacProvedText}
use Rattle.flac_c.specs.declared.tags.FlacProvedTags.{FlacProvedTags}

-- ---- comments

pub comment_long : (last : Bool) (c : Comments) → length (s.block_spelling last (VorbisComment c)) ≡ 32 + 8 * s.comments_length c
unfolding s.block_spelling s.content_spelling
comment_long last c =
    omega (arith, length-joined (s.header_spelling last 4 (s.comments_length c) ∷ s.comments_spelling c ∷ []), header_long last 4 (s.comments_length c), comments_long c)

or_none : (o : Option Why) → or_else o None ≡ None → o ≡ None
or_none None e = refl
or_none (Some w) e = absurd cc

texts_fold : (sum : ℕ) (texts : List FlacProvedText) → s.texts_length (texts_of texts) < 2 ^ 24 → fold (λ n t. n + text_bytes t) sum texts ≡ sum + s.texts_length (texts_of texts)
texts_fold sum [] few = omega arith
texts_fold sum (x ∷ xs) few =
    let one : text_bytes x ≡ 4 + length x.bytes.now = omega (arith, few) in
    let rest = texts_fold (sum + text_bytes x) xs (omega (arith, few)) in
    let e : sum + text_bytes x + s.texts_length (texts_of xs) ≡ sum + (4 + length x.bytes.now + s.texts_length (texts_of xs)) = omega (arith, one) in
    rest ∙ e

-- the comments have as many bytes as are counted for them, but for the number of comments
pub comments_counted : (t : FlacProvedTags) → list_fault info_seen (blocks_of t) ≡ None → (s.comments_length (comments_of t) < 2 ^ 24) × (s.comments_length (comments_of t) ≡ 4 + text_bytes t.vendor + texts_bytes t.list.now)
comments_counted t none =
    let few : s.comments_length (comments_of t) < 2 ^ 24 = (faultless (VorbisComment (comments_of t)) (or_none (block_fault (VorbisComment (comments_of t))) none)).small in
    let texts : texts_bytes t.list.now ≡ 0 + s.texts_length (texts_of t.list.now) = texts_fold 0 t.list.now (omega (arith, few)) in
    (few, omega (arith, few, texts))

-- ---- how many parts there are

two_more : (q size : ℕ) → (q + 2) * size ≡ q * size + size + size
two_more q size =
    let e : q + 2 ≡ suc (suc q) = omega arith in
    ap (λ n. n * size) e ∙ mul_comm (suc (suc q)) size ∙ mul-suc size (suc q) ∙ (let k = mul-suc size q in omega (arith, k, mul_comm q size))

-- one of them at most is not full
pub parts_few : (size total : ℕ) → 1 ≤ size → blocks_in size total ≤ total / size + 1
parts_few size total some =
    let whole = div-add-mod' total size in
    let rest : total % size < size = omega (arith, some) in
    let below : total + (size - 1) < (total / size + 2) * size = omega (arith, whole, rest, two_more (total / size) size, some) in
    let lt : blocks_in size total < total / size + 2 = div_below (total + (size - 1)) size (total / size + 2) (omega (arith, some)) below in
    omega (arith, lt)

pub parts_are : (size total : ℕ) → 1 ≤ size → most_parts total size ≡ total / size + 1
parts_are size total some = let e : max size 1 ≡ size = omega (arith, some) in ap (λ n. total / n + 1) e

-- ---- how many points there are

bit_of : (x y n m : ℕ) → (x < y → n + 1 ≤ m) → n ≤ m → n + bit_value (nat_lt x y) ≤ m
bit_of x y n m more le = go (nat_lt x y) refl
  where
    go : (b : Bool) → nat_lt x y ≡ b → n + bit_value b ≤ m
    go true e = let lt : x < y = grind (arith, nat_tests) in more lt
    go false e = omega (arith, le)

module _ (every : ℕ) (some : 1 ≤ every) where
  next : (n : ℕ) → (n + 1) * every ≡ every * n + every
  next n = let e : n + 1 ≡ suc n = omega arith in ap (λ k. k * every) e ∙ mul_comm (suc n) every ∙ mul-suc every n

  -- one part more holds what begins after those before
  part_more : (k y : ℕ) → every * blocks_in every k < y → blocks_in every k + 1 ≤ blocks_in every y
  part_more k y lt = le-div (blocks_in every k + 1) (y + (every - 1)) every (omega (arith, some)) (omega (arith, next (blocks_in every k), lt, some))

  parts_grow : (k y : ℕ) → k ≤ y → blocks_in every k ≤ blocks_in every y
  parts_grow k y le = le-div (blocks_in every k) (y + (every - 1)) every (omega (arith, some)) (omega (arith, div-mul-le_self (k + (every - 1)) every, le))

  parts_cover : (k : ℕ) → k ≤ every * blocks_in every k
  parts_cover k =
      let whole = div-add-mod' (k + (every - 1)) every in
      let rest : (k + (every - 1)) % every < every = omega (arith, some) in
      omega (arith, whole, rest, mul_comm every (blocks_in every k), some)

  has_is : (b total n : ℕ) → has_point b total every n ≡ nat_lt (every * blocks_in every (b * n)) (b * n + size_of b total n)
  unfolding has_point
  has_is b total n = let asked : nat_lt 0 every ≡ true = grind (arith, nat_tests) in rw asked refl

  point_more : (b total n : ℕ) → every * blocks_in every (b * n) < b * n + size_of b total n → blocks_in every (min total (b * n)) + 1 ≤ blocks_in every (min total (b * suc n))
  point_more b total n lt = elim (cases_lt (b * n) total) [
    | inl here ↦
        let same : b * n ≡ min total (b * n) = omega (arith, here) in
        let up : every * blocks_in every (b * n) < min total (b * suc n) = omega (arith, lt, here, mul-suc b n) in
        subst (λ k. blocks_in every k + 1 ≤ blocks_in every (min total (b * suc n))) same (part_more (b * n) (min total (b * suc n)) up)
    | inr after ↦ absurd (omega (arith, parts_cover (b * n), lt, after))
  ]

  point_here : (b total n : ℕ) → blocks_in every (min total (b * n)) + bit_value (has_point b total every n) ≤ blocks_in every (min total (b * suc n))
  point_here b total n =
      let grow : min total (b * n) ≤ min total (b * suc n) = omega (arith, mul-suc b n) in
      subst (λ t. blocks_in every (min total (b * n)) + bit_value t ≤ blocks_in every (min total (b * suc n))) (sym (has_is b total n))
      (bit_of (every * blocks_in every (b * n)) (b * n + size_of b total n) _ _ (point_more b total n) (parts_grow (min total (b * n)) (min total (b * suc n)) grow))

  points_before_few : (b total n : ℕ) → points_before b total every n ≤ blocks_in every (min total (b * n))
  points_before_few b total zero = omega arith
  points_before_few b total (suc n) = omega (arith, points_before_few b total n, point_here b total n)

  points_few : (b total n : ℕ) → points_before b total every n ≤ total / every + 1
  points_few b total n =
      let grow = parts_grow (min total (b * n)) total (omega arith) in
      omega (arith, points_before_few b total n, grow, parts_few every total some)

-- ---- the seek table

point_long : (p : SeekPoint) → length (s.point_spelling p) ≡ 144
unfolding s.point_spelling
point_long p = refl

points_long : (points : List SeekPoint) → length (s.each_spelled s.point_spelling points) ≡ 144 * length points
unfolding s.each_spelled
points_long [] = refl
points_long (p ∷ ps) = omega (arith, length-append (s.point_spelling p) (s.each_spelled s.point_spelling ps), point_long p, points_long ps)

seek_long : (last : Bool) (points : List SeekPoint) → length (s.block_spelling last (SeekTable points)) ≡ 32 + 144 * length points
unfolding s.block_spelling s.content_spelling
seek_long last points =
    omega (arith, length-joined (s.header_spelling last 3 (18 * length points) ∷ s.each_spelled s.point_spelling points ∷ []), header_long last 3 (18 * length points), points_long points)

listed_long : (points : List SeekPoint) → length (blocks_spelling (table_of points)) ≤ 8 * (4 + 18 * length points)
listed_long [] = omega arith
listed_long (p ∷ ps) = omega (arith, length-append (s.block_spelling true (SeekTable (p ∷ ps))) [], seek_long true (p ∷ ps))

counted_of : (total every : ℕ) → 1 ≤ every → table_bytes total every ≡ 4 + 18 * (total / every + 1)
counted_of total every some =
    let asked : nat_eq every 0 ≡ false = grind (arith, nat_tests) in
    rw asked (ap (λ n. 4 + 18 * n) (parts_are every total some))

pub table_long : (p : Cut) (frames : List (List Bool)) → length (blocks_spelling (table_of (points_of p frames))) ≤ 8 * table_bytes p.total p.seek_every
table_long p frames = elim (cases_lt 0 p.seek_every) [
  | inl some ↦
      let all = counted p 0 0 frames in
      let few = points_few p.seek_every some p.block_size p.total (0 + length frames) in
      omega (arith, listed_long (points_of p frames), all, few, counted_of p.total p.seek_every some)
  | inr none ↦
      let asked : nat_lt 0 p.seek_every ≡ false = grind (arith, nat_tests) in
      subst (λ points. length (blocks_spelling (table_of points)) ≤ 8 * table_bytes p.total p.seek_every) (sym (no_points p 0 0 frames asked)) (omega arith)
]
