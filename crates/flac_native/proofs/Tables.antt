-- The seek table of frames.
use Rattle.std.proofs.Common.{◌≡◌, ℕ, suc, ◌+◌, ◌*◌, ◌/◌, ◌<◌, ◌≤◌, Bool, true, false, cond, ◌&&◌, nat_lt, List, [], ◌∷◌, ◌++◌, length, append_assoc, Option, Some, None, refl, sym, ap, subst, ◌∙◌, arith}
use Rattle.std.specs.Prelude.{slice_index_or}
use Rattle.std.proofs.lemmas.Bool.Decides.{nat_tests}
use Rattle.std.proofs.lemmas.List.{append-nil}
use Rattle.std.proofs.Math.Nat.{mul-suc}
use Rattle.flac_bits.specs.Bits.{bit_value}
use Rattle.flac_meta.specs.SeekTable.{in_order, follows}
use Rattle.flac_meta.specs.Block.{seen_after}
use Rattle.flac_meta.specs.Listed.{block_fault, fault_after, or_else, list_fault, info_seen}
use Rattle.flac_meta.specs.Valid.{AllAre, FitsFields, IsPoint}
use Rattle.flac_meta.specs.declared.block.Seen.{Seen}
use Rattle.flac_meta.specs.declared.seek_table.SeekPoint.{SeekPoint}
use Rattle.flac_meta.specs.declared.block.Block.{Block}
use Rattle.flac_meta.specs.declared.block.Block.TheVariants as blocks
use Rattle.flac_meta.proofs.Listed.{or_else_none}
use Rattle.flac_bits.specs.declared.why.Why.{Why}
use Rattle.flac_frame.specs.Audio.{Sound}
use Rattle.flac_native.specs.Given.{Cut, blocks_in, size_of, has_point, points_before}
use Rattle.flac_native.specs.Seeking.{point_at, points_from, points_of, table_of, has_table, repeats_table}
use Rattle.flac_native.specs.Writing.{AreFrames}
use Rattle.flac_native.proofs.Planned.{Planned, Fit, block_small}
use Rattle.flac_native.proofs.Encoded.{least_part}

-- ---- points of frames

-- how many bytes frames have
abbrev pub bytes_of : List (List Bool) → ℕ
bytes_of [] = 0
bytes_of (t ∷ ts) = length t / 8 + bytes_of ts

pub bytes_more : (ts : List (List Bool)) (t : List Bool) → bytes_of (ts ++ t ∷ []) ≡ bytes_of ts + length t / 8
bytes_more [] t = omega arith
bytes_more (x ∷ xs) t = omega (arith, bytes_more xs t)

-- the point of one more frame
pub points_more : (p : Cut) (number offset : ℕ) (ts : List (List Bool)) (t : List Bool) → points_from p number offset (ts ++ t ∷ []) ≡ points_from p number offset ts ++ point_at p (number + length ts) (offset + bytes_of ts)
points_more p number offset [] t =
    let n : number ≡ number + 0 = omega arith in
    let o : offset ≡ offset + 0 = omega arith in
    append-nil (point_at p number offset) ∙ ap (λ k. point_at p k offset) n ∙ ap (λ k. point_at p (number + 0) k) o
points_more p number offset (x ∷ xs) t =
    let n : number + 1 + length xs ≡ number + suc (length xs) = omega arith in
    let o : offset + length x / 8 + bytes_of xs ≡ offset + (length x / 8 + bytes_of xs) = omega arith in
    ap (λ l. point_at p number offset ++ l)
    (points_more p (number + 1) (offset + length x / 8) xs t
    ∙ ap (λ k. points_from p (number + 1) (offset + length x / 8) xs ++ point_at p k (offset + length x / 8 + bytes_of xs)) n
    ∙ ap (λ k. points_from p (number + 1) (offset + length x / 8) xs ++ point_at p (number + suc (length xs)) k) o)
    ∙ sym (append_assoc (point_at p number offset) (points_from p (number + 1) (offset + length x / 8) xs) (point_at p (number + suc (length xs)) (offset + (length x / 8 + bytes_of xs))))

module _ (p : Cut) where
  abbrev b : ℕ
  b = p.block_size

  abbrev total : ℕ
  total = p.total

  abbrev has : ℕ → Bool
  has number = has_point b total p.seek_every number

  abbrev the_point : ℕ → ℕ → SeekPoint
  the_point number offset = record { sample = b * number; offset = offset; length = size_of b total number }

  abbrev points_if : Bool → ℕ → ℕ → List SeekPoint
  points_if h number offset = cond h (the_point number offset ∷ []) []

  -- as many as were counted
  pub counted : (number offset : ℕ) (ts : List (List Bool)) → length (points_from p number offset ts) + points_before b total p.seek_every number ≡ points_before b total p.seek_every (number + length ts)
  counted number offset [] =
      let n : number ≡ number + 0 = omega arith in
      let e = ap (λ k. points_before b total p.seek_every k) n in
      omega (arith, e)
  counted number offset (t ∷ ts) =
      let up : suc number ≡ number + 1 = omega arith in
      let e : number + 1 + length ts ≡ number + suc (length ts) = omega arith in
      let more = counted (number + 1) (offset + length t / 8) ts in
      go (has number) refl (ap (λ n. length rest + points_before b total p.seek_every n) up ∙ more ∙ ap (λ n. points_before b total p.seek_every n) e)
    where
      rest : List SeekPoint
      rest = points_from p (number + 1) (offset + length t / 8) ts

      so_many : ℕ
      so_many = points_before b total p.seek_every (number + suc (length ts))

      go : (h : Bool) → has number ≡ h → length rest + (points_before b total p.seek_every number + bit_value (has number)) ≡ so_many
          → length (points_if (has number) number offset ++ rest) + points_before b total p.seek_every number ≡ so_many
      go true e more = rw e (let k = subst (λ h. length rest + (points_before b total p.seek_every number + bit_value h) ≡ so_many) e more in omega (arith, k))
      go false e more = rw e (let k = subst (λ h. length rest + (points_before b total p.seek_every number + bit_value h) ≡ so_many) e more in omega (arith, k))

  -- none where the plan asks for none
  pub no_points : (number offset : ℕ) (ts : List (List Bool)) → nat_lt 0 p.seek_every ≡ false → points_from p number offset ts ≡ []
  unfolding has_point
  no_points number offset [] e = refl
  no_points number offset (t ∷ ts) e = rw e (no_points (number + 1) (offset + length t / 8) ts e)

  -- ---- their order

  abbrev Below : Option ℕ → ℕ → Type 0
  Below None n = Unit {0}
  Below (Some k) n = k < n

  follows_on : (before : Option ℕ) (n : ℕ) → Below before n → follows before n ≡ true
  follows_on None n h = refl
  follows_on (Some k) n h = grind (arith, nat_tests)

  still_below : (before : Option ℕ) (n m : ℕ) → n ≤ m → Below before n → Below before m
  still_below None n m le h = tt
  still_below (Some k) n m le h = omega (arith, le, h)

  pub ordered : (number offset : ℕ) (before : Option ℕ) (ts : List (List Bool)) → 16 ≤ b → Below before (b * number) → in_order before (points_from p number offset ts) ≡ true
  ordered number offset before [] some h = refl
  ordered number offset before (t ∷ ts) some h =
      let up : b * (number + 1) ≡ b * number + b = omega (arith, mul-suc b number) in
      go (has number) (ordered (number + 1) (offset + length t / 8) (Some (b * number)) ts some (omega (arith, up, some)))
      (ordered (number + 1) (offset + length t / 8) before ts some (still_below before (b * number) (b * (number + 1)) (omega (arith, up)) h))
    where
      rest : List SeekPoint
      rest = points_from p (number + 1) (offset + length t / 8) ts

      go : (k : Bool) → in_order (Some (b * number)) rest ≡ true → in_order before rest ≡ true → in_order before (points_if k number offset ++ rest) ≡ true
      go true one other = rw (follows_on before (b * number) h) one
      go false one other = other

  -- ---- their fields

  pub fitting : (number offset : ℕ) (ts : List (List Bool)) → Planned p → number + length ts ≤ blocks_in b total → offset ≤ 16777215 * number
      → ((j : ℕ) → j < length ts → length (slice_index_or ts j []) ≤ 8 * 16777215) → AllAre IsPoint (points_from p number offset ts)
  fitting number offset [] q many few short = tt
  fitting number offset (t ∷ ts) q many few short =
      let here : b * number < total = least_part b total number q.least (omega (arith, many)) in
      let small = block_small p q in
      let blocks = q.blocks in
      let first : length t ≤ 8 * 16777215 = short 0 (omega arith) in
      let point : IsPoint (the_point number offset) = record { sample = omega (arith, here, q.total); offset = omega (arith, few, many, blocks); size = omega (arith, small) } in
      go (has number) point (fitting (number + 1) (offset + length t / 8) ts q (omega (arith, many)) (omega (arith, few, first)) (λ j h. short (suc j) (omega (arith, h))))
    where
      rest : List SeekPoint
      rest = points_from p (number + 1) (offset + length t / 8) ts

      go : (k : Bool) → IsPoint (the_point number offset) → AllAre IsPoint rest → AllAre IsPoint (points_if k number offset ++ rest)
      go true point more = (point, more)
      go false point more = more

-- ---- the table

table_may : (points : List SeekPoint) → length points ≤ 932067 → in_order None points ≡ true → block_fault (blocks.SeekTable points) ≡ None
table_may points few order =
    let short : nat_lt 16777215 (18 * length points) ≡ false = grind (arith, nat_tests) in
    rw (short, order) refl

-- the table of all frames may be written, and its numbers fit their fields
pub table_good : (p : Cut) (a : Sound) (frames : List (List Bool)) → Planned p → Fit p a → AreFrames p a frames → (block_fault (blocks.SeekTable (points_of p frames)) ≡ None) × FitsFields (blocks.SeekTable (points_of p frames))
table_good p a frames q k f =
    let many : length frames ≡ blocks_in p.block_size p.total = f.many ∙ ap (λ n. blocks_in p.block_size n) (sym k.total) in
    let all = counted p 0 0 frames in
    let same : points_before p.block_size p.total p.seek_every (0 + length frames) ≡ points_before p.block_size p.total p.seek_every (blocks_in p.block_size p.total) =
    ap (λ n. points_before p.block_size p.total p.seek_every n) (let e : 0 + length frames ≡ blocks_in p.block_size p.total = omega (arith, many) in e) in
    let few : length (points_of p frames) ≤ 932067 = omega (arith, all, same, q.points) in
    (table_may (points_of p frames) few (ordered p 0 0 None frames q.least tt), fitting p 0 0 frames q (omega (arith, many)) (omega arith) (λ j h. (f.each j h).short))

-- ---- after a list

-- which kinds came after a list
abbrev seen_after_list : Seen → List Block → Seen
seen_after_list seen [] = seen
seen_after_list seen (b ∷ bs) = seen_after_list (seen_after seen b) bs

no_table : (seen : Seen) (list : List Block) → seen.seek_table ≡ false → has_table list ≡ false → (seen_after_list seen list).seek_table ≡ false
no_table seen [] e h = e
no_table seen (blocks.StreamInfo info ∷ bs) e h = no_table (seen_after seen (blocks.StreamInfo info)) bs e h
no_table seen (blocks.Padding n ∷ bs) e h = no_table seen bs e h
no_table seen (blocks.Application id bytes ∷ bs) e h = no_table seen bs e h
no_table seen (blocks.SeekTable points ∷ bs) e h = absurd cc
no_table seen (blocks.VorbisComment found ∷ bs) e h = no_table (seen_after seen (blocks.VorbisComment found)) bs e h
no_table seen (blocks.CueSheet found ∷ bs) e h = no_table seen bs e h
no_table seen (blocks.Picture found ∷ bs) e h = no_table seen bs e h
no_table seen (blocks.Other kind bytes ∷ bs) e h = no_table seen bs e h

then_none : (x y : Option Why) → x ≡ None → y ≡ None → or_else x y ≡ None
then_none x y e f = rw (e, f) refl

one_after : (seen : Seen) (list : List Block) (b : Block) → list_fault seen list ≡ None → fault_after (seen_after_list seen list) b ≡ None → list_fault seen (list ++ b ∷ []) ≡ None
one_after seen [] b e h = then_none (fault_after seen b) None h refl
one_after seen (x ∷ xs) b e h =
    let k = or_else_none (fault_after seen x) (list_fault (seen_after seen x) xs) e in
    then_none (fault_after seen x) (list_fault (seen_after seen x) (xs ++ b ∷ [])) k.0 (one_after (seen_after seen x) xs b k.1 h)

all_after : (list : List Block) (b : Block) → AllAre FitsFields list → FitsFields b → AllAre FitsFields (list ++ b ∷ [])
all_after [] b h f = (f, tt)
all_after (x ∷ xs) b h f = (h.0, all_after xs b h.1 f)

abbrev pub IsGood : List Block → Type 0
IsGood list = (list_fault info_seen list ≡ None) × AllAre FitsFields list

-- a good list, and after it a good table where there is a point
with_table : (list : List Block) (points : List SeekPoint) → IsGood list → has_table list ≡ false → block_fault (blocks.SeekTable points) ≡ None → FitsFields (blocks.SeekTable points) → IsGood (list ++ table_of points)
with_table list [] g none may fits = subst IsGood (sym (append-nil list)) g
with_table list (x ∷ xs) g none may fits =
    let once : fault_after (seen_after_list info_seen list) (blocks.SeekTable (x ∷ xs)) ≡ None = rw (no_table info_seen list refl none) may in
    (one_after info_seen list (blocks.SeekTable (x ∷ xs)) g.0 once, all_after list (blocks.SeekTable (x ∷ xs)) g.1 fits)

pub tabled : (p : Cut) (a : Sound) (list : List Block) (frames : List (List Bool)) → Planned p → Fit p a → AreFrames p a frames → repeats_table p list ≡ false → IsGood list → IsGood (list ++ table_of (points_of p frames))
tabled p a list frames q k f once g =
    let t = table_good p a frames q k f in
    go (nat_lt 0 p.seek_every) refl t.0 t.1
  where
    go : (e : Bool) → nat_lt 0 p.seek_every ≡ e → block_fault (blocks.SeekTable (points_of p frames)) ≡ None → FitsFields (blocks.SeekTable (points_of p frames)) → IsGood (list ++ table_of (points_of p frames))
    go true e may fits = with_table list (points_of p frames) g (subst (λ k. (k && has_table list) ≡ false) e once) may fits
    go false e may fits = subst (λ l. IsGood (list ++ table_of l)) (sym (no_points p 0 0 frames e)) (subst IsGood (sym (append-nil list)) g)
