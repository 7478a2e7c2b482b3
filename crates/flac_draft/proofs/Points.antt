-- The seek points of a draft.
use Rattle.std.proofs.Common.{◌≡◌, ℕ, zero, suc, ◌+◌, ◌-◌, ◌*◌, ◌/◌, ◌<◌, ◌≤◌, min, Bool, true, false, cond, ◌&&◌, nat_lt, List, [], ◌∷◌, ◌++◌, length, Option, Some, None, replicate, refl, sym, ap, subst, ◌∙◌, mul_comm, arith}
use Rattle.std.proofs.lemmas.Bool.Decides.{nat_tests}
use Rattle.std.proofs.lemmas.List.{append-nil}
use Rattle.std.proofs.lemmas.Nat.{div-mul-add}
use Rattle.std.proofs.Math.Nat.{lt_of_mul-lt-mul_left}
use Rattle.flac_bits.specs.Bits.{bit_value}
use Rattle.flac_meta.specs.Listed.{block_fault}
use Rattle.flac_meta.specs.SeekTable.{placeholder, follows, in_order}
use Rattle.flac_meta.specs.Valid.{AllAre}
use Rattle.flac_meta.specs.declared.seek_table.SeekPoint.{SeekPoint}
use Rattle.flac_meta.specs.declared.block.Block.{Block}
use Rattle.flac_meta.specs.declared.block.Block.TheVariants as blocks
use Rattle.flac_subframe.specs.declared.format.linear.LinearPredictor.{LinearPredictor}
use Rattle.flac_native.specs.Given.{Cut, with_predictors, blocks_in, size_of, has_point, points_before}
use Rattle.flac_native.specs.Seeking.{point_at, points_from, table_of}
use Rattle.flac_native.proofs.Encoded.{all_parts}
use Rattle.flac_native.proofs.Tables.{bytes_of}
use Rattle.flac_draft.specs.Table.{Table, no_table, vacant, reserved, with_place, pointed}
use Rattle.flac_draft.specs.Draft.{bytes_in}
use Rattle.flac_draft.specs.inner.Gathering.{AreBefore}

-- ---- tests in a row

pub both : (a b : Bool) → (a && b) ≡ true → (a ≡ true) × (b ≡ true)
both true b e = (refl, e)
both false b e = absurd cc

never : (a : Bool) → (a && false) ≡ false
never true = refl
never false = refl

pub less : (a b : ℕ) → a < b → nat_lt a b ≡ true
less a b h = grind (arith, nat_tests)

pub under : (a b : ℕ) → nat_lt a b ≡ true → a < b
under a b e = grind (arith, nat_tests)

-- ---- their order

pub in_order_more : (before : Option ℕ) (points : List SeekPoint) (x : SeekPoint) → in_order before points ≡ true → AllAre (λ p. p.sample < x.sample) points → follows before x.sample ≡ true → in_order before (points ++ x ∷ []) ≡ true
in_order_more before [] x order all h = rw h refl
in_order_more before (p ∷ ps) x order all h =
    let here = both (follows before p.sample) (in_order (Some p.sample) ps) order in
    let after : follows (Some p.sample) x.sample ≡ true = rw (less p.sample x.sample all.0) refl in
    rw here.0 (in_order_more (Some p.sample) ps x here.1 all.1 after)

pub still_before : (start n : ℕ) (points : List SeekPoint) → start ≤ n → AreBefore start points → AreBefore n points
still_before start n [] h all = tt
still_before start n (p ∷ ps) h all = (omega (arith, h, all.0), still_before start n ps h all.1)

one_before : (start n : ℕ) (points : List SeekPoint) (x : SeekPoint) → start < n → x.sample ≡ start → AreBefore start points → AreBefore n (points ++ x ∷ [])
one_before start n [] x h e all = (omega (arith, h, e), tt)
one_before start n (p ∷ ps) x h e all = (omega (arith, h, all.0), one_before start n ps x h e all.1)

abbrev the_point : (b start : ℕ) → Table → SeekPoint
the_point b start t = record { sample = start; offset = t.bytes; length = min b (t.total - start) }

-- with the next point they begin before the next frame
pub pointed_before : (b start n : ℕ) (t : Table) → start < n → AreBefore start t.points → AreBefore n (pointed b start t).points
pointed_before b start n t h all = go (nat_lt start t.total && (has_point b t.total t.every (start / b) && nat_lt (length t.points) 932067))
  where
    go : (c : Bool) → AreBefore n (t.points ++ cond c (the_point b start t ∷ []) [])
    go true = one_before start n t.points (the_point b start t) h refl all
    go false = subst (AreBefore n) (sym (append-nil t.points)) (still_before start n t.points (omega (arith, h)) all)

-- a table may be written
pub table_may : (points : List SeekPoint) → length points ≤ 932067 → in_order None points ≡ true → block_fault (blocks.SeekTable points) ≡ None
table_may points few order =
    let short : nat_lt 16777215 (18 * length points) ≡ false = grind (arith, nat_tests) in
    rw (short, order) refl

-- ---- the place for them

vacant_after : (n : ℕ) → in_order (Some placeholder) (replicate n vacant) ≡ true
vacant_after zero = refl
vacant_after (suc n) = vacant_after n

pub vacant_order : (n : ℕ) → in_order None (replicate n vacant) ≡ true
vacant_order zero = refl
vacant_order (suc n) = vacant_after n

pub none_before : (size total n : ℕ) → points_before size total 0 n ≡ 0
unfolding has_point
none_before size total zero = refl
none_before size total (suc n) = rw (none_before size total n) refl

pub none_reserved : (b : ℕ) → reserved b no_table ≡ []
none_reserved b = ap (λ n. replicate n vacant) (none_before b 0 (blocks_in b 0))

-- no place for no table
pub no_place : (b : ℕ) (t : Table) (list : List Block) → t ≡ no_table → with_place b t list ≡ list
no_place b t list is = ap (λ k. with_place b k list) is ∙ ap (λ x. list ++ table_of x) (none_reserved b) ∙ append-nil list

-- ---- the points of frames

pub bytes_alike : (ts : List (List Bool)) → bytes_in ts ≡ bytes_of ts
bytes_alike [] = refl
bytes_alike (t ∷ ts) = ap (λ n. length t / 8 + n) (bytes_alike ts)

pub bytes_more : (ts : List (List Bool)) (t : List Bool) (n : ℕ) → length t ≡ 8 * n → bytes_in (ts ++ t ∷ []) ≡ bytes_in ts + n
bytes_more [] t n e = omega (arith, e)
bytes_more (x ∷ xs) t n e = omega (arith, bytes_more xs t n e)

-- the predictors do not matter
pub points_alike : (p : Cut) (ps : List LinearPredictor) (number offset : ℕ) (ts : List (List Bool)) → points_from (with_predictors p ps) number offset ts ≡ points_from p number offset ts
points_alike p ps number offset [] = refl
points_alike p ps number offset (t ∷ ts) = ap (λ l. point_at p number offset ++ l) (points_alike p ps (number + 1) (offset + length t / 8) ts)

-- as many points as before more frames, or more
grows : (b total every n k : ℕ) → points_before b total every n ≤ points_before b total every (n + k)
grows b total every n zero = let e : n + 0 ≡ n = omega arith in omega (arith, ap (λ j. points_before b total every j) e)
grows b total every n (suc k) =
    let e : n + suc k ≡ suc (n + k) = omega arith in
    omega (arith, ap (λ j. points_before b total every j) e, grows b total every n k)

next_counts : (b total every n : ℕ) → has_point b total every n ≡ true → points_before b total every (n + 1) ≡ points_before b total every n + 1
next_counts b total every n e =
    let up : n + 1 ≡ suc n = omega arith in
    ap (λ j. points_before b total every j) up ∙ ap (λ h. points_before b total every n + bit_value h) e

-- the frames before one that has a point have fewer points than all
pub room_left : (b total every n most : ℕ) → 16 ≤ b → b * n < total → has_point b total every n ≡ true → points_before b total every (blocks_in b total) ≤ most → points_before b total every n < most
room_left b total every n most some here has few =
    let all = all_parts b total some in
    let more : b * n < b * blocks_in b total = omega (arith, here, all) in
    let lt : n < blocks_in b total = lt_of_mul-lt-mul_left b more in
    let rest : n + 1 + (blocks_in b total - (n + 1)) ≡ blocks_in b total = omega (arith, lt) in
    let up = grows b total every (n + 1) (blocks_in b total - (n + 1)) in
    omega (arith, up, ap (λ j. points_before b total every j) rest, next_counts b total every n has, few)

no_point : (b total n : ℕ) → has_point b total 0 n ≡ false
unfolding has_point
no_point b total n = refl

-- a point was asked for, if a frame has one
pub asked_for : (b total every n : ℕ) → has_point b total every n ≡ true → 0 < every
unfolding has_point
asked_for b total every n e = under 0 every (both _ _ e).0

begins : (b n start : ℕ) → 16 ≤ b → start ≡ b * n → start / b ≡ n
begins b n start some e = let k : start ≡ n * b + 0 = omega (arith, e, mul_comm b n) in ap (λ j. j / b) k ∙ div-mul-add n b 0 (omega (arith, some))

-- the next point is that of the frame of a number
module _ (b n start off len total stated : ℕ) (some : 16 ≤ b) (from : start ≡ b * n) (here : b * n < total) where
  abbrev found : Bool → List SeekPoint
  found h = cond h (record { sample = b * n; offset = off; length = size_of b total n } ∷ []) []

  abbrev noted : ℕ → Bool → List SeekPoint
  noted m h = cond (nat_lt start m && (h && nat_lt len 932067)) (record { sample = start; offset = off; length = min b (m - start) } ∷ []) []

  by_test : (h : Bool) → (h ≡ true → len < 932067) → noted total h ≡ found h
  by_test true room =
      let inside : nat_lt start total ≡ true = less start total (omega (arith, from, here)) in
      let few : nat_lt len 932067 ≡ true = less len 932067 (room refl) in
      rw (inside, few) (ap (λ (k : ℕ). record { sample = k; offset = off; length = min b (total - k) } ∷ []) from)
  by_test false room = ap (λ c. cond c (record { sample = start; offset = off; length = min b (total - start) } ∷ []) []) (never (nat_lt start total))

  pub same_point : (every : ℕ) → (0 < every → total ≡ stated) → (has_point b total every n ≡ true → len < 932067) → noted stated (has_point b stated every (start / b)) ≡ found (has_point b total every n)
  same_point zero is room =
      let a : has_point b stated 0 (start / b) ≡ false = no_point b stated (start / b) in
      let c : has_point b total 0 n ≡ false = no_point b total n in
      ap (noted stated) a ∙ ap (λ k. cond k (record { sample = start; offset = off; length = min b (stated - start) } ∷ []) []) (never (nat_lt start stated)) ∙ sym (ap found c)
  same_point (suc every) is room =
      let t : total ≡ stated = is (omega arith) in
      let at : has_point b total (suc every) (start / b) ≡ has_point b total (suc every) n = ap (λ k. has_point b total (suc every) k) (begins b n start some from) in
      subst (λ m. noted m (has_point b m (suc every) (start / b)) ≡ found (has_point b total (suc every) n)) t (ap (noted total) at ∙ by_test (has_point b total (suc every) n) room)
