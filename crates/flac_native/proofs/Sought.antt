-- The points of a seek table name the frames that hold a multiple.
use Rattle.std.proofs.Common.{◌≡◌, ℕ, suc, ◌+◌, ◌-◌, ◌*◌, ◌/◌, ◌%◌, ◌<◌, ◌≤◌, Bool, true, false, cond, ◌&&◌, nat_lt, List, [], ◌∷◌, ◌++◌, length, length-append, append_assoc, take, inl, inr, refl, sym, ap, subst, ◌∙◌, arith}
use Rattle.std.specs.Prelude.{slice_index_or, Contains}
use Rattle.std.proofs.lemmas.Bool.{cases_lt}
use Rattle.std.proofs.lemmas.Bool.Decides.{nat_tests}
use Rattle.std.proofs.lemmas.List.Elements.{Contains-append_right}
use Rattle.std.proofs.Math.Seq.{take-append_seam}
use Rattle.std.proofs.Math.Nat.{div-add-mod, mod-lt, mul-le-mul_left, mul-suc}
use Rattle.flac_bits.specs.Forms.{joined}
use Rattle.flac_meta.specs.Valid.{AllAre}
use Rattle.flac_meta.specs.declared.seek_table.SeekPoint.{SeekPoint}
use Rattle.flac_meta.proofs.Tied.{joined_append}
use Rattle.flac_frame.proofs.FrameTie.{frames_bytes}
use Rattle.flac_native.specs.Given.{Cut, blocks_in, size_of, has_point}
use Rattle.flac_native.specs.Seeking.{points_from}
use Rattle.flac_native.specs.Points.{Holds, NamesFrame, PointsNameFrames}
use Rattle.flac_native.proofs.Planned.{planned, fit}
use Rattle.flac_native.proofs.Gathered.{still_some}

-- ---- multiples

both_true : (a b : Bool) → (a && b) ≡ true → (a ≡ true) × (b ≡ true)
both_true true b e = (refl, e)
both_true false b e = absurd cc

under : (a b : ℕ) → nat_lt a b ≡ true → a < b
under a b e = grind (arith, nat_tests)

is_under : (a b : ℕ) → a < b → nat_lt a b ≡ true
is_under a b h = grind (arith, nat_tests)

both_under : (a b c d : ℕ) → a < b → c < d → (nat_lt a b && nat_lt c d) ≡ true
both_under a b c d h k = rw (is_under a b h, is_under c d k) refl

-- the first multiple at or after a number
at_least : (n m rest k : ℕ) → 0 < n → n * k + rest ≡ m + (n - 1) → rest < n → m ≤ n * k
at_least n m rest k some e small = omega (arith, some, e, small)

pub multiple_after : (n m : ℕ) → 0 < n → m ≤ n * blocks_in n m
multiple_after n m some = at_least n m _ (blocks_in n m) some (div-add-mod (m + (n - 1)) n) (mod-lt (m + (n - 1)) {m = n} some)

too_low : (n m rest number blocks : ℕ) → 0 < n → n * blocks + rest ≡ m + (n - 1) → number < blocks → n * number < m
too_low n m rest number blocks some e h =
    let up : n * suc number ≤ n * blocks = mul-le-mul_left n h in
    omega (arith, some, e, up, mul-suc n number)

-- it is not after another one
pub multiple_first : (n m k : ℕ) → 0 < n → m ≤ n * k → n * blocks_in n m ≤ n * k
multiple_first n m k some h = elim (cases_lt k (blocks_in n m)) [
  | inl lt ↦ let low = too_low n m _ k (blocks_in n m) some (div-add-mod (m + (n - 1)) n) lt in absurd (omega (arith, low, h))
  | inr le ↦ mul-le-mul_left n le
]

module _ (p : Cut) where
  abbrev b : ℕ
  b = p.block_size

  abbrev total : ℕ
  total = p.total

  abbrev has : ℕ → Bool
  has number = has_point b total p.seek_every number

  abbrev the_point : ℕ → ℕ → SeekPoint
  the_point number offset = record { sample = b * number; offset = offset; length = size_of b total number }

  -- a frame that has a point holds a multiple
  held : (number offset : ℕ) → has number ≡ true → Holds (the_point number offset) (p.seek_every * blocks_in p.seek_every (b * number))
  unfolding has_point
  held number offset e =
      let k = both_true _ _ e in
      record { first = multiple_after p.seek_every (b * number) (under 0 p.seek_every k.0); after = under _ _ k.1 }

  -- a frame that holds a multiple has a point
  has_it : (number m : ℕ) → 0 < p.seek_every → b * number ≤ p.seek_every * m → p.seek_every * m < b * number + size_of b total number → has number ≡ true
  unfolding has_point
  has_it number m some from to =
      let first = multiple_first p.seek_every (b * number) m some from in
      both_under 0 p.seek_every (p.seek_every * blocks_in p.seek_every (b * number)) (b * number + size_of b total number) some (omega (arith, first, to))

  -- ---- each point

  abbrev Frames : Type 0
  Frames = List (List Bool)

  module _ (frames : Frames) where
    named : (number offset : ℕ) (before ts : Frames) → frames ≡ before ++ ts → number ≡ length before → 8 * offset ≡ length (joined before)
        → ((j : ℕ) → j < length ts → length (slice_index_or ts j []) % 8 ≡ 0) → AllAre (NamesFrame p frames) (points_from p number offset ts)
    named number offset before [] is many placed whole = tt
    named number offset before (t ∷ ts) is many placed whole =
        let first : length t % 8 ≡ 0 = whole 0 (omega arith) in
        let long = length-append before (t ∷ ts) in
        let all = ap (λ (l : Frames). length l) is in
        let cut : take number frames ≡ before = ap (λ l. take number l) is ∙ ap (λ n. take n (before ++ t ∷ ts)) many ∙ take-append_seam before (t ∷ ts) in
        let then : length (joined (before ++ t ∷ [])) ≡ length (joined before) + length t =
        ap (λ (l : List Bool). length l) (sym (joined_append before (t ∷ []))) ∙ length-append (joined before) (joined (t ∷ [])) ∙ ap (λ n. length (joined before) + n) (length-append t [] ∙ (let z : length t + 0 ≡ length t = omega arith in z)) in
        let point : has number ≡ true → NamesFrame p frames (the_point number offset) = λ e. record {
          number = number;
          among = omega (arith, many, long, all);
          sample = refl;
          offset = placed ∙ ap (λ (l : Frames). length (joined l)) (sym cut);
          samples = refl;
          multiple = blocks_in p.seek_every (b * number);
          holds = held number offset e;
        } in
        go (has number) refl point
        (named (number + 1) (offset + length t / 8) (before ++ t ∷ []) ts (is ∙ sym (append_assoc before (t ∷ []) ts)) (omega (arith, many, length-append before (t ∷ []))) (omega (arith, placed, then, first)) (λ j h. whole (suc j) (omega (arith, h))))
      where
        rest : List SeekPoint
        rest = points_from p (number + 1) (offset + length t / 8) ts

        go : (k : Bool) → has number ≡ k → (has number ≡ true → NamesFrame p frames (the_point number offset)) → AllAre (NamesFrame p frames) rest → AllAre (NamesFrame p frames) (cond (has number) (the_point number offset ∷ []) [] ++ rest)
        go true e point more = rw e (point e, more)
        go false e point more = rw e more

  -- ---- each multiple

  -- the point of a frame is in the table
  found : (number offset i : ℕ) (ts : Frames) → number ≤ i → i < number + length ts → has i ≡ true → (o : ℕ) × Contains (points_from p number offset ts) (the_point i o)
  found number offset i [] low high e = absurd (omega (arith, low, high))
  found number offset i (t ∷ ts) low high e = elim (cases_lt number i) [
    | inl lt ↦
        let more = found (number + 1) (offset + length t / 8) i ts (omega (arith, lt)) (omega (arith, high)) e in
        (more.0, Contains-append_right (cond (has number) (the_point number offset ∷ []) []) (points_from p (number + 1) (offset + length t / 8) ts) (the_point i more.0) more.1)
    | inr le ↦
        let same : number ≡ i = omega (arith, low, le) in
        let here : has number ≡ true = ap has same ∙ e in (
          offset,
          subst (λ k. Contains (cond (has number) (the_point number offset ∷ []) [] ++ points_from p (number + 1) (offset + length t / 8) ts) (the_point k offset)) same
              (rw here (0, omega arith, refl)),
        )
  ]

pub points_name_frames : PointsNameFrames
points_name_frames p a frames good fits f =
    let q = planned p good in
    let k = fit p a fits in
    let many : length frames ≡ blocks_in p.block_size p.total = f.many ∙ ap (λ n. blocks_in p.block_size n) (sym k.total) in
    let whole : (j : ℕ) → j < length frames → length (slice_index_or frames j []) % 8 ≡ 0 = λ j h. let s = f.each j h in ap (λ (l : List Bool). length l % 8) s.spelling ∙ frames_bytes a.bits s.form in
    let each = named p frames 0 0 [] frames refl refl refl whole in (
      each,
      λ m some below.
          let size = p.block_size in
          let i = p.seek_every * m / size in
          let some_size : 0 < size = omega (arith, q.least) in
          let parts = div-add-mod (p.seek_every * m) size in
          let small = mod-lt (p.seek_every * m) {m = size} some_size in
          let from : size * i ≤ p.seek_every * m = omega (arith, parts) in
          let to : p.seek_every * m < size * i + size_of size p.total i = omega (arith, parts, small, below) in
          let at = still_some size p.total i q.least (omega (arith, from, below)) in
          let x = found p 0 0 i frames (omega arith) (omega (arith, at, many)) (has_it p i m some from to) in
          (the_point p i x.0, x.1, record { first = from; after = to }),
    )
