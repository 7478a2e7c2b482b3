-- What ties the content of each kind of block to its spelling.
use Rattle.std.proofs.Common.{◌≡◌, ℕ, zero, suc, ◌+◌, ◌-◌, ◌*◌, ◌^◌, ◌<◌, ◌≤◌, Bool, true, false, not, ◌&&◌, Option, Some, None, List, [], ◌∷◌, ◌++◌, length, refl, sym, ap, ◌∙◌, arith}
use Rattle.std.proofs.lemmas.Bool.{not-false}
use Rattle.flac_bits.specs.Bits.{unsigned, bits_of}
use Rattle.flac_bits.specs.State.{Mark}
use Rattle.flac_bits.specs.Layout.{done, bits}
use Rattle.flac_bits.specs.Lists.{list_of}
use Rattle.flac_bits.specs.Forms.{joined, IsBytes, AreBytes}
use Rattle.flac_bits.specs.inner.Forms.{Ties}
use Rattle.flac_bits.proofs.Ties.{tie, each_tied, some_tied, bytes_tie}
use Rattle.flac_bits.specs.LittleEndian.{little_32, little_bits}
use Rattle.flac_meta.specs.Info.{info_sizes, info_format, stream_info}
use Rattle.flac_meta.specs.Fields.{nothing_left, sized}
use Rattle.flac_meta.specs.SeekTable.{follows, in_order, seek_point, seek_points}
use Rattle.flac_meta.specs.Comments.{texts, comments}
use Rattle.flac_meta.specs.Spelling as s
use Rattle.flac_meta.specs.Valid.{AllAre, IsInfo, IsPoint, IsComments}
use Rattle.flac_meta.specs.declared.seek_table.SeekPoint.{SeekPoint}
use Rattle.flac_meta.specs.declared.comments.Comments.{Comments}
use Rattle.flac_meta.proofs.Infos.{ranges, in_ranges}
use Rattle.flac_meta.proofs.Tied.{less_not, joined_append, part_each, part_some, little_tie, IsText, sized_tie, nothing_tie, InTurn, turn_tie, retie}

-- ---- STREAMINFO

-- the spellings of sizes, format and digest joined
groups : (a b c d e f g h i : List Bool) → joined (a ∷ b ∷ c ∷ d ∷ []) ++ (joined (e ∷ f ∷ g ∷ h ∷ []) ++ joined (i ∷ [])) ≡ joined (a ∷ b ∷ c ∷ d ∷ e ∷ f ∷ g ∷ h ∷ i ∷ [])
groups a b c d e f g h i = ap (λ t. joined (a ∷ b ∷ c ∷ d ∷ []) ++ t) (joined_append (e ∷ f ∷ g ∷ h ∷ []) (i ∷ [])) ∙ joined_append (a ∷ b ∷ c ∷ d ∷ []) (e ∷ f ∷ g ∷ h ∷ i ∷ [])

pub info_tie : (m : Mark) → Ties stream_info m IsInfo s.info_spelling
unfolding stream_info info_sizes info_format s.info_spelling
info_tie m = tie stream_info m IsInfo s.info_spelling
    (λ least_block a greatest_block b least_frame c greatest_frame d rate e channels f depth g total h.
    each_tied (list_of 16 (bits 8)) _ (IsBytes 16) bits_of _ (bytes_tie 16 _) (λ digest j kept.
    let k = ranges least_block greatest_block rate (depth + 1) kept.0 in
    let channels_is : channels + 1 - 1 ≡ channels = omega arith in
    let depth_is : depth + 1 - 1 ≡ depth = omega arith in (
      record {
        rules = record {
          least_block = k.0;
          blocks = k.1;
          greatest_block = b;
          least_frame = c;
          greatest_frame = d;
          least_rate = k.2;
          rate = e;
          least_channels = omega arith;
          channels = omega arith;
          least_depth = k.3;
          depth = omega arith;
          total = h;
        };
        digest = j;
      },
      rw (channels_is, depth_is) (groups (unsigned 16 least_block) (unsigned 16 greatest_block) (unsigned 24 least_frame) (unsigned 24 greatest_frame) (unsigned 20 rate) (unsigned 3 channels) (unsigned 5 depth) (unsigned 36 total) (bits_of digest)),
    )))
    (λ x w.
    let v = w.rules in
    let channels_is : x.channels - 1 + 1 ≡ x.channels = omega (arith, v.least_channels) in
    let depth_is : x.depth - 1 + 1 ≡ x.depth = omega (arith, v.least_depth) in (
      x.least_block,
      omega (arith, v.blocks, v.greatest_block),
      (
        x.greatest_block,
        v.greatest_block,
        (
          x.least_frame,
          v.least_frame,
          (
            x.greatest_frame,
            v.greatest_frame,
            (
              x.rate,
              v.rate,
              (
                x.channels - 1,
                omega (arith, v.channels),
                (
                  x.depth - 1,
                  omega (arith, v.depth),
                  (
                    x.total,
                    v.total,
                    some_tied (list_of 16 (bits 8)) _ (IsBytes 16) bits_of _ x.digest (bytes_tie 16 _) w.digest
                        ((rw depth_is (in_ranges x.least_block x.greatest_block x.rate x.depth v.least_block v.blocks v.least_rate v.least_depth), tt), (groups (unsigned 16 x.least_block) (unsigned 16 x.greatest_block) (unsigned 24 x.least_frame) (unsigned 24 x.greatest_frame) (unsigned 20 x.rate) (unsigned 3 (x.channels - 1)) (unsigned 5 (x.depth - 1)) (unsigned 36 x.total) (bits_of x.digest), rw (channels_is, depth_is) refl)),
                  ),
                ),
              ),
            ),
          ),
        ),
      ),
    ))

-- ---- seek points

abbrev Follows : Option ℕ → SeekPoint → Type 0
Follows before p = IsPoint p × (follows before p.sample ≡ true)

point_tie : (before : Option ℕ) (m : Mark) → Ties (seek_point before) m (Follows before) s.point_spelling
unfolding seek_point s.point_spelling
point_tie before m = tie (seek_point before) m (Follows before) s.point_spelling
    (λ sample a offset b size c kept. ((record { sample = a; offset = b; size = c }, not-false (follows before sample) kept.0), refl))
    (λ p v. (p.sample, v.0.sample, (p.offset, v.0.offset, (p.length, v.0.size, ((ap not v.1, tt), (refl, refl))))))

done_tie : (m : Mark) → Ties (done (tt {0})) m (λ _. Unit {0}) (λ _. [])
done_tie m = tie (done (tt {0})) m (λ _. Unit {0}) (λ _. []) (tt, refl) (λ x v. (refl, refl))

pub record ArePoints (n : ℕ) (ps : List SeekPoint) : Type 0 where
  pub many : length ps ≡ n
  pub all : AllAre IsPoint ps
  pub order : in_order None ps ≡ true

both : (a b : Bool) → a ≡ true → b ≡ true → (a && b) ≡ true
both true b h k = k
both false b h k = absurd cc

first_of : (a b : Bool) → (a && b) ≡ true → (a ≡ true) × (b ≡ true)
first_of true b h = (refl, h)
first_of false b h = absurd cc

abbrev PointsFrom : ℕ → Option ℕ → List SeekPoint → Type 0
PointsFrom = InTurn Follows (λ before p. Some p.sample) (λ before. Unit {0})

points_are : (n : ℕ) (before : Option ℕ) (ps : List SeekPoint) → PointsFrom n before ps → (length ps ≡ n) × AllAre IsPoint ps × (in_order before ps ≡ true)
points_are zero before [] h = (refl, tt, refl)
points_are zero before (p ∷ ps) h = absurd h
points_are (suc n) before [] h = absurd h
points_are (suc n) before (p ∷ ps) h =
    let k = points_are n (Some p.sample) ps h.1 in
    let e = k.0 in
    (omega arith, (h.0.0, k.1), both (follows before p.sample) (in_order (Some p.sample) ps) h.0.1 k.2)

are_points : (n : ℕ) (before : Option ℕ) (ps : List SeekPoint) → length ps ≡ n → AllAre IsPoint ps → in_order before ps ≡ true → PointsFrom n before ps
are_points zero before [] e a o = tt
are_points zero before (p ∷ ps) e a o = absurd (omega arith)
are_points (suc n) before [] e a o = absurd (omega arith)
are_points (suc n) before (p ∷ ps) e a o =
    let k = first_of (follows before p.sample) (in_order (Some p.sample) ps) o in
    ((a.0, k.0), are_points n (Some p.sample) ps (omega arith) a.1 k.1)

pub points_tie : (n : ℕ) (m : Mark) → Ties (seek_points n None) m (ArePoints n) (s.each_spelled s.point_spelling)
unfolding seek_points
points_tie n m = retie (ArePoints n)
    (λ ps h. let k = points_are n None ps h in record { many = k.0; all = k.1; order = k.2 })
    (λ ps h. are_points n None ps h.many h.all h.order)
    (turn_tie seek_point (λ before p. Some p.sample) (λ before. done tt) Follows (λ before. Unit {0}) s.point_spelling point_tie (λ before k. done_tie k) n None m)

-- ---- comments

text_tie : (left : ℕ) (m : Mark) → Ties (sized little_32 left) m (IsText left) s.little_sized
unfolding s.little_sized
text_tie left m = sized_tie little_32 little_bits little_tie left m

pub record AreTexts (n left : ℕ) (ts : List (List ℕ)) : Type 0 where
  pub many : length ts ≡ n
  pub all : AllAre AreBytes ts
  pub size : s.texts_length ts ≡ left

abbrev TextsFrom : ℕ → ℕ → List (List ℕ) → Type 0
TextsFrom = InTurn IsText (λ left t. left - (4 + length t)) (λ left. left ≡ 0)

texts_are : (n left : ℕ) (ts : List (List ℕ)) → TextsFrom n left ts → AreTexts n left ts
texts_are zero left [] h = record { many = refl; all = tt; size = sym h }
texts_are zero left (t ∷ ts) h = absurd h
texts_are (suc n) left [] h = absurd h
texts_are (suc n) left (t ∷ ts) h =
    let k = texts_are n (left - (4 + length t)) ts h.1 in
    let e = k.many in let f = k.size in let g = h.0.fits in
    record { many = omega arith; all = (h.0.small, k.all); size = omega arith }

are_texts : (n left : ℕ) (ts : List (List ℕ)) → left < 2 ^ 24 → AreTexts n left ts → TextsFrom n left ts
are_texts zero left [] lt h = sym h.size
are_texts zero left (t ∷ ts) lt h = let e = h.many in absurd (omega arith)
are_texts (suc n) left [] lt h = let e = h.many in absurd (omega arith)
are_texts (suc n) left (t ∷ ts) lt h =
    let e = h.many in let f = h.size in (
      record { fits = omega arith; few = omega arith; small = h.all.0 },
      are_texts n (left - (4 + length t)) ts (omega arith) (record { many = omega arith; all = h.all.1; size = omega arith }),
    )

texts_tie : (n left : ℕ) (m : Mark) → Ties (texts n left) m (TextsFrom n left) (s.each_spelled s.little_sized)
unfolding texts
texts_tie n left m = turn_tie (sized little_32) (λ left t. left - (4 + length t)) nothing_left IsText (λ left. left ≡ 0) s.little_sized text_tie nothing_tie n left m

pub record CommentsOf (left : ℕ) (c : Comments) : Type 0 where
  pub is : IsComments c
  pub size : s.comments_length c ≡ left

few_texts : (ts : List (List ℕ)) → 4 * length ts ≤ s.texts_length ts
few_texts [] = omega arith
few_texts (t ∷ ts) = let h = few_texts ts in omega arith

pub comments_tie : (left : ℕ) → left < 2 ^ 24 → (m : Mark) → Ties (comments left) m (CommentsOf left) s.comments_spelling
unfolding comments s.comments_spelling
comments_tie left lt m = tie (comments left) m (CommentsOf left) s.comments_spelling
    (each_tied (sized little_32 left) m (IsText left) s.little_sized _ (text_tie left m) (λ vendor v.
    part_each 4 (left - (4 + length vendor)) little_32 _ _ (λ le.
    each_tied little_32 _ (λ n. n < 2 ^ 32) little_bits _ (little_tie _) (λ count small kept.
    each_tied (texts count (left - (4 + length vendor) - 4)) _ (TextsFrom count (left - (4 + length vendor) - 4)) (s.each_spelled s.little_sized) _ (texts_tie count (left - (4 + length vendor) - 4) _) (λ list w.
    let k = texts_are count (left - (4 + length vendor) - 4) list w in
    let f = k.size in let g = v.fits in (
      record { is = record { vendor = v.small; list = k.all }; size = omega arith },
      ap (λ n. s.little_sized vendor ++ (little_bits n ++ (s.each_spelled s.little_sized list ++ []))) (sym k.many),
    ))))))
    (λ x v.
    let f = v.size in
    let few = few_texts x.list in
    some_tied (sized little_32 left) m (IsText left) s.little_sized _ x.vendor (text_tie left m) (record { fits = omega arith; few = omega arith; small = v.is.vendor })
    (part_some 4 (left - (4 + length x.vendor)) little_32 _ _ (omega arith)
    (some_tied little_32 _ (λ n. n < 2 ^ 32) little_bits _ (length x.list) (little_tie _) (omega arith) (
      (less_not (left - (4 + length x.vendor) - 4) (4 * length x.list) (omega arith), tt),
      some_tied (texts (length x.list) (left - (4 + length x.vendor) - 4)) _ (TextsFrom (length x.list) (left - (4 + length x.vendor) - 4)) (s.each_spelled s.little_sized) _ x.list (texts_tie (length x.list) (left - (4 + length x.vendor) - 4) _)
          (are_texts (length x.list) (left - (4 + length x.vendor) - 4) x.list (omega arith) (record { many = refl; all = v.is.list; size = omega arith })) (refl, refl),
    ))))
