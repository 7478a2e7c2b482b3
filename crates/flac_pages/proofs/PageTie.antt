-- The layout of a page spells pages, and each of them in one way.
use Rattle.std.proofs.Common.{◌≡◌, ℕ, ◌+◌, ◌*◌, ◌/◌, ◌%◌, ◌<◌, ◌^◌, Bool, false, not, ◌||◌, nat_eq, List, [], ◌∷◌, ◌++◌, length, Option, refl, sym, subst, arith}
use Rattle.std.specs.Int.{to_le_bytes, byte_at, w32, w64}
use Rattle.std.specs.List.{sum}
use Rattle.std.proofs.lemmas.Bool.Decides.{nat_tests}
use Rattle.flac_bits.specs.Bits.{unsigned, bits_of}
use Rattle.flac_bits.specs.State.{Mark}
use Rattle.flac_bits.specs.Layout.{bits}
use Rattle.flac_bits.specs.Lists.{list_of}
use Rattle.flac_bits.specs.LittleEndian.{little_32, little_64}
use Rattle.flac_bits.specs.Forms.{IsBytes}
use Rattle.flac_bits.specs.inner.Forms.{Ties}
use Rattle.flac_bits.specs.Meaning.{Spells}
use Rattle.flac_bits.proofs.Meaning.{again}
use Rattle.flac_bits.proofs.Ties.{tie, each_tied, some_tied, bytes_tie}
use Rattle.flac_pages.specs.declared.page.Before.{Before}
use Rattle.flac_pages.specs.declared.page.Head.{Head}
use Rattle.flac_pages.specs.Page.{Page, page, page_after, head_after, page_spelling}
use Rattle.flac_pages.specs.Written.{IsPage, PagesAreSpelled, PagesAreReadAgain}

-- ---- numbers, the lowest byte first

abbrev le32 : ℕ → List Bool
le32 v = bits_of (to_le_bytes w32 v)

abbrev le64 : ℕ → List Bool
le64 v = bits_of (to_le_bytes w64 v)

four : (a b c d a' b' c' d' : ℕ) → a' ≡ a → b' ≡ b → c' ≡ c → d' ≡ d → unsigned 8 a ++ (unsigned 8 b ++ (unsigned 8 c ++ (unsigned 8 d ++ []))) ≡ bits_of (a' ∷ b' ∷ c' ∷ d' ∷ [])
four a b c d a' b' c' d' e f g h = rw (e, f, g, h) refl

pub little_32_tie : (m : Mark) → Ties little_32 m (λ v. v < 2 ^ 32) le32
unfolding little_32
little_32_tie m = tie little_32 m (λ v. v < 2 ^ 32) le32
    (λ a la b lb c lc d ld.
    let v : ℕ = a + 256 * b + 65536 * c + 16777216 * d in
    let e : byte_at 0 v ≡ a = omega arith in
    let f : byte_at 1 v ≡ b = omega arith in
    let g : byte_at 2 v ≡ c = omega arith in
    let h : byte_at 3 v ≡ d = omega arith in
    (omega arith, four a b c d (byte_at 0 v) (byte_at 1 v) (byte_at 2 v) (byte_at 3 v) e f g h))
    (λ v h.
    (byte_at 0 v, omega arith, (byte_at 1 v, omega arith, (byte_at 2 v, omega arith, (byte_at 3 v, omega arith, (refl, omega arith))))))

abbrev low : ℕ → ℕ
low v = v % 4294967296

abbrev high : ℕ → ℕ
high v = v / 4294967296

eight : (v l h : ℕ) → l ≡ low v → h ≡ high v → v < 2 ^ 64 → le32 l ++ (le32 h ++ []) ≡ le64 v
eight v l h is_low is_high small =
    let a : byte_at 0 l ≡ byte_at 0 v = omega (arith, is_low) in
    let b : byte_at 1 l ≡ byte_at 1 v = omega (arith, is_low) in
    let c : byte_at 2 l ≡ byte_at 2 v = omega (arith, is_low) in
    let d : byte_at 3 l ≡ byte_at 3 v = omega (arith, is_low) in
    let e : byte_at 0 h ≡ byte_at 4 v = omega (arith, is_high) in
    let f : byte_at 1 h ≡ byte_at 5 v = omega (arith, is_high) in
    let g : byte_at 2 h ≡ byte_at 6 v = omega (arith, is_high) in
    let i : byte_at 3 h ≡ byte_at 7 v = omega (arith, is_high, small) in
    parts (byte_at 0 l) (byte_at 1 l) (byte_at 2 l) (byte_at 3 l) (byte_at 0 h) (byte_at 1 h) (byte_at 2 h) (byte_at 3 h) _ _ _ _ _ _ _ _ a b c d e f g i
  where
    parts : (a b c d e f g h a' b' c' d' e' f' g' h' : ℕ) → a ≡ a' → b ≡ b' → c ≡ c' → d ≡ d' → e ≡ e' → f ≡ f' → g ≡ g' → h ≡ h'
        → bits_of (a ∷ b ∷ c ∷ d ∷ []) ++ (bits_of (e ∷ f ∷ g ∷ h ∷ []) ++ []) ≡ bits_of (a' ∷ b' ∷ c' ∷ d' ∷ e' ∷ f' ∷ g' ∷ h' ∷ [])
    parts a b c d e f g h a' b' c' d' e' f' g' h' p q r s t u v w = rw (p, q, r, s, t, u, v, w) refl

pub little_64_tie : (m : Mark) → Ties little_64 m (λ v. v < 2 ^ 64) le64
unfolding little_64
little_64_tie m = tie little_64 m (λ v. v < 2 ^ 64) le64
    (each_tied little_32 _ (λ v. v < 2 ^ 32) le32 _ (little_32_tie _) (λ l a.
    each_tied little_32 _ (λ v. v < 2 ^ 32) le32 _ (little_32_tie _) (λ h b.
    (omega arith, eight (l + 4294967296 * h) l h (omega arith) (omega arith) (omega arith)))))
    (λ v small.
    some_tied little_32 _ (λ v. v < 2 ^ 32) le32 _ (low v) (little_32_tie _) (omega arith)
    (some_tied little_32 _ (λ v. v < 2 ^ 32) le32 _ (high v) (little_32_tie _) (omega arith) (eight v (low v) (high v) refl refl small, omega arith)))

-- ---- the fixed fields

record IsHead (first : ℕ) (h : Head) : Type 0 where
  pub pattern : first ≡ 0x4F
  pub flags : h.flags < 2 ^ 8
  pub granule : h.granule < 2 ^ 64
  pub serial : h.serial < 2 ^ 32
  pub sequence : h.sequence < 2 ^ 32
  pub sum : h.sum < 2 ^ 32

abbrev head_bits : Head → List Bool
head_bits h = unsigned 24 0x676753 ++ (unsigned 8 0 ++ (unsigned 8 h.flags ++ (le64 h.granule ++ (le32 h.serial ++ (le32 h.sequence ++ (le32 h.sum ++ []))))))

both_are : (a b x y : ℕ) → (not (nat_eq a x) || not (nat_eq b y)) ≡ false → (a ≡ x) × (b ≡ y)
both_are a b x y h = (grind (arith, nat_tests), grind (arith, nat_tests))

is_zero : (a : ℕ) → not (nat_eq a 0) ≡ false → a ≡ 0
is_zero a h = grind (arith, nat_tests)

head_tie : (first : ℕ) (m : Mark) → Ties (head_after first) m (IsHead first) head_bits
unfolding head_after
head_tie first m = tie (head_after first) m (IsHead first) head_bits
    (λ pattern a marks version b plain flags c.
    each_tied little_64 _ (λ v. v < 2 ^ 64) le64 _ (little_64_tie _) (λ granule g.
    each_tied little_32 _ (λ v. v < 2 ^ 32) le32 _ (little_32_tie _) (λ serial s.
    each_tied little_32 _ (λ v. v < 2 ^ 32) le32 _ (little_32_tie _) (λ sequence q.
    each_tied little_32 _ (λ v. v < 2 ^ 32) le32 _ (little_32_tie _) (λ sum u.
    let both = both_are first pattern 0x4F 0x676753 marks.0 in (
      record { pattern = both.0; flags = c; granule = g; serial = s; sequence = q; sum = u },
      rw (both.1, is_zero version plain.0) refl,
    ))))))
    (λ h v. (
      0x676753,
      omega arith,
      (
        (rw v.pattern refl, tt),
        (
          0,
          omega arith,
          (
            (refl, tt),
            (
              h.flags,
              v.flags,
              some_tied little_64 _ (λ v. v < 2 ^ 64) le64 _ h.granule (little_64_tie _) v.granule
                  (some_tied little_32 _ (λ v. v < 2 ^ 32) le32 _ h.serial (little_32_tie _) v.serial
                  (some_tied little_32 _ (λ v. v < 2 ^ 32) le32 _ h.sequence (little_32_tie _) v.sequence
                  (some_tied little_32 _ (λ v. v < 2 ^ 32) le32 _ h.sum (little_32_tie _) v.sum (refl, refl)))),
            ),
          ),
        ),
      ),
    ))

-- ---- the page

-- the fields one after another are the page's bits
whole_text : (p : Page) → unsigned 8 0x4F ++ (head_bits p.head ++ (unsigned 8 (length p.lacing) ++ (bits_of p.lacing ++ (bits_of p.body ++ [])))) ≡ page_spelling p
unfolding page_spelling
whole_text p = refl

abbrev page_of : Head → List ℕ → List ℕ → Page
page_of h l b = record { head = h; lacing = l; body = b }

pub page_tie : (before : Option Before) (m : Mark) → Ties (page before) m (IsPage before) page_spelling
unfolding page page_after
page_tie before m = tie (page before) m (IsPage before) page_spelling
    (λ first a.
    each_tied (head_after first) _ (IsHead first) head_bits _ (head_tie first _) (λ h v count c.
    each_tied (list_of count (bits 8)) _ (IsBytes count) bits_of _ (bytes_tie count _) (λ l lacing.
    each_tied (list_of (sum l) (bits 8)) _ (IsBytes (sum l)) bits_of _ (bytes_tie (sum l) _) (λ b body kept. (
      record {
        flags = v.flags;
        granule = v.granule;
        serial = v.serial;
        sequence = v.sequence;
        stated = v.sum;
        few = omega (arith, c, lacing.many);
        lacing = lacing.small;
        whole = body.many;
        body = body.small;
        rules = kept;
      },
      rw (v.pattern, ← lacing.many) (whole_text (page_of h l b)),
    )))))
    (λ p v. (
      0x4F,
      omega arith,
      some_tied (head_after 0x4F) _ (IsHead 0x4F) head_bits _ p.head (head_tie 0x4F _) (record { pattern = refl; flags = v.flags; granule = v.granule; serial = v.serial; sequence = v.sequence; sum = v.stated }) (
        length p.lacing,
        v.few,
        some_tied (list_of (length p.lacing) (bits 8)) _ (IsBytes (length p.lacing)) bits_of _ p.lacing (bytes_tie (length p.lacing) _) (record { many = refl; small = v.lacing })
            (some_tied (list_of (sum p.lacing) (bits 8)) _ (IsBytes (sum p.lacing)) bits_of _ p.body (bytes_tie (sum p.lacing) _) (record { many = v.whole; small = v.body }) (v.rules, (whole_text p, refl))),
      ),
    ))

pub pages_spelled : PagesAreSpelled
pages_spelled before m text p = (λ s. (page_tie before m).only text p s, λ k. subst (λ (t : List Bool). Spells (page before) m t p) (sym k.1) ((page_tie before m).each p k.0))

pub pages_again : PagesAreReadAgain
pages_again before m rest p v = again (page before) m (page_spelling p) rest p ((page_tie before m).each p v)
