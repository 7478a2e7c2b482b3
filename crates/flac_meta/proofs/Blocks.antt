-- What ties a block to its spelling.
use Rattle.std.proofs.Common.{◌≡◌, ℕ, ◌+◌, ◌-◌, ◌*◌, ◌/◌, ◌%◌, ◌^◌, ◌<◌, ◌≤◌, Bool, true, false, not, nat_eq, nat_lt, ◌&&◌, ◌||◌, Option, None, List, [], ◌∷◌, ◌++◌, length, refl, sym, ap, subst, ◌∙◌, arith}
use Rattle.std.proofs.lemmas.List.{append-nil}
use Rattle.std.proofs.lemmas.Nat.{pow_pos}
use Rattle.std.proofs.lemmas.Bool.Decides.{nat_tests}
use Rattle.std.proofs.lemmas.Bool.{not-false}
use Rattle.flac_bits.specs.Bits.{unsigned, bits_of, bit_value}
use Rattle.flac_bits.specs.State.{Mark, past}
use Rattle.flac_bits.specs.Layout.{Layout, done, bind, bits, choose, first_broken}
use Rattle.flac_bits.specs.Lists.{list_of}
use Rattle.flac_bits.specs.Meaning.{Spells}
use Rattle.flac_bits.specs.Forms.{joined, IsBytes, AreBytes}
use Rattle.flac_bits.specs.inner.Forms.{Ties}
use Rattle.flac_bits.specs.declared.why.Why.{Why}
use Rattle.flac_bits.specs.declared.why.Why.TheVariants as why
use Rattle.flac_bits.proofs.Meaning.{again}
use Rattle.flac_bits.proofs.Ties.{tie, bytes_tie}
use Rattle.flac_meta.specs.Info.{stream_info}
use Rattle.flac_meta.specs.Header.{is_repeated, is_wrong_length, block_header}
use Rattle.flac_meta.specs.Padding.{skipped}
use Rattle.flac_meta.specs.SeekTable.{in_order, seek_points}
use Rattle.flac_meta.specs.Comments.{comments}
use Rattle.flac_meta.specs.CueSheet.{cue_sheet}
use Rattle.flac_meta.specs.Picture.{picture}
use Rattle.flac_meta.specs.Block.{padding, application, other, content, block}
use Rattle.flac_meta.specs.Spelling as s
use Rattle.flac_meta.specs.Listed.{is_forbidden, is_out_of_order, has_bad_sheet, block_fault, came}
use Rattle.flac_meta.specs.Valid.{FitsFields, IsBlock, ContentSpelled, BlockSpelled, BlocksAreSpelled, BlocksAreReadAgain}
use Rattle.flac_meta.specs.declared.block.BlockHeader.{BlockHeader}
use Rattle.flac_meta.specs.declared.block.Seen.{Seen}
use Rattle.flac_meta.specs.declared.block.Block.{Block}
use Rattle.flac_meta.specs.declared.block.Block.TheVariants as block_of
use Rattle.flac_meta.proofs.Steps.{zeros_are}
use Rattle.flac_meta.proofs.Tied.{not_less, less_not}
use Rattle.flac_meta.proofs.Contents.{info_tie, ArePoints, points_tie, CommentsOf, comments_tie}
use Rattle.flac_meta.proofs.Pictures.{PictureOf, picture_tie}
use Rattle.flac_meta.proofs.Sheets.{one_bit, bit_one, bit_less, SheetOf, sheet_tie}

-- ---- the header

record IsHeader (seen : Seen) (h : BlockHeader) : Type 0 where
  kind : h.kind < 127
  size : h.length < 2 ^ 24
  first : seen.stream_info ≡ false → h.kind ≡ 0
  once : is_repeated seen h.kind ≡ false
  right : is_wrong_length h.kind h.length ≡ false

abbrev spelled : BlockHeader → List Bool
spelled h = s.header_spelling h.last h.kind h.length

below_127 : (k : ℕ) → k < 2 ^ 7 → nat_eq k 127 ≡ false → k < 127
below_127 k lt h = grind (arith, nat_tests)

not_127 : (k : ℕ) → k < 127 → nat_eq k 127 ≡ false
not_127 k h = grind (arith, nat_tests)

comes_first : (b : Bool) (k : ℕ) → (not b && not (nat_eq k 0)) ≡ false → b ≡ false → k ≡ 0
comes_first true k h e = absurd cc
comes_first false k h e = grind (arith, nat_tests)

first_comes : (b : Bool) (k : ℕ) → (b ≡ false → k ≡ 0) → (not b && not (nat_eq k 0)) ≡ false
first_comes true k h = refl
first_comes false k h = let e = h refl in rw e refl

header_tie : (seen : Seen) (m : Mark) → Ties (block_header seen) m (IsHeader seen) spelled
unfolding block_header s.header_spelling
header_tie seen m = tie (block_header seen) m (IsHeader seen) spelled
    (λ last a kind b size c kept. (
      record {
        kind = below_127 kind b kept.1.0;
        size = c;
        first = comes_first seen.stream_info kind kept.0;
        once = kept.1.1.0;
        right = kept.1.1.1.0;
      },
      rw (one_bit last a) refl,
    ))
    (λ h v.
    let kind = v.kind in (
      bit_value h.last,
      bit_less h.last,
      (
        h.kind,
        omega arith,
        (
          h.length,
          v.size,
          ((first_comes seen.stream_info h.kind v.first, (not_127 h.kind v.kind, (v.once, (v.right, tt)))), (refl, rw (bit_one h.last) refl)),
        ),
      ),
    ))

-- ---- the contents

record Content (kind size : ℕ) (b : Block) (text : List Bool) : Type 0 where
  is : s.kind_of b ≡ kind
  length : s.length_of b ≡ size
  kept : is_forbidden b ≡ false
  order : is_out_of_order b ≡ false
  sheet : has_bad_sheet b ≡ false
  fits : FitsFields b
  spelled : ContentSpelled b text

-- a tied value in a block
wrapped : {A B : Type 0} (l : Layout A) (f : A → B) (m : Mark) (V : A → Type 0) (spelling : A → List Bool) → Ties l m V spelling → (text : List Bool) (y : B)
    → Spells (bind l (λ x. done (f x))) m text y → (x : A) × V x × (text ≡ spelling x) × (f x ≡ y)
wrapped l f m V spelling t text y (x, front, rest, split, h, (nil, is)) =
    let o = t.only front x h in
    (x, o.0, split ∙ ap (λ r. front ++ r) nil ∙ append-nil front ∙ o.1, is)

wrap : {A B : Type 0} (l : Layout A) (f : A → B) (m : Mark) (V : A → Type 0) (spelling : A → List Bool) → Ties l m V spelling → (x : A) → V x → (text : List Bool) → text ≡ spelling x
    → Spells (bind l (λ x. done (f x))) m text (f x)
wrap l f m V spelling t x v text is = (x, spelling x, [], is ∙ sym (append-nil (spelling x)), t.each x v, (refl, refl))

-- what a block's content is, by the block that it makes
made : (kind size : ℕ) (a b : Block) (text : List Bool) → Content kind size a text → a ≡ b → Content kind size b text
made kind size a b text c e = subst (λ (z : Block). Content kind size z text) e c

info_only : (m : Mark) (text : List Bool) (b : Block) → Spells (bind stream_info (λ info. done (block_of.StreamInfo info))) m text b → Content 0 34 b text
unfolding s.content_spelling
info_only m text b h =
    let w = wrapped stream_info (λ info. block_of.StreamInfo info) m _ s.info_spelling (info_tie m) text b h in
    made 0 34 (block_of.StreamInfo w.0) b text (record { is = refl; length = refl; kept = refl; order = refl; sheet = refl; fits = w.1; spelled = w.2 }) w.3

padding_only : (n : ℕ) (m : Mark) (text : List Bool) (b : Block) → Spells (padding n) m text b → Content 1 n b text
unfolding padding skipped
padding_only n m text b (u, front, rest, split, (v, part, more, split', (lt, bits_are), (nil', u')), (nil, is)) =
    made 1 n (block_of.Padding n) b text (record {
      is = refl;
      length = refl;
      kept = refl;
      order = refl;
      sheet = refl;
      fits = tt;
      spelled = (v, lt, split ∙ ap (λ r. front ++ r) nil ∙ append-nil front ∙ split' ∙ ap (λ r. part ++ r) nil' ∙ append-nil part ∙ bits_are);
    }) is

application_only : (n : ℕ) → 4 ≤ n → (m : Mark) (text : List Bool) (b : Block) → Spells (application n) m text b → Content 2 n b text
unfolding application s.content_spelling
application_only n le m text b (id, front, rest, split, h, (bytes, part, more, split', h', (nil, is))) =
    let i = (bytes_tie 4 m).only front id h in
    let k = (bytes_tie (n - 4) (past front m)).only part bytes h' in
    let many = k.0.many in
    made 2 n (block_of.Application id bytes) b text (record {
      is = refl;
      length = omega arith;
      kept = refl;
      order = refl;
      sheet = refl;
      fits = (i.0, k.0.small);
      spelled = split ∙ ap (λ r. front ++ r) split' ∙ ap (λ r. front ++ (part ++ r)) nil ∙ ap (λ f. f ++ (part ++ [])) i.1 ∙ ap (λ p. bits_of id ++ (p ++ [])) k.1;
    }) is

points_only : (n : ℕ) (m : Mark) (text : List Bool) (b : Block) → Spells (bind (seek_points n None) (λ points. done (block_of.SeekTable points))) m text b → Content 3 (18 * n) b text
unfolding s.content_spelling
points_only n m text b h =
    let w = wrapped (seek_points n None) (λ points. block_of.SeekTable points) m (ArePoints n) (s.each_spelled s.point_spelling) (points_tie n m) text b h in
    let many = w.1.many in
    made 3 (18 * n) (block_of.SeekTable w.0) b text (record { is = refl; length = omega arith; kept = refl; order = ap not w.1.order; sheet = refl; fits = w.1.all; spelled = w.2 }) w.3

comments_only : (n : ℕ) → n < 2 ^ 24 → (m : Mark) (text : List Bool) (b : Block) → Spells (bind (comments n) (λ found. done (block_of.VorbisComment found))) m text b → Content 4 n b text
unfolding s.content_spelling
comments_only n lt m text b h =
    let w = wrapped (comments n) (λ found. block_of.VorbisComment found) m (CommentsOf n) s.comments_spelling (comments_tie n lt m) text b h in
    made 4 n (block_of.VorbisComment w.0) b text (record { is = refl; length = w.1.size; kept = refl; order = refl; sheet = refl; fits = w.1.is; spelled = w.2 }) w.3

sheet_only : (n : ℕ) (m : Mark) (text : List Bool) (b : Block) → Spells (bind (cue_sheet n) (λ found. done (block_of.CueSheet found))) m text b → Content 5 n b text
unfolding s.content_spelling
sheet_only n m text b h =
    let w = wrapped (cue_sheet n) (λ found. block_of.CueSheet found) m (SheetOf n) s.sheet_spelling (sheet_tie n m) text b h in
    made 5 n (block_of.CueSheet w.0) b text (record { is = refl; length = w.1.size; kept = refl; order = refl; sheet = w.1.good; fits = w.1.is; spelled = w.2 }) w.3

picture_only : (n : ℕ) → n < 2 ^ 24 → (m : Mark) (text : List Bool) (b : Block) → Spells (bind (picture n) (λ found. done (block_of.Picture found))) m text b → Content 6 n b text
unfolding s.content_spelling
picture_only n lt m text b h =
    let w = wrapped (picture n) (λ found. block_of.Picture found) m (PictureOf n) s.picture_spelling (picture_tie n lt m) text b h in
    made 6 n (block_of.Picture w.0) b text (record { is = refl; length = w.1.size; kept = refl; order = refl; sheet = refl; fits = w.1.is; spelled = w.2 }) w.3

reserved_kind : (k : ℕ) → 7 ≤ k → k < 127 → (nat_lt k 7 || nat_lt 126 k) ≡ false
reserved_kind k h lt = let a = less_not k 7 h in let b = less_not 126 k (omega arith) in rw (a, b) refl

other_only : (k n : ℕ) → 7 ≤ k → k < 127 → (m : Mark) (text : List Bool) (b : Block) → Spells (other k n) m text b → Content k n b text
unfolding other s.content_spelling
other_only k n le lt m text b h =
    let w = wrapped (list_of n (bits 8)) (λ bytes. block_of.Other k bytes) m (IsBytes n) bits_of (bytes_tie n m) text b h in
    made k n (block_of.Other k w.0) b text (record { is = refl; length = w.1.many; kept = reserved_kind k le lt; order = refl; sheet = refl; fits = w.1.small; spelled = w.2 }) w.3

-- what each kind announces, and what is left if it is none of the kinds before
abbrev kind_0 : Layout Block
kind_0 = bind stream_info (λ info. done (block_of.StreamInfo info))

abbrev kind_3 : ℕ → Layout Block
kind_3 n = bind (seek_points (n / 18) None) (λ points. done (block_of.SeekTable points))

abbrev kind_4 : ℕ → Layout Block
kind_4 n = bind (comments n) (λ found. done (block_of.VorbisComment found))

abbrev kind_5 : ℕ → Layout Block
kind_5 n = bind (cue_sheet n) (λ sheet. done (block_of.CueSheet sheet))

abbrev kind_6 : ℕ → Layout Block
kind_6 n = bind (picture n) (λ found. done (block_of.Picture found))

abbrev above_5 : ℕ → ℕ → Layout Block
above_5 k n = choose (nat_eq k 6) (kind_6 n) (other k n)

abbrev above_4 : ℕ → ℕ → Layout Block
above_4 k n = choose (nat_eq k 5) (kind_5 n) (above_5 k n)

abbrev above_3 : ℕ → ℕ → Layout Block
above_3 k n = choose (nat_eq k 4) (kind_4 n) (above_4 k n)

abbrev above_2 : ℕ → ℕ → Layout Block
above_2 k n = choose (nat_eq k 3) (kind_3 n) (above_3 k n)

abbrev above_1 : ℕ → ℕ → Layout Block
above_1 k n = choose (nat_eq k 2) (application n) (above_2 k n)

abbrev above_0 : ℕ → ℕ → Layout Block
above_0 k n = choose (nat_eq k 1) (padding n) (above_1 k n)

-- whether a test chooses one layout or the other
chosen : {A : Type 0} (b : Bool) (l r : Layout A) (m : Mark) (text : List Bool) (x : A) (Q : Type 0) → Spells (choose b l r) m text x → (b ≡ true → Spells l m text x → Q) → (b ≡ false → Spells r m text x → Q) → Q
chosen true l r m text x Q h f g = f refl h
chosen false l r m text x Q h f g = g refl h

equal : (a b : ℕ) → nat_eq a b ≡ true → b ≡ a
equal a b h = grind (arith, nat_tests)

from_7 : (k : ℕ) → nat_eq k 0 ≡ false → nat_eq k 1 ≡ false → nat_eq k 2 ≡ false → nat_eq k 3 ≡ false → nat_eq k 4 ≡ false → nat_eq k 5 ≡ false → nat_eq k 6 ≡ false → 7 ≤ k
from_7 k a b c d e f g = grind (arith, nat_tests)

-- the lengths that a header lets pass
info_length : (k n : ℕ) → nat_eq k 0 ≡ true → is_wrong_length k n ≡ false → 34 ≡ n
info_length k n e h = grind (arith, nat_tests)

id_length : (k n : ℕ) → nat_eq k 2 ≡ true → is_wrong_length k n ≡ false → 4 ≤ n
id_length k n e h = grind (arith, nat_tests)

points_length : (k n : ℕ) → nat_eq k 3 ≡ true → is_wrong_length k n ≡ false → 18 * (n / 18) ≡ n
points_length k n e h = let r : n % 18 ≡ 0 = grind (arith, nat_tests) in omega arith

at_kind : (k k' n n' : ℕ) (b : Block) (text : List Bool) → k ≡ k' → n ≡ n' → Content k n b text → Content k' n' b text
at_kind k k' n n' b text e f c = subst (λ (z : ℕ). Content z n' b text) e (subst (λ (z : ℕ). Content k z b text) f c)

content_only : (k n : ℕ) → k < 127 → n < 2 ^ 24 → is_wrong_length k n ≡ false → (m : Mark) (text : List Bool) (b : Block) → Spells (content k n) m text b → Content k n b text
unfolding content
content_only k n lt small right m text b h =
    chosen (nat_eq k 0) kind_0 (above_0 k n) m text b (Content k n b text) h (λ e g. at_kind 0 k 34 n b text (equal k 0 e) (info_length k n e right) (info_only m text b g)) (λ n0 h0.
    chosen (nat_eq k 1) (padding n) (above_1 k n) m text b (Content k n b text) h0 (λ e g. at_kind 1 k n n b text (equal k 1 e) refl (padding_only n m text b g)) (λ n1 h1.
    chosen (nat_eq k 2) (application n) (above_2 k n) m text b (Content k n b text) h1 (λ e g. at_kind 2 k n n b text (equal k 2 e) refl (application_only n (id_length k n e right) m text b g)) (λ n2 h2.
    chosen (nat_eq k 3) (kind_3 n) (above_3 k n) m text b (Content k n b text) h2 (λ e g. at_kind 3 k (18 * (n / 18)) n b text (equal k 3 e) (points_length k n e right) (points_only (n / 18) m text b g)) (λ n3 h3.
    chosen (nat_eq k 4) (kind_4 n) (above_4 k n) m text b (Content k n b text) h3 (λ e g. at_kind 4 k n n b text (equal k 4 e) refl (comments_only n small m text b g)) (λ n4 h4.
    chosen (nat_eq k 5) (kind_5 n) (above_5 k n) m text b (Content k n b text) h4 (λ e g. at_kind 5 k n n b text (equal k 5 e) refl (sheet_only n m text b g)) (λ n5 h5.
    chosen (nat_eq k 6) (kind_6 n) (other k n) m text b (Content k n b text) h5 (λ e g. at_kind 6 k n n b text (equal k 6 e) refl (picture_only n small m text b g)) (λ n6 h6.
    other_only k n (from_7 k n0 n1 n2 n3 n4 n5 n6) lt m text b h6)))))))

-- ---- and back

-- the same bits
respelled : {A : Type 0} (l : Layout A) (m : Mark) (x : A) (text text' : List Bool) → Spells l m text x → text' ≡ text → Spells l m text' x
respelled l m x text text' h e = subst (λ (t : List Bool). Spells l m t x) (sym e) h

padding_each : (n v : ℕ) → v < 2 ^ (8 * n) → (m : Mark) → Spells (padding n) m (unsigned (8 * n) v) (block_of.Padding n)
unfolding padding skipped
padding_each n v lt m = (tt, unsigned (8 * n) v, [], sym (append-nil (unsigned (8 * n) v)), (v, unsigned (8 * n) v, [], sym (append-nil (unsigned (8 * n) v)), (lt, refl), (refl, refl)), (refl, refl))

application_each : (id bytes : List ℕ) → IsBytes 4 id → AreBytes bytes → (m : Mark) → Spells (application (4 + length bytes)) m (joined (bits_of id ∷ bits_of bytes ∷ [])) (block_of.Application id bytes)
unfolding application
application_each id bytes i small m =
    let e : 4 + length bytes - 4 ≡ length bytes = omega arith in (
      id,
      bits_of id,
      bits_of bytes ++ [],
      refl,
      (bytes_tie 4 m).each id i,
      (
        bytes,
        bits_of bytes,
        [],
        refl,
        subst (λ (n : ℕ). Spells (list_of n (bits 8)) (past (bits_of id) m) (bits_of bytes) bytes) (sym e) ((bytes_tie (length bytes) (past (bits_of id) m)).each bytes (record { many = refl; small = small })),
        (refl, refl),
      ),
    )

passed : {A : Type 0} (b : Bool) (l r : Layout A) (m : Mark) (text : List Bool) (x : A) → b ≡ false → Spells r m text x → Spells (choose b l r) m text x
passed false l r m text x e h = h
passed true l r m text x e h = absurd cc

other_each : (k : ℕ) (bytes : List ℕ) → AreBytes bytes → (m : Mark) (text : List Bool) → text ≡ bits_of bytes → Spells (other k (length bytes)) m text (block_of.Other k bytes)
unfolding other
other_each k bytes small m text is = wrap (list_of (length bytes) (bits 8)) (λ bytes. block_of.Other k bytes) m (IsBytes (length bytes)) bits_of (bytes_tie (length bytes) m) bytes (record { many = refl; small = small }) text is

other_kind : (k j : ℕ) → 7 ≤ k → j < 7 → nat_eq k j ≡ false
other_kind k j le lt = grind (arith, nat_tests)

other_spells : (k n : ℕ) → 7 ≤ k → (m : Mark) (text : List Bool) (b : Block) → Spells (other k n) m text b → Spells (content k n) m text b
unfolding content
other_spells k n le m text b h =
    passed (nat_eq k 0) kind_0 (above_0 k n) m text b (other_kind k 0 le (omega arith))
    (passed (nat_eq k 1) (padding n) (above_1 k n) m text b (other_kind k 1 le (omega arith))
    (passed (nat_eq k 2) (application n) (above_2 k n) m text b (other_kind k 2 le (omega arith))
    (passed (nat_eq k 3) (kind_3 n) (above_3 k n) m text b (other_kind k 3 le (omega arith))
    (passed (nat_eq k 4) (kind_4 n) (above_4 k n) m text b (other_kind k 4 le (omega arith))
    (passed (nat_eq k 5) (kind_5 n) (above_5 k n) m text b (other_kind k 5 le (omega arith))
    (passed (nat_eq k 6) (kind_6 n) (other k n) m text b (other_kind k 6 le (omega arith)) h))))))

reserved_from : (k : ℕ) → (nat_lt k 7 || nat_lt 126 k) ≡ false → 7 ≤ k
reserved_from k h = grind (arith, nat_tests)

reserved_below : (k : ℕ) → (nat_lt k 7 || nat_lt 126 k) ≡ false → k < 127
reserved_below k h = grind (arith, nat_tests)

content_each : (b : Block) (text : List Bool) → s.length_of b < 2 ^ 24 → is_forbidden b ≡ false → is_out_of_order b ≡ false → has_bad_sheet b ≡ false → FitsFields b → ContentSpelled b text → (m : Mark)
    → Spells (content (s.kind_of b) (s.length_of b)) m text b
unfolding content s.content_spelling
content_each (block_of.StreamInfo info) text small kept order sheet fits is m =
    wrap stream_info (λ info. block_of.StreamInfo info) m _ s.info_spelling (info_tie m) info fits text is
content_each (block_of.Padding n) text small kept order sheet fits is m = respelled (padding n) m (block_of.Padding n) (unsigned (8 * n) is.0) text (padding_each n is.0 is.1 m) is.2
content_each (block_of.Application id bytes) text small kept order sheet fits is m =
    respelled (application (4 + length bytes)) m (block_of.Application id bytes) _ text (application_each id bytes fits.0 fits.1 m) is
content_each (block_of.SeekTable points) text small kept order sheet fits is m =
    let e : 18 * length points / 18 ≡ length points = omega arith in
    subst (λ (n : ℕ). Spells (bind (seek_points n None) (λ points. done (block_of.SeekTable points))) m text (block_of.SeekTable points)) (sym e)
    (wrap (seek_points (length points) None) (λ points. block_of.SeekTable points) m (ArePoints (length points)) (s.each_spelled s.point_spelling) (points_tie (length points) m) points
    (record { many = refl; all = fits; order = not-false (in_order None points) order }) text is)
content_each (block_of.VorbisComment found) text small kept order sheet fits is m =
    wrap (comments (s.comments_length found)) (λ found. block_of.VorbisComment found) m (CommentsOf (s.comments_length found)) s.comments_spelling (comments_tie (s.comments_length found) small m) found
    (record { is = fits; size = refl }) text is
content_each (block_of.CueSheet found) text small kept order sheet fits is m =
    wrap (cue_sheet (396 + s.tracks_length found.tracks)) (λ found. block_of.CueSheet found) m (SheetOf (396 + s.tracks_length found.tracks)) s.sheet_spelling (sheet_tie (396 + s.tracks_length found.tracks) m) found
    (record { is = fits; good = sheet; size = refl }) text is
content_each (block_of.Picture found) text small kept order sheet fits is m =
    wrap (picture (32 + length found.media + length found.text + length found.bytes)) (λ found. block_of.Picture found) m (PictureOf (32 + length found.media + length found.text + length found.bytes)) s.picture_spelling
    (picture_tie (32 + length found.media + length found.text + length found.bytes) small m) found (record { is = fits; size = refl }) text is
content_each (block_of.Other kind bytes) text small kept order sheet fits is m =
    other_spells kind (length bytes) (reserved_from kind kept) m text (block_of.Other kind bytes) (other_each kind bytes fits m text is)

-- ---- the block

seen_kind : (seen : Seen) (b : Block) → is_forbidden b ≡ false → came seen b ≡ is_repeated seen (s.kind_of b)
seen_kind seen (block_of.StreamInfo info) h = first_is seen.stream_info
  where
    first_is : (a : Bool) → a ≡ is_repeated (record seen { stream_info = a }) 0
    first_is true = refl
    first_is false = refl
seen_kind seen (block_of.Padding n) h = refl
seen_kind seen (block_of.Application id bytes) h = refl
seen_kind seen (block_of.SeekTable points) h = third_is seen.seek_table
  where
    third_is : (a : Bool) → a ≡ is_repeated (record seen { seek_table = a }) 3
    third_is true = refl
    third_is false = refl
seen_kind seen (block_of.VorbisComment found) h = refl
seen_kind seen (block_of.CueSheet found) h = refl
seen_kind seen (block_of.Picture found) h = refl
seen_kind seen (block_of.Other kind bytes) h =
    let le = reserved_from kind h in
    let a = other_kind kind 0 le (omega arith) in
    let b = other_kind kind 3 le (omega arith) in
    let c = other_kind kind 4 le (omega arith) in
    rw (a, b, c) refl

right_length : (b : Block) → is_forbidden b ≡ false → is_wrong_length (s.kind_of b) (s.length_of b) ≡ false
right_length (block_of.StreamInfo info) h = refl
right_length (block_of.Padding n) h = refl
right_length (block_of.Application id bytes) h = let e = less_not (4 + length bytes) 4 (omega arith) in rw e refl
right_length (block_of.SeekTable points) h = let e : 18 * length points % 18 ≡ 0 = omega arith in rw e refl
right_length (block_of.VorbisComment found) h = refl
right_length (block_of.CueSheet found) h = refl
right_length (block_of.Picture found) h = refl
right_length (block_of.Other kind bytes) h =
    let le = reserved_from kind h in
    let a = other_kind kind 0 le (omega arith) in
    let b = other_kind kind 2 le (omega arith) in
    let c = other_kind kind 3 le (omega arith) in
    rw (a, b, c) refl

kind_small : (b : Block) → is_forbidden b ≡ false → s.kind_of b < 127
kind_small (block_of.StreamInfo info) h = omega arith
kind_small (block_of.Padding n) h = omega arith
kind_small (block_of.Application id bytes) h = omega arith
kind_small (block_of.SeekTable points) h = omega arith
kind_small (block_of.VorbisComment found) h = omega arith
kind_small (block_of.CueSheet found) h = omega arith
kind_small (block_of.Picture found) h = omega arith
kind_small (block_of.Other kind bytes) h = reserved_below kind h

-- the rules of what may be written, one by one
record Writable (a b c d : Bool) : Type 0 where
  kept : a ≡ false
  small : b ≡ false
  order : c ≡ false
  sheet : d ≡ false

abbrev fault : Bool → Bool → Bool → Bool → Option Why
fault a b c d = first_broken (
    record { broken = a; why = why.ForbiddenType } ∷ record { broken = b; why = why.BlockLength } ∷ record { broken = c; why = why.SeekOrder } ∷ record { broken = d; why = why.CueSheet } ∷ [])

no_fault : (a b c d : Bool) → Writable a b c d → fault a b c d ≡ None
no_fault a b c d w = let i = w.kept in let j = w.small in let k = w.order in let l = w.sheet in rw (i, j, k, l) refl

no_rule : (a b c d : Bool) → fault a b c d ≡ None → Writable a b c d
no_rule false false false false h = record { kept = refl; small = refl; order = refl; sheet = refl }
no_rule true b c d h = absurd cc
no_rule false true c d h = absurd cc
no_rule false false true d h = absurd cc
no_rule false false false true h = absurd cc

rules_of : (b : Block) → block_fault b ≡ None → Writable (is_forbidden b) (nat_lt 16777215 (s.length_of b)) (is_out_of_order b) (has_bad_sheet b)
rules_of b h = no_rule (is_forbidden b) (nat_lt 16777215 (s.length_of b)) (is_out_of_order b) (has_bad_sheet b) h

size_fits : (n : ℕ) → n < 2 ^ 24 → nat_lt 16777215 n ≡ false
size_fits n h = less_not 16777215 n (omega arith)

fits_size : (n : ℕ) → nat_lt 16777215 n ≡ false → n < 2 ^ 24
fits_size n h = let k = not_less 16777215 n h in omega arith

kept_is : (seen : Seen) (h : BlockHeader) → IsHeader seen h → (b : Block) (text : List Bool) → Content h.kind h.length b text → IsBlock seen b
kept_is seen h v b text c =
    let is = c.is in let size = c.length in let small : s.length_of b < 2 ^ 24 = omega (arith, v.size) in
    record {
      first = λ e. is ∙ v.first e;
      once = seen_kind seen b c.kept ∙ ap (is_repeated seen) is ∙ v.once;
      written = no_fault (is_forbidden b) (nat_lt 16777215 (s.length_of b)) (is_out_of_order b) (has_bad_sheet b) (record { kept = c.kept; small = size_fits (s.length_of b) small; order = c.order; sheet = c.sheet });
      fits = c.fits;
    }

abbrev same_header : Bool → ℕ → ℕ → List Bool → List Bool
same_header last kind size text = joined (s.header_spelling last kind size ∷ text ∷ [])

block_only : (seen : Seen) (m : Mark) (text : List Bool) (last : Bool) (b : Block) → Spells (block seen) m text (last, b) → IsBlock seen b × BlockSpelled last b text
unfolding block
block_only seen m text last b (h, front, rest, split, sh, (body, part, more, split', sc, (nil, is))) =
    let o = (header_tie seen m).only front h sh in
    let v = o.0 in
    let c = content_only h.kind h.length v.kind v.size v.right (past front m) part body sc in
    let k = made h.kind h.length body b part c (ap (λ p. p.1) is) in (
      kept_is seen h v b part k,
      (
        part,
        k.spelled,
        split ∙ ap (λ r. front ++ r) split' ∙ ap (λ r. front ++ (part ++ r)) nil ∙ ap (λ f. f ++ (part ++ [])) o.1
            ∙ ap (λ l. same_header l h.kind h.length part) (ap (λ p. p.0) is) ∙ ap (λ i. same_header last i h.length part) (sym k.is) ∙ ap (λ n. same_header last (s.kind_of b) n part) (sym k.length),
      ),
    )

block_each : (seen : Seen) (m : Mark) (text : List Bool) (last : Bool) (b : Block) → IsBlock seen b → BlockSpelled last b text → Spells (block seen) m text (last, b)
unfolding block
block_each seen m text last b v (part, spelled, is) =
    let r = rules_of b v.written in
    let h : BlockHeader = record { last = last; kind = s.kind_of b; length = s.length_of b } in
    let front : List Bool = s.header_spelling last (s.kind_of b) (s.length_of b) in
    let size = fits_size (s.length_of b) r.small in (
      h,
      front,
      part ++ [],
      is,
      (header_tie seen m).each h (record { kind = kind_small b r.kept; size = size; first = v.first; once = sym (seen_kind seen b r.kept) ∙ v.once; right = right_length b r.kept }),
      (b, part, [], refl, content_each b part size r.kept r.order r.sheet v.fits spelled (past front m), (refl, refl)),
    )

pub blocks_spelled : BlocksAreSpelled
blocks_spelled seen m text last b = (block_only seen m text last b, λ k. block_each seen m text last b k.0 k.1)

-- what is written is one of the spellings
written : (b : Block) → ContentSpelled b (s.content_spelling b)
unfolding s.content_spelling
written (block_of.StreamInfo info) = refl
written (block_of.Padding n) = (0, pow_pos (8 * n), sym (zeros_are (8 * n)))
written (block_of.Application id bytes) = refl
written (block_of.SeekTable points) = refl
written (block_of.VorbisComment found) = refl
written (block_of.CueSheet found) = refl
written (block_of.Picture found) = refl
written (block_of.Other kind bytes) = refl

block_written : (last : Bool) (b : Block) → BlockSpelled last b (s.block_spelling last b)
unfolding s.block_spelling
block_written last b = (s.content_spelling b, written b, refl)

pub blocks_again : BlocksAreReadAgain
blocks_again seen m rest last b v = again (block seen) m (s.block_spelling last b) rest (last, b) (block_each seen m (s.block_spelling last b) last b v (block_written last b))
