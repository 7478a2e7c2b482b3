-- Runs of padding and comments among the blocks of a file.
use Rattle.std.proofs.Common.{◌≡◌, ℕ, zero, suc, ◌+◌, ◌≤◌, Bool, true, false, List, [], ◌∷◌, ◌++◌, length, take, drop, nat_eq, refl, sym, ◌∙◌, ap, subst, arith, append_assoc, length-append}
use Rattle.std.proofs.lemmas.Bool.Decides.{nat_tests}
use Rattle.flac_bits.specs.Bits.{is_nil}
use Rattle.flac_meta.specs.Spelling.{length_of, comments_length}
use Rattle.flac_meta.specs.declared.comments.Comments.{Comments}
use Rattle.flac_meta.specs.declared.block.Block.{Block}
use Rattle.flac_meta.specs.declared.block.Block.TheVariants as block_of
use Rattle.flac_edit.specs.inner.Reads.{Reads, HasRun, AreMarked, total}
use Rattle.flac_edit.specs.inner.Changed.{news_before, news_after}
use Rattle.flac_edit.specs.Places.{slot_of, size_of, total_of, are_paddings, is_run}
use Rattle.flac_edit.specs.inner.Chosen.{marked_slots, AreChanged}
use Rattle.flac_edit.specs.declared.slots.Slot.{Slot}
use Rattle.flac_edit.specs.declared.slots.Slot.TheVariants as slot
use Rattle.flac_edit.proofs.Spelled.{split_blocks, blocks_long}

-- ---- slots

pub slots-append : (xs ys : List (Bool × Block)) → marked_slots (xs ++ ys) ≡ marked_slots xs ++ marked_slots ys
slots-append [] ys = refl
slots-append (x ∷ xs) ys = ap (λ (l : List Slot). slot_of x.1 ∷ l) (slots-append xs ys)

pub slots-take : (n : ℕ) (xs : List (Bool × Block)) → marked_slots (take n xs) ≡ take n (marked_slots xs)
slots-take zero xs = refl
slots-take (suc n) [] = refl
slots-take (suc n) (x ∷ xs) = ap (λ (l : List Slot). slot_of x.1 ∷ l) (slots-take n xs)

pub slots-drop : (n : ℕ) (xs : List (Bool × Block)) → marked_slots (drop n xs) ≡ drop n (marked_slots xs)
slots-drop zero xs = refl
slots-drop (suc n) [] = refl
slots-drop (suc n) (x ∷ xs) = slots-drop n xs

pub slots-length : (xs : List (Bool × Block)) → length (marked_slots xs) ≡ length xs
slots-length [] = refl
slots-length (x ∷ xs) = ap suc (slots-length xs)

size_is : (b : Block) → size_of (slot_of b) ≡ length_of b
size_is (block_of.StreamInfo info) = refl
size_is (block_of.Padding n) = refl
size_is (block_of.Application id bytes) = refl
size_is (block_of.SeekTable points) = refl
size_is (block_of.VorbisComment found) = refl
size_is (block_of.CueSheet sheet) = refl
size_is (block_of.Picture found) = refl
size_is (block_of.Other kind bytes) = refl

pub total_is : (xs : List (Bool × Block)) → total_of (marked_slots xs) ≡ total xs
total_is [] = refl
total_is (x ∷ xs) = omega (arith, size_is x.1, total_is xs)

pub total-append : (xs ys : List Slot) → total_of (xs ++ ys) ≡ total_of xs + total_of ys
total-append [] ys = omega arith
total-append (x ∷ xs) ys = omega (arith, total-append xs ys)

-- a block that is padding
pub record BeginsPadded (p : ℕ) (ss : List Slot) (xs : List (Bool × Block)) : Type 0 where
  pub mark : Bool
  pub others : List (Bool × Block)
  pub is : xs ≡ (mark, block_of.Padding p) ∷ others
  pub slots : marked_slots others ≡ ss

head_of : List Slot → Slot
head_of [] = slot.Other 0
head_of (s ∷ ss) = s

tail_of : List Slot → List Slot
tail_of [] = []
tail_of (s ∷ ss) = ss

size_in : Slot → ℕ
size_in (slot.Padding n) = n
size_in (slot.Comments n) = 0
size_in (slot.Other n) = 0

is_padding : Slot → Bool
is_padding (slot.Padding n) = true
is_padding (slot.Comments n) = false
is_padding (slot.Other n) = false

padding_only : (b : Block) (p : ℕ) → slot_of b ≡ slot.Padding p → b ≡ block_of.Padding p
unfolding is_padding size_in
padding_only (block_of.StreamInfo info) p e = absurd cc
padding_only (block_of.Padding n) p e = ap block_of.Padding (ap size_in e)
padding_only (block_of.Application id bytes) p e = absurd cc
padding_only (block_of.SeekTable points) p e = absurd cc
padding_only (block_of.VorbisComment found) p e = absurd cc
padding_only (block_of.CueSheet sheet) p e = absurd cc
padding_only (block_of.Picture found) p e = absurd cc
padding_only (block_of.Other kind bytes) p e = absurd cc

pub begins_padded : (p : ℕ) (ss : List Slot) (xs : List (Bool × Block)) → marked_slots xs ≡ slot.Padding p ∷ ss → BeginsPadded p ss xs
unfolding head_of tail_of is_padding
begins_padded p ss [] e = absurd cc
begins_padded p ss ((mark, b) ∷ xs) e = record {
  mark = mark;
  others = xs;
  is = ap (λ c. (mark, c) ∷ xs) (padding_only b p (ap head_of e));
  slots = ap tail_of e;
}

pub run_padded : (ss : List Slot) (p : ℕ) → is_run ss ≡ true → is_run (ss ++ slot.Padding p ∷ []) ≡ true
run_padded [] p is = absurd cc
run_padded (slot.Padding n ∷ ss) p is = run_padded ss p is
run_padded (slot.Comments n ∷ ss) p is = padded ss is
  where
    padded : (ts : List Slot) → are_paddings ts ≡ true → are_paddings (ts ++ slot.Padding p ∷ []) ≡ true
    padded [] is = refl
    padded (slot.Padding n ∷ ts) is = padded ts is
    padded (slot.Comments n ∷ ts) is = absurd cc
    padded (slot.Other n ∷ ts) is = absurd cc
run_padded (slot.Other n ∷ ss) p is = absurd cc

-- a run has at least the header of its comments
pub run_some : (ss : List Slot) → is_run ss ≡ true → 4 ≤ total_of ss
run_some [] is = absurd cc
run_some (s ∷ ss) is = omega arith

-- ---- marks

pub marked_after : (xs ys : List (Bool × Block)) → AreMarked (xs ++ ys) → AreMarked ys
marked_after [] ys are = are
marked_after (x ∷ xs) ys are = marked_after xs ys are.1

nil_same : (xs ys zs : List (Bool × Block)) → is_nil ys ≡ is_nil zs → is_nil (xs ++ ys) ≡ is_nil (xs ++ zs)
nil_same [] ys zs e = e
nil_same (x ∷ xs) ys zs e = refl

pub marked_swap : (xs ys zs : List (Bool × Block)) → AreMarked (xs ++ ys) → AreMarked zs → is_nil ys ≡ is_nil zs → AreMarked (xs ++ zs)
marked_swap [] ys zs are new e = new
marked_swap (x ∷ xs) ys zs are new e = (are.0 ∙ nil_same xs ys zs e, marked_swap xs ys zs are.1 new e)

pub nil_by_length : (xs : List (Bool × Block)) → nat_eq (length xs) 0 ≡ is_nil xs
nil_by_length [] = refl
nil_by_length (x ∷ xs) = grind (arith, nat_tests)

-- ---- a file's run

pub has_run : (front run rest : List (Bool × Block)) (frames file : List ℕ) → Reads (front ++ (run ++ rest)) frames file → HasRun front run rest frames (4 + total front) (total run) file
has_run front run rest frames file r =
    let a = split_blocks front (run ++ rest) r.head r.spelled in
    let b = split_blocks run rest a.1 a.3 in
    let assoc : r.marker ++ (r.head ++ frames) ≡ r.marker ++ (a.0 ++ (b.0 ++ (b.1 ++ frames))) =
    ap (λ (l : List ℕ). r.marker ++ (l ++ frames)) (a.4 ∙ ap (λ (l : List ℕ). a.0 ++ l) b.4)
    ∙ ap (λ (l : List ℕ). r.marker ++ l) (append_assoc a.0 (b.0 ++ b.1) frames ∙ ap (λ (l : List ℕ). a.0 ++ l) (append_assoc b.0 b.1 frames)) in
    record {
      marker = r.marker;
      before = a.0;
      inside = b.0;
      after = b.1;
      marker_is = r.marker_is;
      is = r.file_is ∙ assoc;
      begins = length-append r.marker a.0 ∙ omega (arith, r.marker_is.four, blocks_long front a.0 a.2);
      long = blocks_long run b.0 b.2;
      front_is = a.2;
      run_is = b.2;
      rest_is = b.3;
    }

-- the new blocks are changed ones
pub edited_before : (front more rest : List (Bool × Block)) (mark last : Bool) (padding following : ℕ) (new : Comments) (blocks : List (Bool × Block)) → blocks ≡ front ++ (((mark, block_of.Padding padding) ∷ more) ++ rest)
    → AreMarked blocks → is_run (marked_slots more) ≡ true → total more ≡ following → comments_length new + 4 ≤ padding → last ≡ is_nil rest
    → AreChanged new blocks (front ++ (news_before padding following last new ++ rest))
edited_before front more rest mark last padding following new blocks is marked run long room end =
    let olds = (mark, block_of.Padding padding) ∷ (more ++ rest) in
    let all : AreMarked (front ++ olds) = subst (λ (l : List (Bool × Block)). AreMarked l) is marked in
    let rest_marked : AreMarked rest = marked_after more rest (marked_after front olds all).1 in
    record {
      front = front;
      run = (mark, block_of.Padding padding) ∷ more;
      mid = news_before padding following last new;
      rest = rest;
      olds_are = is;
      news_are = refl;
      run_is = run;
      mid_is = refl;
      holds = refl;
      long = omega (arith, long, room);
      marked = marked_swap front olds (news_before padding following last new ++ rest) all (refl, (end, rest_marked)) refl;
    }

pub edited_after : (front heads rest : List (Bool × Block)) (last : Bool) (preceding padding : ℕ) (new : Comments) (blocks : List (Bool × Block)) → blocks ≡ front ++ ((heads ++ (last, block_of.Padding padding) ∷ []) ++ rest)
    → AreMarked blocks → is_run (marked_slots heads) ≡ true → total heads ≡ preceding → comments_length new + 8 ≤ padding → last ≡ is_nil rest
    → AreChanged new blocks (front ++ (news_after preceding padding last new ++ rest))
edited_after front [] rest last preceding padding new blocks is marked run long room end = absurd cc
edited_after front (h ∷ heads) rest last preceding padding new blocks is marked run long room end =
    let olds = ((h ∷ heads) ++ (last, block_of.Padding padding) ∷ []) ++ rest in
    let all : AreMarked (front ++ olds) = subst (λ (l : List (Bool × Block)). AreMarked l) is marked in
    let rest_marked : AreMarked rest = marked_after ((h ∷ heads) ++ (last, block_of.Padding padding) ∷ []) rest (marked_after front olds all) in
    let slots : marked_slots ((h ∷ heads) ++ (last, block_of.Padding padding) ∷ []) ≡ marked_slots (h ∷ heads) ++ slot.Padding padding ∷ [] = slots-append (h ∷ heads) ((last, block_of.Padding padding) ∷ []) in
    let longer : total ((h ∷ heads) ++ (last, block_of.Padding padding) ∷ []) ≡ preceding + (4 + padding) =
    sym (total_is ((h ∷ heads) ++ (last, block_of.Padding padding) ∷ [])) ∙ ap total_of slots ∙ omega (arith, total-append (marked_slots (h ∷ heads)) (slot.Padding padding ∷ []), total_is (h ∷ heads), long) in
    record {
      front = front;
      run = (h ∷ heads) ++ (last, block_of.Padding padding) ∷ [];
      mid = news_after preceding padding last new;
      rest = rest;
      olds_are = is;
      news_are = refl;
      run_is = ap is_run slots ∙ run_padded (marked_slots (h ∷ heads)) padding run;
      mid_is = refl;
      holds = refl;
      long = omega (arith, longer, room);
      marked = marked_swap front olds (news_after preceding padding last new ++ rest) all (refl, (refl, (end, rest_marked))) refl;
    }
