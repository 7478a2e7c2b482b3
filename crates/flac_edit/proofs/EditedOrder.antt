-- Blocks with other comments are in order, as the old ones are.
use Rattle.std.proofs.Common.{◌≡◌, ℕ, ◌+◌, ◌≤◌, Bool, true, false, cond, List, [], ◌∷◌, ◌++◌, All, None, refl, sym, ap, subst, ◌∙◌, arith}
use Rattle.std.specs.List.{count_by}
use Rattle.std.proofs.lemmas.List.{map-append}
use Rattle.std.proofs.lemmas.List.Elements.{All-nil, All-cons, All-head, All-tail, All-append}
use Rattle.std.proofs.lemmas.List.Sums.{sum_by-append, sum_by-cons}
use Rattle.flac_bits.specs.Bits.{bit_value}
use Rattle.flac_info.specs.Info.{Info}
use Rattle.flac_meta.specs.Listed.{block_fault}
use Rattle.flac_meta.specs.Valid.{IsComments}
use Rattle.flac_meta.specs.declared.comments.Comments.{Comments}
use Rattle.flac_meta.specs.declared.block.Block.{Block}
use Rattle.flac_meta.specs.declared.block.Block.TheVariants as block_of
use Rattle.flac_native.specs.Retag.{is_comment}
use Rattle.flac_native.specs.BlockOrder.{is_stream_info, is_seek_table, IsValid, AreInOrder, MarkedBlock, without_marks}
use Rattle.flac_edit.specs.Places.{slot_of, slots_of, total_of, are_paddings, is_run, comments_of, AreEdited}
use Rattle.flac_edit.specs.inner.Reads.{AreBlocks, total}
use Rattle.flac_edit.specs.inner.Chosen.{marked_slots}
use Rattle.flac_edit.specs.declared.slots.Slot.{Slot}
use Rattle.flac_edit.proofs.Collecting.{not_above, no_fault}
use Rattle.flac_edit.proofs.Runs.{total_is}
use Rattle.flac_edit.proofs.Spelled.{split_blocks}

-- ---- how many blocks of a kind a run has

counted : (p : Block → Bool) (b : Block) (bs : List Block) → count_by p (b ∷ bs) ≡ bit_value (p b) + count_by p bs
counted p b bs = sum_by-cons (λ x. cond (p x) 1 0) b bs

none_counted : (p : Block → Bool) (b : Block) (bs : List Block) (n : ℕ) → p b ≡ false → count_by p bs ≡ n → count_by p (b ∷ bs) ≡ n
none_counted p b bs n never is = let e : count_by p (b ∷ bs) ≡ bit_value false + count_by p bs = counted p b bs ∙ ap (λ k. bit_value k + count_by p bs) never in omega (arith, e, is)

one_counted : (p : Block → Bool) (b : Block) (bs : List Block) → p b ≡ true → count_by p bs ≡ 0 → count_by p (b ∷ bs) ≡ 1
one_counted p b bs always is = let e : count_by p (b ∷ bs) ≡ bit_value true + count_by p bs = counted p b bs ∙ ap (λ k. bit_value k + count_by p bs) always in omega (arith, e, is)

paddings_counted : (p : Block → Bool) → ((n : ℕ) → p (block_of.Padding n) ≡ false) → (xs : List MarkedBlock) → are_paddings (marked_slots xs) ≡ true → count_by p (without_marks xs) ≡ 0
paddings_counted p never [] are = refl
paddings_counted p never ((m, block_of.Padding n) ∷ xs) are = none_counted p (block_of.Padding n) (without_marks xs) 0 (never n) (paddings_counted p never xs are)
paddings_counted p never ((m, block_of.StreamInfo i) ∷ xs) are = absurd cc
paddings_counted p never ((m, block_of.Application id bytes) ∷ xs) are = absurd cc
paddings_counted p never ((m, block_of.SeekTable points) ∷ xs) are = absurd cc
paddings_counted p never ((m, block_of.VorbisComment found) ∷ xs) are = absurd cc
paddings_counted p never ((m, block_of.CueSheet sheet) ∷ xs) are = absurd cc
paddings_counted p never ((m, block_of.Picture found) ∷ xs) are = absurd cc
paddings_counted p never ((m, block_of.Other kind bytes) ∷ xs) are = absurd cc

-- as many as a comment block has, 0 or 1
run_counted : (p : Block → Bool) (k : Bool) → ((n : ℕ) → p (block_of.Padding n) ≡ false) → ((c : Comments) → p (block_of.VorbisComment c) ≡ k) → (xs : List MarkedBlock) → is_run (marked_slots xs) ≡ true → count_by p (without_marks xs) ≡ bit_value k
run_counted p k never is [] run = absurd cc
run_counted p k never is ((m, block_of.Padding n) ∷ xs) run = none_counted p (block_of.Padding n) (without_marks xs) (bit_value k) (never n) (run_counted p k never is xs run)
run_counted p true never is ((m, block_of.VorbisComment c) ∷ xs) run = one_counted p (block_of.VorbisComment c) (without_marks xs) (is c) (paddings_counted p never xs run)
run_counted p false never is ((m, block_of.VorbisComment c) ∷ xs) run = none_counted p (block_of.VorbisComment c) (without_marks xs) 0 (is c) (paddings_counted p never xs run)
run_counted p k never is ((m, block_of.StreamInfo i) ∷ xs) run = absurd cc
run_counted p k never is ((m, block_of.Application id bytes) ∷ xs) run = absurd cc
run_counted p k never is ((m, block_of.SeekTable points) ∷ xs) run = absurd cc
run_counted p k never is ((m, block_of.CueSheet sheet) ∷ xs) run = absurd cc
run_counted p k never is ((m, block_of.Picture found) ∷ xs) run = absurd cc
run_counted p k never is ((m, block_of.Other kind bytes) ∷ xs) run = absurd cc

-- ---- three parts

pub parts : (xs ys zs : List MarkedBlock) → without_marks (xs ++ (ys ++ zs)) ≡ without_marks xs ++ (without_marks ys ++ without_marks zs)
parts xs ys zs = map-append (λ (b : MarkedBlock). b.1) xs (ys ++ zs) ∙ ap (λ l. without_marks xs ++ l) (map-append (λ (b : MarkedBlock). b.1) ys zs)

parts_counted : (p : Block → Bool) (xs ys zs : List Block) → count_by p (xs ++ (ys ++ zs)) ≡ count_by p xs + (count_by p ys + count_by p zs)
parts_counted p xs ys zs = sum_by-append (λ x. cond (p x) 1 0) xs (ys ++ zs) ∙ ap (λ n. count_by p xs + n) (sum_by-append (λ x. cond (p x) 1 0) ys zs)

-- as many blocks of a kind as before
same_counted : (p : Block → Bool) (k : Bool) → ((n : ℕ) → p (block_of.Padding n) ≡ false) → ((c : Comments) → p (block_of.VorbisComment c) ≡ k) → (front run mid rest : List MarkedBlock) → is_run (marked_slots run) ≡ true → is_run (marked_slots mid) ≡ true
    → count_by p (without_marks (front ++ (mid ++ rest))) ≡ count_by p (without_marks (front ++ (run ++ rest)))
same_counted p k never is front run mid rest old new =
    let a = ap (count_by p) (parts front mid rest) ∙ parts_counted p (without_marks front) (without_marks mid) (without_marks rest) in
    let b = ap (count_by p) (parts front run rest) ∙ parts_counted p (without_marks front) (without_marks run) (without_marks rest) in
    a ∙ ap (λ n. count_by p (without_marks front) + (n + count_by p (without_marks rest))) (run_counted p k never is mid new ∙ sym (run_counted p k never is run old)) ∙ sym b

-- ---- each block is valid

all_first : (xs ys : List Block) → All IsValid (xs ++ ys) → All IsValid xs
all_first [] ys all = All-nil IsValid
all_first (x ∷ xs) ys all = All-cons IsValid x xs (All-head IsValid x (xs ++ ys) all) (all_first xs ys (All-tail IsValid x (xs ++ ys) all))

all_second : (xs ys : List Block) → All IsValid (xs ++ ys) → All IsValid ys
all_second [] ys all = all
all_second (x ∷ xs) ys all = all_second xs ys (All-tail IsValid x (xs ++ ys) all)

padding_fault : (n : ℕ) → n ≤ 16777215 → block_fault (block_of.Padding n) ≡ None
padding_fault n le = rw (not_above n le) refl

padding_valid : (n : ℕ) → n ≤ 16777215 → IsValid (block_of.Padding n)
padding_valid n le = record { written = padding_fault n le; fits = tt }

paddings_valid : (xs : List MarkedBlock) (bytes : List ℕ) → are_paddings (marked_slots xs) ≡ true → AreBlocks xs bytes → All IsValid (without_marks xs)
paddings_valid [] bytes are spelled = All-nil IsValid
paddings_valid ((m, block_of.Padding n) ∷ xs) bytes are (one, rest, is, more, split) = All-cons IsValid (block_of.Padding n) (without_marks xs) (padding_valid n is.short) (paddings_valid xs rest are more)
paddings_valid ((m, block_of.StreamInfo i) ∷ xs) bytes are spelled = absurd cc
paddings_valid ((m, block_of.Application id content) ∷ xs) bytes are spelled = absurd cc
paddings_valid ((m, block_of.SeekTable points) ∷ xs) bytes are spelled = absurd cc
paddings_valid ((m, block_of.VorbisComment found) ∷ xs) bytes are spelled = absurd cc
paddings_valid ((m, block_of.CueSheet sheet) ∷ xs) bytes are spelled = absurd cc
paddings_valid ((m, block_of.Picture found) ∷ xs) bytes are spelled = absurd cc
paddings_valid ((m, block_of.Other kind content) ∷ xs) bytes are spelled = absurd cc

abbrev first_comments : Comments → List Comments → Comments
first_comments d [] = d
first_comments d (c ∷ cs) = c

run_valid : (new : Comments) (xs : List MarkedBlock) (bytes : List ℕ) → IsComments new → is_run (marked_slots xs) ≡ true → comments_of (without_marks xs) ≡ new ∷ [] → AreBlocks xs bytes → All IsValid (without_marks xs)
run_valid new [] bytes fits run holds spelled = absurd cc
run_valid new ((m, block_of.Padding n) ∷ xs) bytes fits run holds (one, rest, is, more, split) =
    All-cons IsValid (block_of.Padding n) (without_marks xs) (padding_valid n is.short) (run_valid new xs rest fits run holds more)
run_valid new ((m, block_of.VorbisComment c) ∷ xs) bytes fits run holds (one, rest, is, more, split) =
    let same : c ≡ new = ap (first_comments c) holds in
    All-cons IsValid (block_of.VorbisComment c) (without_marks xs) (record { written = no_fault c is.short; fits = subst IsComments (sym same) fits }) (paddings_valid xs rest run more)
run_valid new ((m, block_of.StreamInfo i) ∷ xs) bytes fits run holds spelled = absurd cc
run_valid new ((m, block_of.Application id content) ∷ xs) bytes fits run holds spelled = absurd cc
run_valid new ((m, block_of.SeekTable points) ∷ xs) bytes fits run holds spelled = absurd cc
run_valid new ((m, block_of.CueSheet sheet) ∷ xs) bytes fits run holds spelled = absurd cc
run_valid new ((m, block_of.Picture found) ∷ xs) bytes fits run holds spelled = absurd cc
run_valid new ((m, block_of.Other kind content) ∷ xs) bytes fits run holds spelled = absurd cc

-- ---- all blocks

abbrev pub with_info : Info → List Block → List Block
with_info i list = block_of.StreamInfo i ∷ list

pub slots_same : (xs : List MarkedBlock) → marked_slots xs ≡ slots_of (without_marks xs)
slots_same [] = refl
slots_same (x ∷ xs) = ap (λ (l : List Slot). slot_of x.1 ∷ l) (slots_same xs)

pub total_same : (xs : List MarkedBlock) → total_of (slots_of (without_marks xs)) ≡ total xs
total_same xs = ap total_of (sym (slots_same xs)) ∙ total_is xs

-- STREAMINFO is in no run
not_in_run : (info : Info) (list : List Block) (xs ys : List MarkedBlock) → without_marks (xs ++ ys) ≡ with_info info list → is_run (marked_slots xs) ≡ true → ⊥
not_in_run info list [] ys is run = absurd cc
not_in_run info list ((m, block_of.StreamInfo i) ∷ xs) ys is run = absurd cc
not_in_run info list ((m, block_of.Padding n) ∷ xs) ys is run = absurd cc
not_in_run info list ((m, block_of.Application id bytes) ∷ xs) ys is run = absurd cc
not_in_run info list ((m, block_of.SeekTable points) ∷ xs) ys is run = absurd cc
not_in_run info list ((m, block_of.VorbisComment found) ∷ xs) ys is run = absurd cc
not_in_run info list ((m, block_of.CueSheet sheet) ∷ xs) ys is run = absurd cc
not_in_run info list ((m, block_of.Picture found) ∷ xs) ys is run = absurd cc
not_in_run info list ((m, block_of.Other kind bytes) ∷ xs) ys is run = absurd cc

-- what the new blocks are
pub record AreNew (new : Comments) (info : Info) (list : List Block) (news : List MarkedBlock) : Type 0 where
  pub first : MarkedBlock
  pub others : List MarkedBlock
  pub list_new : List Block
  pub news_are : news ≡ first ∷ others
  pub are : without_marks (first ∷ others) ≡ with_info info list_new
  pub edited : AreEdited new list list_new
  pub order : AreInOrder (without_marks (first ∷ others))

abbrev tail_blocks : List Block → List Block
tail_blocks [] = []
tail_blocks (b ∷ bs) = bs

abbrev first_block : Block → List Block → Block
first_block d [] = d
first_block d (b ∷ bs) = b

module _ (new : Comments) (info : Info) (list : List Block) (fits : IsComments new) where
  pub are_new : (front run mid rest : List MarkedBlock) (bytes : List ℕ) → without_marks (front ++ (run ++ rest)) ≡ with_info info list → AreInOrder (without_marks (front ++ (run ++ rest))) → is_run (marked_slots run) ≡ true
      → is_run (marked_slots mid) ≡ true → comments_of (without_marks mid) ≡ new ∷ [] → total mid ≡ total run → AreBlocks (front ++ (mid ++ rest)) bytes → AreNew new info list (front ++ (mid ++ rest))
  are_new [] run mid rest bytes is order old mine holds long spelled = absurd (not_in_run info list run rest is old)
  are_new (f ∷ fs) run mid rest bytes is order old mine holds long spelled =
      let one : f.1 ≡ block_of.StreamInfo info = ap (first_block f.1) is in
      let others : list ≡ without_marks (fs ++ (run ++ rest)) = sym (ap tail_blocks is) in
      let fresh = without_marks (fs ++ (mid ++ rest)) in
      let are : without_marks ((f ∷ fs) ++ (mid ++ rest)) ≡ with_info info fresh = ap (λ b. b ∷ fresh) one in
      let bits = split_blocks (f ∷ fs) (mid ++ rest) bytes spelled in
      let inner = split_blocks mid rest bits.1 bits.3 in
      let each : All IsValid (without_marks (f ∷ fs) ++ (without_marks run ++ without_marks rest)) = subst (λ l. All IsValid l) (parts (f ∷ fs) run rest) order.each in
      let a = all_first (without_marks (f ∷ fs)) (without_marks run ++ without_marks rest) each in
      let c = all_second (without_marks run) (without_marks rest) (all_second (without_marks (f ∷ fs)) (without_marks run ++ without_marks rest) each) in
      let b = run_valid new mid inner.0 fits mine holds inner.2 in
      let all : All IsValid (without_marks (f ∷ fs) ++ (without_marks mid ++ without_marks rest)) =
      All-append IsValid (without_marks (f ∷ fs)) (without_marks mid ++ without_marks rest) a (All-append IsValid (without_marks mid) (without_marks rest) b c) in
      record {
        first = f;
        others = fs ++ (mid ++ rest);
        list_new = fresh;
        news_are = refl;
        are = are;
        edited = record {
          front = without_marks fs;
          run = without_marks run;
          mid = without_marks mid;
          rest = without_marks rest;
          olds_are = others ∙ parts fs run rest;
          news_are = parts fs mid rest;
          run_is = ap is_run (sym (slots_same run)) ∙ old;
          mid_is = ap is_run (sym (slots_same mid)) ∙ mine;
          holds = holds;
          long = total_same mid ∙ long ∙ sym (total_same run);
        };
        order = record {
          info = info;
          others = fresh;
          first = are;
          one_info = subst (λ n. n ≤ 1) (sym (same_counted is_stream_info false (λ n. refl) (λ c. refl) (f ∷ fs) run mid rest old mine)) order.one_info;
          one_table = subst (λ n. n ≤ 1) (sym (same_counted is_seek_table false (λ n. refl) (λ c. refl) (f ∷ fs) run mid rest old mine)) order.one_table;
          one_comment = subst (λ n. n ≤ 1) (sym (same_counted is_comment true (λ n. refl) (λ c. refl) (f ∷ fs) run mid rest old mine)) order.one_comment;
          each = subst (λ l. All IsValid l) (sym (parts (f ∷ fs) mid rest)) all;
        };
      }
