-- What is chosen among the blocks of a file.
use Rattle.std.proofs.Common.{◌≡◌, inl, inr, ⊎_elim, ℕ, ◌+◌, ◌≤◌, ◌<◌, ◌^◌, Bool, true, List, [], ◌∷◌, ◌++◌, length, take, drop, nat_eq, sym, ◌∙◌, ap, subst, arith, append_assoc, take-append-drop}
use Rattle.flac_bits.specs.Bits.{is_nil}
use Rattle.flac_meta.specs.Spelling.{comments_length}
use Rattle.flac_meta.specs.declared.comments.Comments.{Comments}
use Rattle.flac_meta.specs.declared.block.Block.{Block}
use Rattle.flac_meta.specs.declared.block.Block.TheVariants as block_of
use Rattle.flac_edit.specs.Device.{Timeline, LeavesOnly}
use Rattle.flac_edit.specs.inner.Reads.{Reads, HasRun, IsOldOrNew, AreMarked, total}
use Rattle.flac_edit.specs.inner.Changed.{news_before, news_after}
use Rattle.flac_edit.specs.Places.{total_of, is_run}
use Rattle.flac_edit.specs.inner.Chosen.{marked_slots, AreChanged, IsOldOrChanged}
use Rattle.flac_edit.specs.declared.slots.Slot.{Slot}
use Rattle.flac_edit.specs.declared.slots.Slot.TheVariants as slot
use Rattle.flac_edit.proofs.Moments.{weaker}
use Rattle.flac_edit.proofs.Runs.{run_some, slots-append, marked_after, slots-take, slots-drop, slots-length, total_is, total-append, BeginsPadded, begins_padded, nil_by_length, has_run, edited_before, edited_after}

-- blocks, padding, and blocks, of which some are told apart
pub record CutBefore (slots front back others more rest : List Slot) (i count p : ℕ) : Type 0 where
  pub front_is : front ≡ take i slots
  pub back_is : back ≡ drop i slots
  pub padded : back ≡ slot.Padding p ∷ others
  pub more_is : more ≡ take count others
  pub rest_is : rest ≡ drop count others

pub sum_before : (slots front back others more rest : List Slot) (i count p : ℕ) → CutBefore slots front back others more rest i count p → total_of slots ≡ total_of front + (4 + p + (total_of more + total_of rest))
sum_before slots front back others more rest i count p cut =
    let all : slots ≡ front ++ back = sym (take-append-drop i slots) ∙ ap (λ (l : List Slot). l ++ drop i slots) (sym cut.front_is) ∙ ap (λ (l : List Slot). front ++ l) (sym cut.back_is) in
    let some : others ≡ more ++ rest = sym (take-append-drop count others) ∙ ap (λ (l : List Slot). l ++ drop count others) (sym cut.more_is) ∙ ap (λ (l : List Slot). more ++ l) (sym cut.rest_is) in
    ap total_of all ∙ total-append front back ∙ omega (arith, ap total_of cut.padded, ap total_of some, total-append more rest)

-- the blocks
pub record BlocksBefore (slots front more rest : List Slot) (p : ℕ) (blocks : List (Bool × Block)) : Type 0 where
  pub preceding : List (Bool × Block)
  pub mark : Bool
  pub run : List (Bool × Block)
  pub following : List (Bool × Block)
  pub are : blocks ≡ preceding ++ (((mark, block_of.Padding p) ∷ run) ++ following)
  pub preceding_long : total preceding ≡ total_of front
  pub run_are : marked_slots run ≡ more
  pub run_long : total run ≡ total_of more
  pub following_nil : is_nil following ≡ nat_eq (length rest) 0

pub blocks_before : (slots front back others more rest : List Slot) (i count p : ℕ) → CutBefore slots front back others more rest i count p → (blocks : List (Bool × Block)) → marked_slots blocks ≡ slots → BlocksBefore slots front more rest p blocks
blocks_before slots front back others more rest i count p cut blocks is =
    let b : BeginsPadded p others (drop i blocks) = begins_padded p others (drop i blocks) (slots-drop i blocks ∙ ap (drop i) is ∙ sym cut.back_is ∙ cut.padded) in
    let run_are : marked_slots (take count b.others) ≡ more = slots-take count b.others ∙ ap (take count) b.slots ∙ sym cut.more_is in
    let following_are : marked_slots (drop count b.others) ≡ rest = slots-drop count b.others ∙ ap (drop count) b.slots ∙ sym cut.rest_is in
    record {
      preceding = take i blocks;
      mark = b.mark;
      run = take count b.others;
      following = drop count b.others;
      are = sym (take-append-drop i blocks) ∙ ap (λ (l : List (Bool × Block)). take i blocks ++ l) (b.is ∙ ap (λ (l : List (Bool × Block)). (b.mark, block_of.Padding p) ∷ l) (sym (take-append-drop count b.others)));
      preceding_long = sym (total_is (take i blocks)) ∙ ap total_of (slots-take i blocks ∙ ap (take i) is ∙ sym cut.front_is);
      run_are = run_are;
      run_long = sym (total_is (take count b.others)) ∙ ap total_of run_are;
      following_nil = sym (nil_by_length (drop count b.others)) ∙ ap (λ n. nat_eq n 0) (sym (slots-length (drop count b.others)) ∙ ap length following_are);
    }

module _ (slots front back others more rest : List Slot) (i count p at following : ℕ) (last : Bool) (new : Comments) (cut : CutBefore slots front back others more rest i count p) (at_is : at ≡ 4 + total_of front) (following_is : following ≡ total_of more) (last_is : last ≡ nat_eq (length rest) 0) (run : is_run more ≡ true) (room : comments_length new + 4 ≤ p) (blocks : List (Bool × Block)) (frames file : List ℕ) (is : marked_slots blocks ≡ slots) (marked : AreMarked blocks) (reads : Reads blocks frames file) where
  abbrev pub Any : (List (Bool × Block) → List (Bool × Block) → Type 0) → Type 0
  Any Q = (front : List (Bool × Block)) (more : List (Bool × Block)) (rest : List (Bool × Block)) (mark : Bool) → HasRun front ((mark, block_of.Padding p) ∷ more) rest frames at (4 + p + following) file
      → Q (front ++ (((mark, block_of.Padding p) ∷ more) ++ rest)) (front ++ (news_before p following last new ++ rest))

  pub chosen_before : (Q : List (Bool × Block) → List (Bool × Block) → Type 0) → Any Q → (news : List (Bool × Block)) × AreChanged new blocks news × Q blocks news
  chosen_before Q any =
      let b = blocks_before slots front back others more rest i count p cut blocks is in
      let s = has_run b.preceding ((b.mark, block_of.Padding p) ∷ b.run) b.following frames file (subst (λ (l : List (Bool × Block)). Reads l frames file) b.are reads) in
      let at_same : 4 + total b.preceding ≡ at = ap (λ n. 4 + n) b.preceding_long ∙ sym at_is in
      let size_same : 4 + p + total b.run ≡ 4 + p + following = ap (λ n. 4 + p + n) (b.run_long ∙ sym following_is) in
      let s_at : HasRun b.preceding ((b.mark, block_of.Padding p) ∷ b.run) b.following frames at (4 + p + following) file =
      subst (λ n. HasRun b.preceding ((b.mark, block_of.Padding p) ∷ b.run) b.following frames at n file) size_same (subst (λ n. HasRun b.preceding ((b.mark, block_of.Padding p) ∷ b.run) b.following frames n (4 + p + total b.run) file) at_same s) in
      let news = b.preceding ++ (news_before p following last new ++ b.following) in (
        news,
        edited_before b.preceding b.run b.following b.mark last p following new blocks b.are marked (ap is_run b.run_are ∙ run) (b.run_long ∙ sym following_is) room (last_is ∙ sym b.following_nil),
        subst (λ (l : List (Bool × Block)). Q l news) (sym b.are) (any b.preceding b.run b.following b.mark s_at),
      )

-- the same after the comments
pub record CutAfter (slots front back heads tail rest : List Slot) (i count p : ℕ) : Type 0 where
  pub front_is : front ≡ take i slots
  pub back_is : back ≡ drop i slots
  pub heads_is : heads ≡ take count back
  pub tail_is : tail ≡ drop count back
  pub padded : tail ≡ slot.Padding p ∷ rest

pub sum_after : (slots front back heads tail rest : List Slot) (i count p : ℕ) → CutAfter slots front back heads tail rest i count p → total_of slots ≡ total_of front + (total_of heads + (4 + p + total_of rest))
sum_after slots front back heads tail rest i count p cut =
    let all : slots ≡ front ++ back = sym (take-append-drop i slots) ∙ ap (λ (l : List Slot). l ++ drop i slots) (sym cut.front_is) ∙ ap (λ (l : List Slot). front ++ l) (sym cut.back_is) in
    let some : back ≡ heads ++ tail = sym (take-append-drop count back) ∙ ap (λ (l : List Slot). l ++ drop count back) (sym cut.heads_is) ∙ ap (λ (l : List Slot). heads ++ l) (sym cut.tail_is) in
    ap total_of all ∙ total-append front back ∙ omega (arith, ap total_of cut.padded, ap total_of some, total-append heads tail)

module _ (slots front back heads tail rest : List Slot) (i count p at preceding : ℕ) (last : Bool) (new : Comments) (cut : CutAfter slots front back heads tail rest i count p) (at_is : at ≡ 4 + total_of front) (preceding_is : preceding ≡ total_of heads) (last_is : last ≡ nat_eq (length rest) 0) (run : is_run heads ≡ true) (room : comments_length new + 8 ≤ p) (blocks : List (Bool × Block)) (frames file : List ℕ) (is : marked_slots blocks ≡ slots) (marked : AreMarked blocks) (reads : Reads blocks frames file) where
  abbrev pub AnyAfter : (List (Bool × Block) → List (Bool × Block) → Type 0) → Type 0
  AnyAfter Q = (front : List (Bool × Block)) (heads : List (Bool × Block)) (rest : List (Bool × Block)) → HasRun front (heads ++ (last, block_of.Padding p) ∷ []) rest frames at (preceding + 4 + p) file
      → Q (front ++ ((heads ++ (last, block_of.Padding p) ∷ []) ++ rest)) (front ++ (news_after preceding p last new ++ rest))

  pub chosen_after : (Q : List (Bool × Block) → List (Bool × Block) → Type 0) → AnyAfter Q → (news : List (Bool × Block)) × AreChanged new blocks news × Q blocks news
  chosen_after Q any =
      let back_is : marked_slots (drop i blocks) ≡ back = slots-drop i blocks ∙ ap (drop i) is ∙ sym cut.back_is in
      let bheads = take count (drop i blocks) in
      let heads_are : marked_slots bheads ≡ heads = slots-take count (drop i blocks) ∙ ap (take count) back_is ∙ sym cut.heads_is in
      let b : BeginsPadded p rest (drop count (drop i blocks)) = begins_padded p rest (drop count (drop i blocks)) (slots-drop count (drop i blocks) ∙ ap (drop count) back_is ∙ sym cut.tail_is ∙ cut.padded) in
      let front_long : total (take i blocks) ≡ total_of front = sym (total_is (take i blocks)) ∙ ap total_of (slots-take i blocks ∙ ap (take i) is ∙ sym cut.front_is) in
      let heads_long : total bheads ≡ preceding = sym (total_is bheads) ∙ ap total_of heads_are ∙ sym preceding_is in
      let nil : is_nil b.others ≡ nat_eq (length rest) 0 = sym (nil_by_length b.others) ∙ ap (λ n. nat_eq n 0) (sym (slots-length b.others) ∙ ap length b.slots) in
      let split : blocks ≡ take i blocks ++ (bheads ++ ((b.mark, block_of.Padding p) ∷ b.others)) =
      sym (take-append-drop i blocks) ∙ ap (λ (l : List (Bool × Block)). take i blocks ++ l) (sym (take-append-drop count (drop i blocks)) ∙ ap (λ (l : List (Bool × Block)). bheads ++ l) b.is) in
      let at_end : AreMarked ((b.mark, block_of.Padding p) ∷ b.others) =
      marked_after bheads ((b.mark, block_of.Padding p) ∷ b.others) (marked_after (take i blocks) (bheads ++ ((b.mark, block_of.Padding p) ∷ b.others)) (subst (λ (l : List (Bool × Block)). AreMarked l) split marked)) in
      let mark_is : b.mark ≡ last = at_end.0 ∙ nil ∙ sym last_is in
      let are : blocks ≡ take i blocks ++ ((bheads ++ (last, block_of.Padding p) ∷ []) ++ b.others) =
      split ∙ ap (λ (m : Bool). take i blocks ++ (bheads ++ ((m, block_of.Padding p) ∷ b.others))) mark_is ∙ ap (λ (l : List (Bool × Block)). take i blocks ++ l) (sym (append_assoc bheads ((last, block_of.Padding p) ∷ []) b.others)) in
      let s = has_run (take i blocks) (bheads ++ (last, block_of.Padding p) ∷ []) b.others frames file (subst (λ (l : List (Bool × Block)). Reads l frames file) are reads) in
      let at_same : 4 + total (take i blocks) ≡ at = ap (λ n. 4 + n) front_long ∙ sym at_is in
      let size_same : total (bheads ++ (last, block_of.Padding p) ∷ []) ≡ preceding + 4 + p =
      sym (total_is (bheads ++ (last, block_of.Padding p) ∷ [])) ∙ ap total_of (slots-append bheads ((last, block_of.Padding p) ∷ [])) ∙ omega (arith, total-append (marked_slots bheads) (slot.Padding p ∷ []), total_is bheads, heads_long) in
      let s_at : HasRun (take i blocks) (bheads ++ (last, block_of.Padding p) ∷ []) b.others frames at (preceding + 4 + p) file =
      subst (λ n. HasRun (take i blocks) (bheads ++ (last, block_of.Padding p) ∷ []) b.others frames at n file) size_same (subst (λ n. HasRun (take i blocks) (bheads ++ (last, block_of.Padding p) ∷ []) b.others frames n (total (bheads ++ (last, block_of.Padding p) ∷ [])) file) at_same s) in
      let news = take i blocks ++ (news_after preceding p last new ++ b.others) in (
        news,
        edited_after (take i blocks) bheads b.others last preceding p new blocks are marked (ap is_run heads_are ∙ run) heads_long room (last_is ∙ sym nil),
        subst (λ (l : List (Bool × Block)). Q l news) (sym are) (any (take i blocks) bheads b.others s_at),
      )

-- a crash leaves the old blocks or changed ones
pub or_changed : (old new : Timeline) (comments : Comments) (blocks news : List (Bool × Block)) (frames : List ℕ) → AreChanged comments blocks news → LeavesOnly old new (IsOldOrNew blocks news frames) → LeavesOnly old new (IsOldOrChanged comments blocks frames)
or_changed old new comments blocks news frames are run =
    weaker old new (IsOldOrChanged comments blocks frames) (IsOldOrNew blocks news frames) (λ c is. ⊎_elim (λ same. inl same) (λ reads. inr (record { news = news; changed = are; reads = reads })) is) run

pub in_range : (all a p m r : ℕ) → all ≡ a + (4 + p + (m + r)) → 4 + all < 2 ^ 64 → (a < 2 ^ 64) × (4 + a < 2 ^ 64) × (m < 2 ^ 64) × (4 + a + 4 + p + m ≤ 4 + all)
in_range all a p m r is counted = (omega (arith, is, counted), omega (arith, is, counted), omega (arith, is, counted), omega (arith, is))

pub in_range_after : (all a p m r : ℕ) → all ≡ a + (m + (4 + p + r)) → 4 + all < 2 ^ 64 → (a < 2 ^ 64) × (4 + a < 2 ^ 64) × (m < 2 ^ 64) × (4 + a + m + 4 + p ≤ 4 + all)
in_range_after all a p m r is counted = (omega (arith, is, counted), omega (arith, is, counted), omega (arith, is, counted), omega (arith, is))

pub some_run : (n : ℕ) (ss : List Slot) → n ≡ total_of ss → is_run ss ≡ true → 4 ≤ n
some_run n ss is run = omega (arith, is, run_some ss run)
