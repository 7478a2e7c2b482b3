-- A file whose blocks were read, and edits of its comments.
use Rattle.std.proofs.Common.{◌≡◌, ◌≤◌, ◌<◌, ◌⊎◌, ◌+◌, inl, ⊎_elim, ℕ, Bool, List, ◌∷◌, ◌++◌, length, length-append, drop, get_or, append_assoc, sym, ap, subst, ◌∙◌, arith}
use Rattle.std.proofs.lemmas.List.{at_drop_more}
use Rattle.flac_bits.specs.Bits.{bits_of}
use Rattle.flac_bits.specs.State.{Mark, Cursor}
use Rattle.flac_info.specs.Info.{Info}
use Rattle.flac_meta.specs.declared.block.Block.{Block}
use Rattle.flac_meta.specs.declared.block.Block.TheVariants as block_of
use Rattle.flac_meta.specs.declared.comments.Comments.{Comments}
use Rattle.flac_native.specs.Retag.{BeginsWith, AreRead}
use Rattle.flac_native.specs.Rewriting.{head_of}
use Rattle.flac_native.proofs.OneHead.{heads_are_one}
use Rattle.flac_edit.specs.Device.{Timeline, Only, LeavesOnly}
use Rattle.flac_edit.specs.Edited.{edited}
use Rattle.flac_edit.specs.Places.{slots_of, total_of, HasBlocks, IsEdited, IsOldOrEdited, LeavesOldOrEdited, ReadsOldOrEdited, HasComments}
use Rattle.flac_edit.specs.Tagged.{comments_among, new_comments, LeavesOldOrTagged, ReadsOldOrTagged, IsTagged, ChangesNothing, other_of, others_of, arranged, RewritesAt}
use Rattle.flac_edit.specs.declared.edits.Edit.{Edit}
use Rattle.flac_edit.specs.declared.slots.Slot.{Slot}
use Rattle.flac_edit.proofs.EditedOrder.{total_same}
use Rattle.flac_edit.proofs.Heads as heads
use Rattle.flac_edit.proofs.Moments.{still}
use Rattle.flac_edit.proofs.Spelled.{blocks_long}

module _ (m : Mark) (file : List ℕ) (blocks : List Block) (left : List Bool) (are : AreRead (record { left = bits_of file; mark = m }) blocks left) where
  -- no other blocks are there
  only_blocks : (info : Info) (list : List Block) (rest : List Bool) → BeginsWith m (bits_of file) info list rest → block_of.StreamInfo info ∷ list ≡ blocks
  only_blocks info list rest begins =
      let same = (heads_are_one m (bits_of file)).heads info are.info list are.others rest left begins are.begins in
      ap (λ (i : Info). block_of.StreamInfo i ∷ list) same.0 ∙ ap (λ (l : List Block). block_of.StreamInfo are.info ∷ l) same.1 ∙ sym are.are

  has_blocks : (info : Info) (list : List Block) (rest : List Bool) → BeginsWith m (bits_of file) info list rest → HasBlocks m (slots_of blocks) info list rest file
  has_blocks info list rest begins = record { begins = begins; slots_are = ap slots_of (only_blocks info list rest begins) }

  -- nor other comments
  own_comments : (info : Info) (list : List Block) (rest : List Bool) → BeginsWith m (bits_of file) info list rest → comments_among list ≡ comments_among blocks
  own_comments info list rest begins = ap comments_among (only_blocks info list rest begins)

  pub fits : 4 + total_of (slots_of blocks) ≤ length file
  fits =
      let h = heads.head_of m file are.info are.others left are.begins in
      let r = h.reads in
      let size : length r.head ≡ total_of (slots_of blocks) = blocks_long h.blocks r.head r.spelled ∙ sym (total_same h.blocks) ∙ ap (λ (l : List Block). total_of (slots_of l)) (h.are ∙ sym are.are) in
      omega (arith, ap length r.file_is, length-append r.marker (r.head ++ h.frames), length-append r.head h.frames, r.marker_is.four, size)

  module _ (edits : List Edit) where
    pub tagged_leaves : (old now : Timeline) → LeavesOldOrEdited (slots_of blocks) (new_comments edits blocks) file old now → LeavesOldOrTagged m edits file old now
    tagged_leaves old now run = λ info list rest begins.
        subst (λ (c : Comments). LeavesOnly old now (IsOldOrEdited m (edited edits c) info list rest)) (sym (own_comments info list rest begins)) (run m info list rest (has_blocks info list rest begins))

    pub tagged_reads : (now : List ℕ) → ReadsOldOrEdited (slots_of blocks) (new_comments edits blocks) file now → ReadsOldOrTagged m edits file now
    tagged_reads now run = λ info list rest begins.
        subst (λ (c : Comments). IsOldOrEdited m (edited edits c) info list rest now) (sym (own_comments info list rest begins)) (run m info list rest (has_blocks info list rest begins))

    pub is_tagged : (now : List ℕ) → HasComments (slots_of blocks) (new_comments edits blocks) file now → IsTagged m edits file now
    is_tagged now run = λ info list rest begins.
        subst (λ (c : Comments). IsEdited m (edited edits c) info list rest now) (sym (own_comments info list rest begins)) (run m info list rest (has_blocks info list rest begins))

    pub changes_nothing : new_comments edits blocks ≡ comments_among blocks → ChangesNothing m edits file
    changes_nothing same = λ info list rest begins. subst (λ (c : Comments). edited edits c ≡ c) (sym (own_comments info list rest begins)) same

    pub nothing_changes : ChangesNothing m edits file → new_comments edits blocks ≡ comments_among blocks
    nothing_changes none = subst (λ (c : Comments). edited edits c ≡ c) (own_comments are.info are.others left are.begins) (none are.info are.others left are.begins)

-- nothing was written
pub untouched : (m : Mark) (edits : List Edit) (file : List ℕ) (old : Timeline) → Only file old → ((c : List ℕ) → old.left_since old.moment c → old.may_leave c) → LeavesOldOrTagged m edits file old old
untouched m edits file old only now = λ info list rest begins.
    still old (IsOldOrEdited m (new_comments edits list) info list rest) (λ c left. inl (subst (λ (f : List ℕ). BeginsWith m (bits_of f) info list rest) (sym (only c (now c left))) begins))

pub unread : (m : Mark) (edits : List Edit) (file : List ℕ) → ReadsOldOrTagged m edits file file
unread m edits file = λ info list rest begins. inl begins

-- what was read of the source was read of the file
pub of_file : (m : Mark) (coming seen : List ℕ) (blocks slice : List Block) (left : List Bool) → coming ≡ seen → slice ≡ blocks → AreRead (record { left = bits_of coming; mark = m }) blocks left → AreRead (record { left = bits_of seen; mark = m }) slice left
of_file m coming seen blocks slice left same is are =
    subst (λ (l : List Block). AreRead (record { left = bits_of seen; mark = m }) l left) (sym is) (subst (λ (f : List ℕ). AreRead (record { left = bits_of f; mark = m }) blocks left) same are)

module _ {S : Type 0} (old new : S) (m : Mark) (edits : List Edit) (slice : List Block) (left : List Bool) where
  pub moments : (time : S → Timeline) (file : List ℕ) → AreRead (record { left = bits_of file; mark = m }) slice left → Only file (time old) → ((c : List ℕ) → (time old).left_since (time old).moment c → (time old).may_leave c)
      → (new ≡ old) ⊎ LeavesOldOrEdited (slots_of slice) (new_comments edits slice) file (time old) (time new) → LeavesOldOrTagged m edits file (time old) (time new)
  moments time file are only now is =
      ⊎_elim (λ same. subst (λ (d : S). LeavesOldOrTagged m edits file (time old) (time d)) (sym same) (untouched m edits file (time old) only now)) (λ run. tagged_leaves m file slice left are edits (time old) (time new) run) is

  pub readings : (seen : S → List ℕ) → AreRead (record { left = bits_of (seen old); mark = m }) slice left
      → (new ≡ old) ⊎ ReadsOldOrEdited (slots_of slice) (new_comments edits slice) (seen old) (seen new) → ReadsOldOrTagged m edits (seen old) (seen new)
  readings seen are is =
      ⊎_elim (λ same. subst (λ (d : S). ReadsOldOrTagged m edits (seen old) (seen d)) (sym same) (unread m edits (seen old))) (λ run. tagged_reads m (seen old) slice left are edits (seen new) run) is

-- the same slots and comments by other names
pub of_slots : (slots more : List Slot) (c d : Comments) (file : List ℕ) (old now : Timeline) → slots ≡ more → c ≡ d → LeavesOldOrEdited slots c file old now → LeavesOldOrEdited more d file old now
of_slots slots more c d file old now s e run = subst (λ (k : Comments). LeavesOldOrEdited more k file old now) e (subst (λ (l : List Slot). LeavesOldOrEdited l c file old now) s run)

-- ---- in a new file

-- the other blocks from an index on
others_step : (blocks : List Block) (i : ℕ) (b : Block) → i < length blocks → b ≡ get_or blocks i b → others_of (drop i blocks) ≡ other_of b ++ others_of (drop (i + 1) blocks)
others_step blocks i b lt is = at_drop_more others_of blocks i b lt ∙ ap (λ (x : Block). other_of x ++ others_of (drop (i + 1) blocks)) (sym is)

pub others_more : (blocks : List Block) (i : ℕ) (b : Block) (kept more : List Block) → i < length blocks → b ≡ get_or blocks i b → more ≡ kept ++ other_of b → kept ++ others_of (drop i blocks) ≡ others_of blocks → more ++ others_of (drop (i + 1) blocks) ≡ others_of blocks
others_more blocks i b kept more lt is added inv =
    ap (λ (l : List Block). l ++ others_of (drop (i + 1) blocks)) added ∙ append_assoc kept (other_of b) (others_of (drop (i + 1) blocks)) ∙ ap (λ (l : List Block). kept ++ l) (sym (others_step blocks i b lt is)) ∙ inv

pub rewritten : (c : Cursor) (edits : List Edit) (padding : ℕ) (blocks list : List Block) (rest before after : List Bool) → AreRead c blocks rest → list ≡ arranged edits padding blocks → after ≡ before ++ (head_of list ++ rest)
    → RewritesAt c edits padding before after
rewritten c edits padding blocks list rest before after are is sent = record {
  info = are.info;
  list = are.others;
  rest = rest;
  input = are.begins;
  output = sent ∙ ap (λ (l : List Block). before ++ (head_of l ++ rest)) (is ∙ ap (arranged edits padding) are.are);
}
