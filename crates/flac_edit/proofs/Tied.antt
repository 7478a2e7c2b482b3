-- What an edit in place leaves, as the grammar of streams reads it.
use Rattle.std.proofs.Common.{◌≡◌, inl, inr, ⊎_elim, Bool, List, ◌∷◌, [], sym, ap, subst, ◌∙◌, ℕ}
use Rattle.flac_bits.specs.Bits.{bits_of}
use Rattle.flac_bits.specs.State.{Mark}
use Rattle.flac_info.specs.Info.{Info}
use Rattle.flac_meta.specs.Valid.{IsComments}
use Rattle.flac_meta.specs.declared.comments.Comments.{Comments}
use Rattle.flac_meta.specs.declared.block.Block.{Block}
use Rattle.flac_native.specs.Retag.{BeginsWith}
use Rattle.flac_native.specs.BlockOrder.{AreInOrder, MarkedBlock, without_marks}
use Rattle.flac_edit.specs.Device.{Timeline}
use Rattle.flac_edit.specs.Places.{slots_of, IsEdited, IsOldOrEdited, LeavesOldOrEdited, HasComments}
use Rattle.flac_edit.specs.inner.Reads.{AreBlocks, AreMarked, Reads}
use Rattle.flac_edit.specs.inner.Chosen.{AreChanged, ReadsChanged, IsOldOrChanged, HasSlots, LeavesOldOrChanged, HasChanged}
use Rattle.flac_edit.specs.declared.slots.Slot.{Slot}
use Rattle.flac_edit.proofs.EditedOrder.{with_info, slots_same, AreNew, are_new}
use Rattle.flac_edit.proofs.Heads.{Head, head_of, begins}
use Rattle.flac_edit.proofs.Moments.{weaker}

not_empty : (info : Info) (list : List Block) → without_marks [] ≡ with_info info list → ⊥
not_empty info list e = absurd cc

-- the old blocks
old : (m : Mark) (info : Info) (list : List Block) (blocks : List MarkedBlock) (frames c : List ℕ) → Reads blocks frames c → AreMarked blocks → without_marks blocks ≡ with_info info list → AreInOrder (without_marks blocks)
    → BeginsWith m (bits_of c) info list (bits_of frames)
old m info list [] frames c r marks are order = absurd (not_empty info list are)
old m info list (b ∷ bs) frames c r marks are order = begins m c b bs frames info list r marks are order

-- the new ones
changed : (new : Comments) (info : Info) (list : List Block) (blocks news : List MarkedBlock) (head : List ℕ) → IsComments new → without_marks blocks ≡ with_info info list → AreInOrder (without_marks blocks) → AreChanged new blocks news → AreBlocks news head
    → AreNew new info list news
changed new info list blocks news head fits are order c spelled =
    let was = ap without_marks c.olds_are in
    let n = are_new new info list fits c.front c.run c.mid c.rest head (sym was ∙ are) (subst AreInOrder was order) c.run_is c.mid_is c.holds c.long (subst (λ l. AreBlocks l head) c.news_are spelled) in
    subst (λ l. AreNew new info list l) (sym c.news_are) n

pub is_edited : (m : Mark) (new : Comments) (info : Info) (list : List Block) (rest : List Bool) (file c : List ℕ) (h : Head info list rest file) → IsComments new → ReadsChanged new h.blocks h.frames c → IsEdited m new info list rest c
is_edited m new info list rest file c h fits r =
    let n = changed new info list h.blocks r.news r.reads.head fits h.are h.order r.changed r.reads.spelled in
    let reads = subst (λ l. Reads l h.frames c) n.news_are r.reads in
    let marks = subst AreMarked n.news_are r.changed.marked in
    record {
      news = n.list_new;
      edited = n.edited;
      begins = subst (λ t. BeginsWith m (bits_of c) info n.list_new t) h.rest_is (begins m c n.first n.others h.frames info n.list_new reads marks n.are n.order);
    }

pub old_or_edited : (m : Mark) (new : Comments) (info : Info) (list : List Block) (rest : List Bool) (file c : List ℕ) (h : Head info list rest file) → IsComments new → IsOldOrChanged new h.blocks h.frames c → IsOldOrEdited m new info list rest c
old_or_edited m new info list rest file c h fits is =
    ⊎_elim (λ r. inl (subst (λ t. BeginsWith m (bits_of c) info list t) h.rest_is (old m info list h.blocks h.frames c r h.marked h.are h.order))) (λ r. inr (is_edited m new info list rest file c h fits r)) is

has_slots : (slots : List Slot) (info : Info) (list : List Block) (rest : List Bool) (file : List ℕ) (h : Head info list rest file) → slots_of (with_info info list) ≡ slots → HasSlots slots h.blocks h.frames file
has_slots slots info list rest file h are = record { slots_are = slots_same h.blocks ∙ ap slots_of h.are ∙ are; marked = h.marked; reads = h.reads }

pub leaves : (slots : List Slot) (new : Comments) (file : List ℕ) (before now : Timeline) → IsComments new → LeavesOldOrChanged slots new file before now → LeavesOldOrEdited slots new file before now
leaves slots new file before now fits run = λ m info list rest has.
    let h = head_of m file info list rest has.begins in
    weaker before now (IsOldOrEdited m new info list rest) (IsOldOrChanged new h.blocks h.frames) (λ c is. old_or_edited m new info list rest file c h fits is) (run h.blocks h.frames (has_slots slots info list rest file h has.slots_are))

pub has_comments : (slots : List Slot) (new : Comments) (file now : List ℕ) → IsComments new → HasChanged slots new file now → HasComments slots new file now
has_comments slots new file now fits run = λ m info list rest has.
    let h = head_of m file info list rest has.begins in
    is_edited m new info list rest file now h fits (run h.blocks h.frames (has_slots slots info list rest file h has.slots_are))
