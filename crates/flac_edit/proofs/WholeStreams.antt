-- A stream with another head of the same STREAMINFO is a stream of the same frames.
use Rattle.std.proofs.Common.{◌≡◌, inl, inr, ⊎_elim, ℕ, Bool, List, [], ◌∷◌, ◌++◌, map, Some, refl, sym, ap, subst, ◌∙◌}
use Rattle.std.specs.List.{sum_by, flat_map}
use Rattle.std.proofs.lemmas.List.{append_cancel_left}
use Rattle.flac_bits.specs.Bits.{bits_of}
use Rattle.flac_bits.specs.State.{Mark}
use Rattle.flac_bits.specs.Meaning.{AllKept}
use Rattle.flac_info.specs.Info.{Info}
use Rattle.flac_header.specs.declared.subset.Profile.{Profile}
use Rattle.flac_meta.specs.declared.block.Block.{Block}
use Rattle.flac_frame.specs.Frame.{Frame}
use Rattle.flac_frame.specs.Follows.{AreFrames, Follows}
use Rattle.flac_native.specs.Message.{frame_message}
use Rattle.flac_native.specs.Stream.{Piece, marked, framed, end_rules}
use Rattle.flac_native.specs.Given.{closing}
use Rattle.flac_native.specs.Whole.{head_parts}
use Rattle.flac_native.specs.Retag.{BeginsWith}
use Rattle.flac_native.specs.BlockOrder.{part_of}
use Rattle.flac_native.specs.Ordered.{IsOrdered}
use Rattle.flac_native.proofs.OneHead.{heads_are_one}
use Rattle.flac_native.proofs.Ordered.{streams_are_ordered}
use Rattle.flac_edit.specs.Streams.{items_of, IsStream, StreamsStay}
use Rattle.flac_edit.proofs.EditedOrder.{with_info}
use Rattle.flac_edit.proofs.Heads.{Headed, headed, begins_bits, closes}

-- the rules of the end, which know STREAMINFO and the frames
abbrev KeptBy : Info → List Frame → Type 0
KeptBy i fs = AllKept (end_rules (Some i) (sum_by (λ f. f.size) fs) (flat_map (frame_message i.depth) fs))

same_info : (i j : Info) (l k : List Block) → with_info i l ≡ with_info j k → i ≡ j
same_info i j l k e = cc

one_frame : (f g : Frame) (fs gs : List Frame) → map framed (f ∷ fs) ≡ map framed (g ∷ gs) → (f ≡ g) × (map framed fs ≡ map framed gs)
one_frame f g fs gs e = (let p : f ≡ g = cc in p, let q : map framed fs ≡ map framed gs = cc in q)

pub same_frames : (fs gs : List Frame) → map framed fs ≡ map framed gs → fs ≡ gs
same_frames [] [] e = refl
same_frames [] (g ∷ gs) e = absurd cc
same_frames (f ∷ fs) [] e = absurd cc
same_frames (f ∷ fs) (g ∷ gs) e = let h = one_frame f g fs gs e in ap (λ (l : List Frame). f ∷ l) (same_frames fs gs h.1) ∙ ap (λ (k : Frame). k ∷ gs) h.0

-- the parts of ordered blocks are those of the list
parts_are : (info : Info) (list : List Block) (text rest : List Bool) (h : Headed info list rest text) → map part_of h.blocks ≡ closing (with_info info list)
parts_are info list text rest h = closes h.blocks h.ordered.marks ∙ ap closing h.are

pub other_head : (profile : Profile) (m : Mark) (info : Info) (list news : List Block) (frames : List Frame) (rest : List Bool) (file left : List ℕ) → m.unread ≡ 0 → IsStream profile m (items_of info list frames) file → BeginsWith m (bits_of file) info list rest
    → BeginsWith m (bits_of left) info news rest → IsStream profile m (items_of info news frames) left
other_head profile m info list news frames rest file left z stream begins new =
    let o : IsOrdered profile m (items_of info list frames) (bits_of file) = (streams_are_ordered profile m (items_of info list frames) (bits_of file) z).0 stream in
    let mine : BeginsWith m (bits_of file) o.blocks.order.info o.blocks.order.others o.rest = begins_bits m (bits_of file) o.list o.head o.rest o.blocks.order.info o.blocks.order.others o.stands o.blocks o.blocks.order.first in
    let same = (heads_are_one m (bits_of file)).heads o.blocks.order.info info o.blocks.order.others list o.rest rest mine begins in
    let h = headed m (bits_of left) info news rest new in
    let info_same : o.blocks.order.info ≡ h.ordered.order.info = same.0 ∙ sym (same_info h.ordered.order.info info h.ordered.order.others news (sym h.ordered.order.first ∙ h.are)) in
    let old_parts : map part_of o.list ≡ closing (with_info info list) =
    closes o.list o.blocks.marks ∙ ap closing o.blocks.order.first ∙ ap (λ (i : Info). closing (with_info i o.blocks.order.others)) same.0 ∙ ap (λ (l : List Block). closing (with_info info l)) same.1 in
    let frames_same : frames ≡ o.frames = same_frames frames o.frames (append_cancel_left (head_parts info list) (map framed frames) (map framed o.frames) (o.parts ∙ ap (λ (l : List Piece). marked ∷ (l ++ map framed o.frames)) old_parts)) in
    let ordered : IsOrdered profile m (items_of info news frames) (bits_of left) = record {
      list = h.blocks;
      frames = o.frames;
      parts = ap (λ (l : List Frame). items_of info news l) frames_same ∙ ap (λ (l : List Piece). marked ∷ (l ++ map framed o.frames)) (sym (parts_are info news (bits_of left) rest h));
      head = h.head;
      rest = rest;
      stands = h.is;
      blocks = h.ordered;
      headers = o.headers;
      are = subst (λ (t : List Bool). AreFrames profile h.ordered.order.info (Some 16777215) m o.headers o.frames t) same.2 (subst (λ (i : Info). AreFrames profile i (Some 16777215) m o.headers o.frames o.rest) info_same o.are);
      follow = subst (λ (i : Info). Follows profile i o.headers) info_same o.follow;
      kept = subst (λ (i : Info). KeptBy i o.frames) info_same o.kept;
    } in
    (streams_are_ordered profile m (items_of info news frames) (bits_of left) z).1 ordered

pub streams_stay : StreamsStay
streams_stay profile m new info list frames rest file left z stream begins is =
    ⊎_elim (λ same. inl (other_head profile m info list list frames rest file left z stream begins same)) (λ e. inr (record { news = e.news; edited = e.edited; stream = other_head profile m info list e.news frames rest file left z stream begins e.begins })) is
