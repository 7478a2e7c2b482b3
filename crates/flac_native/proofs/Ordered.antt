-- The streams of the grammar are those that are in order: the marker, a list of blocks and a list of frames.
use Rattle.std.proofs.Common.{◌≡◌, ℕ, ◌%◌, Bool, true, false, not, nat_eq, List, [], ◌∷◌, ◌++◌, length, append_assoc, map, Option, Some, None, refl, sym, ap, subst, ◌∙◌, arith}
use Rattle.std.specs.List.{sum_by, flat_map}
use Rattle.std.proofs.lemmas.Bool.Decides.{nat_tests}
use Rattle.std.proofs.lemmas.List.{append-nil}
use Rattle.flac_bits.specs.Bits.{unsigned}
use Rattle.flac_bits.specs.State.{Mark, past, fresh}
use Rattle.flac_bits.specs.Meaning.{Spells, AllKept}
use Rattle.flac_bits.specs.Fence.{InRoom}
use Rattle.flac_bits.specs.Items.{Joined, state_after, mark_after}
use Rattle.flac_bits.proofs.ItemSpellings.{fresh_unread, fresh_check8, fresh_check16, after_whole}
use Rattle.flac_header.specs.Header.{Header}
use Rattle.flac_header.specs.declared.subset.Profile.{Profile}
use Rattle.flac_info.specs.Info.{Info, KeepsRules}
use Rattle.flac_meta.specs.declared.block.Block.{Block}
use Rattle.flac_meta.specs.declared.block.Block.TheVariants as block_of
use Rattle.flac_frame.specs.Frame.{Frame}
use Rattle.flac_frame.specs.Follows.{frames, AreFrames, Follows}
use Rattle.flac_frame.specs.declared.before.Before.{Before}
use Rattle.flac_frame.specs.Frame as frame
use Rattle.flac_frame.proofs.Following.{frames_follow}
use Rattle.flac_frame.proofs.FrameTie.{frames_spelled, frames_bytes}
use Rattle.flac_native.specs.Message.{frame_message}
use Rattle.flac_native.specs.Stream.{Piece, marked, framed, Stand, Progress, grammar, opening, next, layout, layout_in, marker, end_rules}
use Rattle.flac_native.specs.Given.{closing}
use Rattle.flac_native.specs.Retag.{Begins}
use Rattle.flac_native.specs.Whole.{head_parts, IsWhole}
use Rattle.flac_native.specs.BlockOrder.{MarkedBlock, LastIsMarked, without_marks, part_of, AreOrdered}
use Rattle.flac_native.specs.Ordered.{IsOrdered, StreamsAreOrdered}
use Rattle.flac_native.specs.declared.track.Phase.TheVariants.{Opening, Frames}
use Rattle.flac_native.proofs.BlockOrder.{closed, are_ordered, are_read}
use Rattle.flac_native.proofs.NewHead.{valid_after}
use Rattle.flac_native.proofs.OneHead.{closing_ends}
use Rattle.flac_native.proofs.Onwards.{Told, nothing_told, step_of}
use Rattle.flac_native.proofs.Streams.{marker_here}
use Rattle.flac_native.proofs.Whole as whole

-- ---- at any whole byte

abbrev most : Option ℕ
most = Some 16777215

room_any : (m k : Mark) (text : List Bool) → m.unread ≡ 0 → k.unread ≡ 0 → InRoom most m text → InRoom most k text
room_any m k text u z h = omega (arith, u, z, h)

-- frames are the same frames from any whole byte on
frames_any : (profile : Profile) (i : Info) (before : Option Before) (m k : Mark) (fs : List Frame) (text : List Bool) → KeepsRules i → m.unread ≡ 0 → k.unread ≡ 0 → Joined (frames profile i most) before m fs text → Joined (frames profile i most) before k fs text
frames_any profile i before m k [] text rules u z j = j
frames_any profile i before m k (f ∷ fs) text rules u z (front, rest, split, spelled, fits, others) =
    let here = (frames_spelled profile i before (fresh m) front f rules (fresh_unread m u) (fresh_check8 m u) (fresh_check16 m u)).0 spelled in
    let there = (frames_spelled profile i before (fresh k) front f rules (fresh_unread k z) (fresh_check8 k z) (fresh_check16 k z)).1 here in
    let bytes : length front % 8 ≡ 0 = ap (λ (t : List Bool). length t % 8) here.spelling ∙ frames_bytes i.depth here.form in (
      front,
      rest,
      split,
      there,
      room_any (fresh m) (fresh k) front (fresh_unread m u) (fresh_unread k z) fits,
      frames_any profile i (Some (frame.after_frame before f)) (past front (fresh m)) (past front (fresh k)) fs rest rules (after_whole front (fresh m) (fresh_unread m u) bytes) (after_whole front (fresh k) (fresh_unread k z) bytes) others,
    )

-- what is said of frames at one whole byte, at another
record AreThere (profile : Profile) (i : Info) (m : Mark) (fs : List Frame) (text : List Bool) : Type 0 where
  headers : List Header
  are : AreFrames profile i most m headers fs text
  follow : Follows profile i headers

moved : (profile : Profile) (i : Info) (m k : Mark) (hs : List Header) (fs : List Frame) (text : List Bool) → KeepsRules i → m.unread ≡ 0 → k.unread ≡ 0 → AreFrames profile i most m hs fs text → Follows profile i hs → AreThere profile i k fs text
moved profile i m k hs fs text rules u z are follow =
    let joined = (frames_follow profile i most m fs text).1 (hs, are, follow) in
    let there = (frames_follow profile i most k fs text).0 (frames_any profile i None m k fs text rules u z joined) in
    record { headers = there.0; are = there.1; follow = there.2 }

-- parts end at a whole byte
pub ends_whole : (p : Progress) (m : Mark) (items : List Piece) (text : List Bool) (j : Joined grammar p m items text) → Told p.stand.info → m.unread ≡ 0 → (mark_after grammar p m items text j).unread ≡ 0
ends_whole p m [] text j told u = u
ends_whole p m (x ∷ xs) text (front, rest, split, spelled, fits, others) told u =
    let s = step_of p.stand m front x told u spelled in
    ends_whole (next p x) (past front (fresh m)) xs rest others s.rules (after_whole front (fresh m) (fresh_unread m u) s.whole)

-- ---- the head

is_marker : (v : ℕ) → not (nat_eq v 0x664C6143) ≡ false → v ≡ 0x664C6143
is_marker v e = grind (arith, nat_tests)

marker_bits : (s : Stand) (m : Mark) (text : List Bool) (x : Piece) → Spells (layout_in Opening s) m text x → text ≡ unsigned 32 0x664C6143
unfolding marker
marker_bits s m text x (u, front, rest, split, (v, f, r, cut, (lt, is), (gone, kept)), (none, same)) =
    let all : text ≡ front = split ∙ ap (λ (k : List Bool). front ++ k) none ∙ append-nil front in
    let it : front ≡ f = cut ∙ ap (λ (k : List Bool). f ++ k) gone ∙ append-nil f in
    all ∙ it ∙ is ∙ ap (λ k. unsigned 32 k) (is_marker v kept.0)

marker_is : (profile : Profile) (m : Mark) (text : List Bool) (x : Piece) → Spells (layout (opening profile).stand) m text x → text ≡ unsigned 32 0x664C6143
unfolding layout
marker_is profile m text x h = marker_bits (opening profile).stand m text x h

abbrev with_info : Info → List Block → List Block
with_info i list = block_of.StreamInfo i ∷ list

same_first : (i j : Info) (l k : List Block) → with_info i l ≡ with_info j k → i ≡ j
same_first i j l k e = cc

-- a head, its blocks with their marks
record Headed (text : List Bool) (i : Info) (list : List Block) (rest : List Bool) : Type 0 where
  marks : List MarkedBlock
  parts : closing (with_info i list) ≡ map part_of marks
  head : List Bool
  stands : text ≡ unsigned 32 0x664C6143 ++ (head ++ rest)
  blocks : AreOrdered marks head
  info : i ≡ blocks.order.info

headed : (profile : Profile) (m : Mark) (text : List Bool) (i : Info) (list : List Block) (rest : List Bool) → Begins profile m text i list rest → Headed text i list rest
headed profile m text i list rest b = go b.head b.stands b.spelled
  where
    go : (head : List Bool) → text ≡ head ++ rest → Joined grammar (opening profile) m (head_parts i list) head → Headed text i list rest
    go head stands (front, after, split, spelled, fits, others) =
        let first = block_of.StreamInfo i in
        let bits = marker_is profile (fresh m) front marked spelled in
        let c = closed first list in
        let joined = subst (λ ys. Joined grammar (next (opening profile) marked) (past front (fresh m)) ys after) c.parts others in
        let over = subst (λ (ys : List Piece). (state_after grammar (next (opening profile) marked) ys).stand.phase ≡ Frames) c.parts (closing_ends (next (opening profile) marked) first list) in
        let blocks = are_ordered profile (past front (fresh m)) c.list after (record { spelled = joined; over = over }) in
        record {
          marks = c.list;
          parts = c.parts;
          head = after;
          stands = stands ∙ ap (λ t. t ++ rest) (split ∙ ap (λ t. t ++ after) bits) ∙ append_assoc (unsigned 32 0x664C6143) after rest;
          blocks = blocks;
          info = same_first i blocks.order.info list blocks.order.others (sym c.blocks ∙ blocks.order.first);
        }

-- where the last alone is marked, the parts are those of the list
closes : (list : List MarkedBlock) → LastIsMarked list → map part_of list ≡ closing (without_marks list)
closes [] marks = absurd marks
closes ((true, b) ∷ []) marks = refl
closes ((false, b) ∷ []) marks = absurd cc
closes ((true, b) ∷ c ∷ cs) (e, marks) = absurd cc
closes ((false, b) ∷ c ∷ cs) (e, marks) = ap (λ ys. part_of (false, b) ∷ ys) (closes (c ∷ cs) marks)

begins : (profile : Profile) (m : Mark) (text : List Bool) (list : List MarkedBlock) (head rest : List Bool) → text ≡ unsigned 32 0x664C6143 ++ (head ++ rest) → (o : AreOrdered list head) → Begins profile m text o.order.info o.order.others rest
begins profile m text list head rest stands o =
    let bits = unsigned 32 0x664C6143 in
    let r = are_read profile (past bits (fresh m)) list head o in
    let parts = closes list o.marks ∙ ap closing o.order.first in
    record {
      head = bits ++ head;
      stands = stands ∙ sym (append_assoc bits head rest);
      spelled = (bits, head, refl, marker_here profile (fresh m), tt, subst (λ ys. Joined grammar (next (opening profile) marked) (past bits (fresh m)) ys head) parts r.spelled);
    }

-- ---- the whole

abbrev AtEnd : Info → List Frame → Type 0
AtEnd i fs = AllKept (end_rules (Some i) (sum_by (λ f. f.size) fs) (flat_map (frame_message i.depth) fs))

to_order : (profile : Profile) (m : Mark) (items : List Piece) (text : List Bool) → m.unread ≡ 0 → IsWhole profile m items text → IsOrdered profile m items text
to_order profile m items text u w =
    let h = headed profile m text w.info w.list w.rest w.begins in
    let all = valid_after profile m w.info w.list w.begins.head w.begins.spelled in
    let k = mark_after grammar (opening profile) m (head_parts w.info w.list) w.begins.head w.begins.spelled in
    let z = ends_whole (opening profile) m (head_parts w.info w.list) w.begins.head w.begins.spelled nothing_told u in
    let f = moved profile w.info k m w.headers w.frames w.rest all.0.fits.rules z u w.are w.follow in
    record {
      list = h.marks;
      frames = w.frames;
      parts = w.parts ∙ ap (λ ys. marked ∷ (ys ++ map framed w.frames)) h.parts;
      head = h.head;
      rest = w.rest;
      stands = h.stands;
      blocks = h.blocks;
      headers = f.headers;
      are = subst (λ i. AreFrames profile i most m f.headers w.frames w.rest) h.info f.are;
      follow = subst (λ i. Follows profile i f.headers) h.info f.follow;
      kept = subst (λ i. AtEnd i w.frames) h.info w.kept;
    }

of_order : (profile : Profile) (m : Mark) (items : List Piece) (text : List Bool) → m.unread ≡ 0 → IsOrdered profile m items text → IsWhole profile m items text
of_order profile m items text u o =
    let info = o.blocks.order.info in
    let list = o.blocks.order.others in
    let b = begins profile m text o.list o.head o.rest o.stands o.blocks in
    let all = valid_after profile m info list b.head b.spelled in
    let k = mark_after grammar (opening profile) m (head_parts info list) b.head b.spelled in
    let z = ends_whole (opening profile) m (head_parts info list) b.head b.spelled nothing_told u in
    let f = moved profile info m k o.headers o.frames o.rest all.0.fits.rules u z o.are o.follow in
    record {
      info = info;
      list = list;
      frames = o.frames;
      parts = o.parts ∙ ap (λ ys. marked ∷ (ys ++ map framed o.frames)) (closes o.list o.blocks.marks ∙ ap closing o.blocks.order.first);
      rest = o.rest;
      begins = b;
      headers = f.headers;
      are = f.are;
      follow = f.follow;
      kept = o.kept;
    }

pub streams_are_ordered : StreamsAreOrdered
streams_are_ordered profile m items text u = (
  λ s. to_order profile m items text u ((whole.streams_are_whole profile m items text).0 s),
  λ o. (whole.streams_are_whole profile m items text).1 (of_order profile m items text u o),
)
