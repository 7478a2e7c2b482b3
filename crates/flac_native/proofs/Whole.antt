-- The streams of the grammar are those that are whole: a head, and frames whose headers follow one another.
use Rattle.std.proofs.Common.{◌≡◌, ℕ, ◌+◌, Bool, true, false, List, [], ◌∷◌, ◌++◌, append_assoc, map, Option, Some, None, refl, sym, ap, subst, ◌∙◌, arith}
use Rattle.std.proofs.lemmas.List.{append-nil}
use Rattle.std.proofs.lemmas.List.Sums.{sum_by-cons}
use Rattle.std.specs.List.{sum_by, flat_map}
use Rattle.flac_bits.specs.State.{Mark, past, fresh}
use Rattle.flac_bits.specs.Meaning.{Spells, AllKept}
use Rattle.flac_bits.specs.Fence.{InRoom}
use Rattle.flac_bits.specs.Items.{state_after, Joined, mark_after, Stream}
use Rattle.flac_info.specs.Info.{Info}
use Rattle.flac_meta.specs.Block.{seen_after}
use Rattle.flac_meta.specs.Listed.{info_seen}
use Rattle.flac_meta.specs.Valid.{IsBlock}
use Rattle.flac_meta.specs.declared.block.Seen.{Seen}
use Rattle.flac_meta.specs.declared.block.Block.{Block}
use Rattle.flac_meta.specs.declared.block.Block.TheVariants as block_of
use Rattle.flac_header.specs.declared.subset.Profile.{Profile}
use Rattle.flac_frame.specs.Frame.{Frame, frame}
use Rattle.flac_frame.specs.Follows.{frames}
use Rattle.flac_frame.specs.declared.before.Before.{Before}
use Rattle.flac_frame.proofs.Following.{frames_follow}
use Rattle.flac_native.specs.Message.{frame_message}
use Rattle.flac_native.specs.Stream.{Piece, marked, block, framed, Progress, grammar, opening, next, layout, room_in, may_end_in, end_rules, message_in}
use Rattle.flac_native.specs.Given.{closing}
use Rattle.flac_native.specs.Retag.{Begins}
use Rattle.flac_native.specs.Whole.{head_parts, IsWhole, StreamsAreWhole}
use Rattle.flac_native.specs.declared.track.Phase.{Phase}
use Rattle.flac_native.specs.declared.track.Phase.TheVariants.{Opening, Blocks, Frames}
use Rattle.flac_native.proofs.Blocks.{block_there, marker_there, first_is}
use Rattle.flac_native.proofs.NewHead.{AllBlocks, valid_after}
use Rattle.flac_native.proofs.Onwards.{frame_there, as_part, same_info}
use Rattle.flac_native.proofs.Streams.{at_block, after, goes_on}

-- ---- frames

-- a frame has at most 16777215 bytes
abbrev most : Option ℕ
most = Some 16777215

room_is : (phase : Phase) (m : Mark) (text : List Bool) → phase ≡ Frames → InRoom (room_in phase) m text → InRoom most m text
room_is phase m text e h = subst (λ q. InRoom (room_in q) m text) e h

is_room : (phase : Phase) (m : Mark) (text : List Bool) → phase ≡ Frames → InRoom most m text → InRoom (room_in phase) m text
is_room phase m text e h = subst (λ q. InRoom (room_in q) m text) (sym e) h

-- parts after the blocks are frames
record AreFramed (profile : Profile) (i : Info) (before : Option Before) (m : Mark) (items : List Piece) (text : List Bool) : Type 0 where
  list : List Frame
  are : items ≡ map framed list
  joined : Joined (frames profile i most) before m list text

to_frames : (i : Info) (p : Progress) (m : Mark) (items : List Piece) (text : List Bool) → p.stand.phase ≡ Frames → p.stand.info ≡ Some i → Joined grammar p m items text → AreFramed p.stand.profile i p.stand.before m items text
to_frames i p m [] text phase told j = record { list = []; are = refl; joined = j }
to_frames i p m (x ∷ xs) text phase told (front, rest, split, spelled, fits, others) =
    let t = frame_there p.stand (fresh m) front x phase spelled in
    let f = t.is in
    let same : t.info ≡ i = same_info i t.info p.stand.info told t.told in
    let more = to_frames i (next p (framed f)) (past front (fresh m)) xs rest phase told (subst (λ y. Joined grammar (next p y) (past front (fresh m)) xs rest) t.part others) in
    record {
      list = f ∷ more.list;
      are = ap (λ y. y ∷ xs) t.part ∙ ap (λ ys. framed f ∷ ys) more.are;
      joined = (front, rest, split, subst (λ j. Spells (frame p.stand.profile j p.stand.before) (fresh m) front f) same t.spelled, room_is p.stand.phase (fresh m) front phase fits, more.joined);
    }

of_frames : (i : Info) (p : Progress) (m : Mark) (fs : List Frame) (text : List Bool) → p.stand.phase ≡ Frames → p.stand.info ≡ Some i → Joined (frames p.stand.profile i most) p.stand.before m fs text → Joined grammar p m (map framed fs) text
of_frames i p m [] text phase told j = j
of_frames i p m (f ∷ fs) text phase told (front, rest, split, spelled, fits, others) = (
  front,
  rest,
  split,
  as_part p.stand i (fresh m) front f phase told spelled,
  is_room p.stand.phase (fresh m) front phase fits,
  of_frames i (next p (framed f)) (past front (fresh m)) fs rest phase told others,
)

-- what frames leave
record Left (i : Info) (p : Progress) (fs : List Frame) (q : Progress) : Type 0 where
  phase : q.stand.phase ≡ Frames
  info : q.stand.info ≡ Some i
  samples : q.samples ≡ p.samples + sum_by (λ (f : Frame). f.size) fs
  message : q.message ≡ p.message ++ flat_map (frame_message i.depth) fs

regroup : (a b c : ℕ) → a + b + c ≡ a + (b + c)
regroup a b c = omega arith

frames_leave : (i : Info) (p : Progress) (fs : List Frame) → p.stand.phase ≡ Frames → p.stand.info ≡ Some i → Left i p fs (state_after grammar p (map framed fs))
frames_leave i p [] phase told = record { phase = phase; info = told; samples = omega arith; message = sym (append-nil p.message) }
frames_leave i p (f ∷ fs) phase told =
    let r = frames_leave i (next p (framed f)) fs phase told in
    let here : message_in p.stand.info (framed f) ≡ frame_message i.depth f = rw told refl in
    record {
      phase = r.phase;
      info = r.info;
      samples = r.samples ∙ regroup p.samples f.size (sum_by (λ (g : Frame). g.size) fs) ∙ ap (λ n. p.samples + n) (sym (sum_by-cons (λ (g : Frame). g.size) f fs));
      message = r.message ∙ ap (λ t. (p.message ++ t) ++ flat_map (frame_message i.depth) fs) here ∙ append_assoc p.message (frame_message i.depth f) (flat_map (frame_message i.depth) fs);
    }

-- ---- the head

-- a block marked as the last, and those before it
record Split (p : Progress) (m : Mark) (items : List Piece) (text : List Bool) : Type 0 where
  first : Block
  others : List Block
  more : List Piece
  are : items ≡ closing (first ∷ others) ++ more
  head : List Bool
  rest : List Bool
  stands : text ≡ head ++ rest
  spelled : Joined grammar p m (closing (first ∷ others)) head
  left : Joined grammar (state_after grammar p (closing (first ∷ others))) (mark_after grammar p m (closing (first ∷ others)) head spelled) more rest
  valid : IsBlock p.stand.seen first

split_at : (p : Progress) (m : Mark) (items : List Piece) (text : List Bool) → p.stand.phase ≡ Blocks → Joined grammar p m items text → (state_after grammar p items).stand.phase ≡ Frames → Split p m items text
split_at p m [] text phase j end = let e = sym phase ∙ end in absurd cc
split_at p m (marked ∷ xs) text phase (front, rest, split, spelled, fits, others) end =
    let t = block_there p.stand (fresh m) front marked phase spelled in
    let e = t.part in absurd cc
split_at p m (framed f ∷ xs) text phase (front, rest, split, spelled, fits, others) end =
    let t = block_there p.stand (fresh m) front (framed f) phase spelled in
    let e = t.part in absurd cc
split_at p m (block true b ∷ xs) text phase (front, rest, split, spelled, fits, others) end =
    let t = block_there p.stand (fresh m) front (block true b) phase spelled in
    let same : b ≡ t.is = let e = t.part in cc in
    record {
      first = b;
      others = [];
      more = xs;
      are = refl;
      head = front;
      rest = rest;
      stands = split;
      spelled = (front, [], sym (append-nil front), spelled, fits, refl);
      left = others;
      valid = subst (λ k. IsBlock p.stand.seen k) (sym same) t.valid;
    }
split_at p m (block false b ∷ xs) text phase (front, rest, split, spelled, fits, others) end =
    let t = block_there p.stand (fresh m) front (block false b) phase spelled in
    let same : b ≡ t.is = let e = t.part in cc in
    let s = split_at (next p (block false b)) (past front (fresh m)) xs rest refl others end in
    record {
      first = b;
      others = s.first ∷ s.others;
      more = s.more;
      are = ap (λ k. block false b ∷ k) s.are;
      head = front ++ s.head;
      rest = s.rest;
      stands = split ∙ ap (λ t. front ++ t) s.stands ∙ sym (append_assoc front s.head s.rest);
      spelled = (front, s.head, refl, spelled, fits, s.spelled);
      left = s.left;
      valid = subst (λ k. IsBlock p.stand.seen k) (sym same) t.valid;
    }

-- the head of a stream, and the parts after it
record Begun (profile : Profile) (m : Mark) (items : List Piece) (text : List Bool) : Type 0 where
  info : Info
  list : List Block
  more : List Piece
  are : items ≡ head_parts info list ++ more
  rest : List Bool
  begins : Begins profile m text info list rest
  left : Joined grammar (state_after grammar (opening profile) (head_parts info list)) (mark_after grammar (opening profile) m (head_parts info list) begins.head begins.spelled) more rest

begun_by : (profile : Profile) (m : Mark) (xs : List Piece) (text front after : List Bool) → text ≡ front ++ after → Spells (layout (opening profile).stand) (fresh m) front marked → Joined grammar (next (opening profile) marked) (past front (fresh m)) xs after
    → (s : Split (next (opening profile) marked) (past front (fresh m)) xs after) → (i : Info) → s.first ≡ block_of.StreamInfo i → Begun profile m (marked ∷ xs) text
begun_by profile m xs text front after split spelled others s i first = go s.first first s.others s.are s.spelled s.left
  where
    go : (b : Block) → b ≡ block_of.StreamInfo i → (bs : List Block) → xs ≡ closing (b ∷ bs) ++ s.more → (j : Joined grammar (next (opening profile) marked) (past front (fresh m)) (closing (b ∷ bs)) s.head)
        → Joined grammar (state_after grammar (next (opening profile) marked) (closing (b ∷ bs))) (mark_after grammar (next (opening profile) marked) (past front (fresh m)) (closing (b ∷ bs)) s.head j) s.more s.rest → Begun profile m (marked ∷ xs) text
    go (block_of.StreamInfo k) e bs are j left = record {
      info = k;
      list = bs;
      more = s.more;
      are = ap (λ ys. marked ∷ ys) are;
      rest = s.rest;
      begins = record { head = front ++ s.head; stands = split ∙ ap (λ t. front ++ t) s.stands ∙ sym (append_assoc front s.head s.rest); spelled = (front, s.head, refl, spelled, tt, j) };
      left = left;
    }
    go b e bs are j left = absurd cc

begun : (profile : Profile) (m : Mark) (items : List Piece) (text : List Bool) → Joined grammar (opening profile) m items text → (state_after grammar (opening profile) items).stand.phase ≡ Frames → Begun profile m items text
begun profile m [] text j end = absurd cc
begun profile m (x ∷ xs) text (front, after, split, spelled, fits, others) end =
    let first = marker_there (opening profile).stand (fresh m) front x refl spelled in
    let here = subst (λ y. Joined grammar (next (opening profile) y) (past front (fresh m)) xs after) first.0 others in
    let at_end = subst (λ y. (state_after grammar (next (opening profile) y) xs).stand.phase ≡ Frames) first.0 end in
    let mark = subst (λ y. Spells (layout (opening profile).stand) (fresh m) front y) first.0 spelled in
    let s = split_at (next (opening profile) marked) (past front (fresh m)) xs after refl here at_end in
    let i = first_is s.first (s.valid.first refl) s.valid.written in
    subst (λ y. Begun profile m (y ∷ xs) text) (sym first.0) (begun_by profile m xs text front after split mark here s i.0 i.1)

-- what the blocks leave
pub record AtFrames (profile : Profile) (i : Info) (p : Progress) : Type 0 where
  pub phase : p.stand.phase ≡ Frames
  pub info : p.stand.info ≡ Some i
  pub before : p.stand.before ≡ None
  pub judged : p.stand.profile ≡ profile
  pub samples : p.samples ≡ 0
  pub message : p.message ≡ []

blocks_leave : (profile : Profile) (i : Info) (b : Block) (bs : List Block) (index : ℕ) (seen : Seen) → seen.stream_info ≡ true → AllBlocks seen (b ∷ bs) → AtFrames profile i (state_after grammar (at_block profile i index seen) (closing (b ∷ bs)))
blocks_leave profile i b [] index seen first (valid, all) = subst (AtFrames profile i) (sym (goes_on profile i true b index seen first valid.once).0) (record { phase = refl; info = refl; before = refl; judged = refl; samples = refl; message = refl })
blocks_leave profile i b (c ∷ cs) index seen first (valid, all) =
    let on = goes_on profile i false b index seen first valid.once in
    subst (λ q. AtFrames profile i (state_after grammar q (closing (c ∷ cs)))) (sym on.0) (blocks_leave profile i c cs (after profile i false index (seen_after seen b)).stand.index (seen_after seen b) on.1 all)

pub head_leaves : (profile : Profile) (i : Info) (list : List Block) → AllBlocks info_seen list → AtFrames profile i (state_after grammar (opening profile) (head_parts i list))
head_leaves profile i [] all = record { phase = refl; info = refl; before = refl; judged = refl; samples = refl; message = refl }
head_leaves profile i (b ∷ bs) all = blocks_leave profile i b bs 1 info_seen refl all

-- ---- the whole

both_parts : (p : Progress) (m : Mark) (xs ys : List Piece) (front rest : List Bool) (j : Joined grammar p m xs front) → Joined grammar (state_after grammar p xs) (mark_after grammar p m xs front j) ys rest → Joined grammar p m (xs ++ ys) (front ++ rest)
both_parts p m [] ys front rest j k = subst (λ t. Joined grammar p m ys (t ++ rest)) (sym j) k
both_parts p m (x ∷ xs) ys front rest (part, more, split, spelled, fits, others) k =
    (part, more ++ rest, ap (λ t. t ++ rest) split ∙ append_assoc part more rest, spelled, fits, both_parts (next p x) (past part (fresh m)) xs ys more rest others k)

after_both : (p : Progress) (xs ys : List Piece) → state_after grammar p (xs ++ ys) ≡ state_after grammar (state_after grammar p xs) ys
after_both p [] ys = refl
after_both p (x ∷ xs) ys = after_both (next p x) xs ys

frames_then : (phase : Phase) (info : Option Info) → may_end_in phase info ≡ true → phase ≡ Frames
frames_then Opening info e = absurd cc
frames_then Blocks info e = absurd cc
frames_then Frames info e = refl

-- the state at the end of a stream of these parts
record Ended (i : Info) (fs : List Frame) (q : Progress) : Type 0 where
  phase : q.stand.phase ≡ Frames
  info : q.stand.info ≡ Some i
  samples : q.samples ≡ sum_by (λ (f : Frame). f.size) fs
  message : q.message ≡ flat_map (frame_message i.depth) fs

no_more : (n : ℕ) → 0 + n ≡ n
no_more n = omega arith

ended : (profile : Profile) (i : Info) (list : List Block) (fs : List Frame) → AtFrames profile i (state_after grammar (opening profile) (head_parts i list)) → Ended i fs (state_after grammar (opening profile) (head_parts i list ++ map framed fs))
ended profile i list fs at =
    let p = state_after grammar (opening profile) (head_parts i list) in
    let r = frames_leave i p fs at.phase at.info in
    subst (Ended i fs) (sym (after_both (opening profile) (head_parts i list) (map framed fs))) (record {
      phase = r.phase;
      info = r.info;
      samples = r.samples ∙ ap (λ n. n + sum_by (λ (f : Frame). f.size) fs) at.samples ∙ no_more (sum_by (λ (f : Frame). f.size) fs);
      message = r.message ∙ ap (λ t. t ++ flat_map (frame_message i.depth) fs) at.message;
    })

-- so its rules at the end are those of the list of frames
kept_to : (i : Info) (fs : List Frame) (q : Progress) → Ended i fs q → AllKept (end_rules q.stand.info q.samples q.message) → AllKept (end_rules (Some i) (sum_by (λ (f : Frame). f.size) fs) (flat_map (frame_message i.depth) fs))
kept_to i fs q e k =
    subst (λ o. AllKept (end_rules o (sum_by (λ (f : Frame). f.size) fs) (flat_map (frame_message i.depth) fs))) e.info
    (subst (λ n. AllKept (end_rules q.stand.info n (flat_map (frame_message i.depth) fs))) e.samples (subst (λ t. AllKept (end_rules q.stand.info q.samples t)) e.message k))

kept_of : (i : Info) (fs : List Frame) (q : Progress) → Ended i fs q → AllKept (end_rules (Some i) (sum_by (λ (f : Frame). f.size) fs) (flat_map (frame_message i.depth) fs)) → AllKept (end_rules q.stand.info q.samples q.message)
kept_of i fs q e k =
    subst (λ t. AllKept (end_rules q.stand.info q.samples t)) (sym e.message)
    (subst (λ n. AllKept (end_rules q.stand.info n (flat_map (frame_message i.depth) fs))) (sym e.samples)
    (subst (λ o. AllKept (end_rules o (sum_by (λ (f : Frame). f.size) fs) (flat_map (frame_message i.depth) fs))) (sym e.info) k))

is_whole : (profile : Profile) (m : Mark) (items : List Piece) (text : List Bool) → Stream grammar (opening profile) m items text → IsWhole profile m items text
is_whole profile m items text s =
    let q = state_after grammar (opening profile) items in
    let b = begun profile m items text s.spelled (frames_then q.stand.phase q.stand.info s.ends) in
    let all = valid_after profile m b.info b.list b.begins.head b.begins.spelled in
    let at = head_leaves profile b.info b.list all.1 in
    let p = state_after grammar (opening profile) (head_parts b.info b.list) in
    let f = to_frames b.info p (mark_after grammar (opening profile) m (head_parts b.info b.list) b.begins.head b.begins.spelled) b.more b.rest at.phase at.info b.left in
    let k = mark_after grammar (opening profile) m (head_parts b.info b.list) b.begins.head b.begins.spelled in
    let judged = subst (λ q. Joined (frames q b.info most) p.stand.before k f.list b.rest) at.judged f.joined in
    let joined = subst (λ o. Joined (frames profile b.info most) o k f.list b.rest) at.before judged in
    let follow = (frames_follow profile b.info most (mark_after grammar (opening profile) m (head_parts b.info b.list) b.begins.head b.begins.spelled) f.list b.rest).0 joined in
    let parts : items ≡ head_parts b.info b.list ++ map framed f.list = b.are ∙ ap (λ ys. head_parts b.info b.list ++ ys) f.are in
    let kept = subst (λ (xs : List Piece). AllKept (grammar.at_end (state_after grammar (opening profile) xs))) parts s.kept in
    let e = ended profile b.info b.list f.list at in
    record {
      info = b.info;
      list = b.list;
      frames = f.list;
      parts = parts;
      rest = b.rest;
      begins = b.begins;
      headers = follow.0;
      are = follow.1;
      follow = follow.2;
      kept = kept_to b.info f.list (state_after grammar (opening profile) (head_parts b.info b.list ++ map framed f.list)) e kept;
    }

is_stream : (profile : Profile) (m : Mark) (items : List Piece) (text : List Bool) → IsWhole profile m items text → Stream grammar (opening profile) m items text
is_stream profile m items text w =
    let all = valid_after profile m w.info w.list w.begins.head w.begins.spelled in
    let at = head_leaves profile w.info w.list all.1 in
    let p = state_after grammar (opening profile) (head_parts w.info w.list) in
    let k = mark_after grammar (opening profile) m (head_parts w.info w.list) w.begins.head w.begins.spelled in
    let joined = (frames_follow profile w.info most k w.frames w.rest).1 (w.headers, w.are, w.follow) in
    let f = of_frames w.info p k w.frames w.rest at.phase at.info (subst (λ q. Joined (frames q w.info most) p.stand.before k w.frames w.rest) (sym at.judged) (subst (λ o. Joined (frames profile w.info most) o k w.frames w.rest) (sym at.before) joined)) in
    let spelled = both_parts (opening profile) m (head_parts w.info w.list) (map framed w.frames) w.begins.head w.rest w.begins.spelled f in
    let e = ended profile w.info w.list w.frames at in
    let all_items = head_parts w.info w.list ++ map framed w.frames in
    let q = state_after grammar (opening profile) all_items in
    let stream : Stream grammar (opening profile) m all_items (w.begins.head ++ w.rest) = record {
      spelled = spelled;
      ends = rw (e.phase, e.info) refl;
      kept = kept_of w.info w.frames q e w.kept;
    } in
    subst (λ xs. Stream grammar (opening profile) m xs text) (sym w.parts) (subst (λ t. Stream grammar (opening profile) m all_items t) (sym w.begins.stands) stream)

pub streams_are_whole : StreamsAreWhole
streams_are_whole profile m items text = (is_whole profile m items text, is_stream profile m items text)
