-- What stands before the frames of a stream that was read may be written with other comments, and is read again as
-- these blocks.
use Rattle.std.proofs.Common.{◌≡◌, ◌≤◌, ◌<◌, ℕ, zero, suc, Bool, true, false, nat_lt, List, [], ◌∷◌, length, get_or, None, refl, sym, ap, subst, ◌∙◌, arith}
use Rattle.std.proofs.lemmas.Bool.Decides.{nat_tests}
use Rattle.flac_bits.specs.Bits.{unsigned}
use Rattle.flac_bits.specs.State.{Mark, Cursor, past, fresh}
use Rattle.flac_bits.specs.Fence.{InRoom}
use Rattle.flac_bits.specs.Items.{Joined}
use Rattle.flac_bits.proofs.ItemSpellings.{fresh_unread, after_whole}
use Rattle.flac_info.specs.Info.{Info}
use Rattle.flac_meta.specs.Header.{nothing_seen}
use Rattle.flac_meta.specs.Block.{seen_after}
use Rattle.flac_meta.specs.Listed.{came, block_fault, info_seen}
use Rattle.flac_meta.specs.Spelling.{block_spelling, comments_length}
use Rattle.flac_meta.specs.Valid.{IsBlock, IsComments}
use Rattle.flac_meta.specs.declared.block.Seen.{Seen}
use Rattle.flac_meta.specs.declared.block.Block.{Block}
use Rattle.flac_meta.specs.declared.block.Block.TheVariants as block_of
use Rattle.flac_meta.specs.declared.comments.Comments.{Comments}
use Rattle.flac_header.specs.declared.subset.Profile.{Profile}
use Rattle.flac_header.specs.declared.subset.Profile.TheVariants.{Subset}
use Rattle.flac_native.specs.Given.{closing}
use Rattle.flac_native.specs.Stream.{marked, block, Progress, grammar, opening, next, room_in}
use Rattle.flac_native.specs.Writing.{blocks_spelling, head_spelling}
use Rattle.flac_native.specs.Retag.{is_comment, without_comments, RetaggedAreRead}
use Rattle.flac_native.specs.inner.Retag.{AreKept, MayBeHead}
use Rattle.flac_native.specs.declared.track.Phase.{Phase}
use Rattle.flac_native.specs.declared.track.Phase.TheVariants.{Opening, Blocks, Frames}
use Rattle.flac_native.proofs.Blocks.{block_there}
use Rattle.flac_native.proofs.Streams.{block_by_layout, marker_here}
use Rattle.flac_native.proofs.WholeBytes.{block_whole}

-- each block may stand where the blocks before it came
abbrev pub AllBlocks : Seen → List Block → Type 0
AllBlocks seen [] = Unit {0}
AllBlocks seen (b ∷ bs) = IsBlock seen b × AllBlocks (seen_after seen b) bs

valid_blocks : (p : Progress) (m : Mark) (b : Block) (bs : List Block) (text : List Bool) → p.stand.phase ≡ Blocks → Joined grammar p m (closing (b ∷ bs)) text → AllBlocks p.stand.seen (b ∷ bs)
valid_blocks p m b [] text phase (front, rest, split, spelled, fits, others) =
    let t = block_there p.stand (fresh m) front (block true b) phase spelled in
    let same : b ≡ t.is = let e = t.part in cc in
    (subst (λ k. IsBlock p.stand.seen k) (sym same) t.valid, tt)
valid_blocks p m b (c ∷ cs) text phase (front, rest, split, spelled, fits, others) =
    let t = block_there p.stand (fresh m) front (block false b) phase spelled in
    let same : b ≡ t.is = let e = t.part in cc in
    (subst (λ k. IsBlock p.stand.seen k) (sym same) t.valid, valid_blocks (next p (block false b)) (past front (fresh m)) c cs rest refl others)

no_bound : (phase : Phase) (m : Mark) (text : List Bool) → phase ≡ Blocks → InRoom (room_in phase) m text
no_bound Blocks m text e = tt
no_bound Opening m text e = tt
no_bound Frames m text e = absurd cc

pub spelled_blocks : (p : Progress) (m : Mark) (b : Block) (bs : List Block) → p.stand.phase ≡ Blocks → m.unread ≡ 0 → AllBlocks p.stand.seen (b ∷ bs) → Joined grammar p m (closing (b ∷ bs)) (blocks_spelling (b ∷ bs))
spelled_blocks p m b [] phase z (is, rest) = (block_spelling true b, [], refl, block_by_layout p.stand (fresh m) true b phase is, no_bound p.stand.phase (fresh m) (block_spelling true b) phase, refl)
spelled_blocks p m b (c ∷ cs) phase z (is, rest) =
    let whole = block_whole false b in (
      block_spelling false b,
      blocks_spelling (c ∷ cs),
      refl,
      block_by_layout p.stand (fresh m) false b phase is,
      no_bound p.stand.phase (fresh m) (block_spelling false b) phase,
      spelled_blocks (next p (block false b)) (past (block_spelling false b) (fresh m)) c cs refl (after_whole (block_spelling false b) (fresh m) (fresh_unread m z) whole.bytes) rest,
    )

-- ---- without comments

not_came : (s t : Seen) (b : Block) → is_comment b ≡ false → s.stream_info ≡ t.stream_info → s.seek_table ≡ t.seek_table → came s b ≡ false → came t b ≡ false
not_came s t (block_of.StreamInfo i) none e f h = sym e ∙ h
not_came s t (block_of.SeekTable points) none e f h = sym f ∙ h
not_came s t (block_of.VorbisComment found) none e f h = absurd cc
not_came s t (block_of.Padding n) none e f h = refl
not_came s t (block_of.Application id bytes) none e f h = refl
not_came s t (block_of.CueSheet sheet) none e f h = refl
not_came s t (block_of.Picture found) none e f h = refl
not_came s t (block_of.Other kind bytes) none e f h = refl

moved : (s t : Seen) (b : Block) → is_comment b ≡ false → s.stream_info ≡ t.stream_info → s.seek_table ≡ t.seek_table → IsBlock s b → IsBlock t b
moved s t b none e f is = record { first = λ h. is.first (e ∙ h); once = not_came s t b none e f is.once; written = is.written; fits = is.fits }

others : (s t : Seen) (bs : List Block) → s.stream_info ≡ t.stream_info → s.seek_table ≡ t.seek_table → AllBlocks s bs → AllBlocks t (without_comments bs)
others s t [] e f h = tt
others s t (block_of.VorbisComment found ∷ bs) e f h = others (seen_after s (block_of.VorbisComment found)) t bs e f h.1
others s t (block_of.StreamInfo i ∷ bs) e f h = (moved s t (block_of.StreamInfo i) refl e f h.0, others (seen_after s (block_of.StreamInfo i)) (seen_after t (block_of.StreamInfo i)) bs refl f h.1)
others s t (block_of.SeekTable points ∷ bs) e f h = (moved s t (block_of.SeekTable points) refl e f h.0, others (seen_after s (block_of.SeekTable points)) (seen_after t (block_of.SeekTable points)) bs e refl h.1)
others s t (block_of.Padding n ∷ bs) e f h = (moved s t (block_of.Padding n) refl e f h.0, others s t bs e f h.1)
others s t (block_of.Application id bytes ∷ bs) e f h = (moved s t (block_of.Application id bytes) refl e f h.0, others s t bs e f h.1)
others s t (block_of.CueSheet sheet ∷ bs) e f h = (moved s t (block_of.CueSheet sheet) refl e f h.0, others s t bs e f h.1)
others s t (block_of.Picture found ∷ bs) e f h = (moved s t (block_of.Picture found) refl e f h.0, others s t bs e f h.1)
others s t (block_of.Other kind bytes ∷ bs) e f h = (moved s t (block_of.Other kind bytes) refl e f h.0, others s t bs e f h.1)

-- ---- the whole

not_too_long : (n : ℕ) → n ≤ 16777215 → nat_lt 16777215 n ≡ false
not_too_long n h = grind (arith, nat_tests)

may_be_written : (c : Comments) → comments_length c ≤ 16777215 → block_fault (block_of.VorbisComment c) ≡ None
may_be_written c h = rw (not_too_long (comments_length c) h) refl

comments_here : (c : Comments) → comments_length c ≤ 16777215 → IsComments c → IsBlock info_seen (block_of.VorbisComment c)
comments_here c h fits = record { first = λ e. absurd cc; once = refl; written = may_be_written c h; fits = fits }

pub valid_after : (profile : Profile) (m : Mark) (info : Info) (list : List Block) (head : List Bool) → Joined grammar (opening profile) m (marked ∷ closing (block_of.StreamInfo info ∷ list)) head → AllBlocks nothing_seen (block_of.StreamInfo info ∷ list)
valid_after profile m info list head (front, after, split, spelled, fits, more) = valid_blocks (next (opening profile) marked) (past front (fresh m)) (block_of.StreamInfo info) list after refl more

pub retagged_are_read : RetaggedAreRead
retagged_are_read m k text comments info list rest z short fits b =
    let marker = unsigned 32 0x664C6143 in
    let note = block_of.VorbisComment comments in
    let first = b.spelled in
    let there = valid_after Subset m info list b.head first in
    let all : AllBlocks nothing_seen (block_of.StreamInfo info ∷ note ∷ without_comments list) =
    (there.0, (comments_here comments short fits, others info_seen (seen_after info_seen note) list refl refl there.1)) in
    let mark = past marker (fresh k) in
    let u : mark.unread ≡ 0 = after_whole marker (fresh k) (fresh_unread k z) refl in
    record {
      head = head_spelling info (note ∷ without_comments list);
      stands = refl;
      spelled = (marker, blocks_spelling (block_of.StreamInfo info ∷ note ∷ without_comments list), refl, marker_here Subset (fresh k), tt, spelled_blocks (next (opening Subset) marked) mark (block_of.StreamInfo info) (note ∷ without_comments list) refl u all);
    }

each_valid : (seen : Seen) (bs : List Block) (i : ℕ) (b : Block) → AllBlocks seen bs → i < length bs → b ≡ get_or bs i b → block_fault b ≡ None
each_valid seen [] i b all lt at = absurd (omega (arith, lt))
each_valid seen (x ∷ xs) zero b all lt at = ap block_fault at ∙ all.0.written
each_valid seen (x ∷ xs) (suc i) b all lt at = each_valid (seen_after seen x) xs i b all.1 (omega (arith, lt)) at

-- no block that was kept is refused in writing
pub kept_may_be_head : (comments : Comments) (c : Cursor) (kept : List Block) (rest : List Bool) → comments_length comments ≤ 16777215 → AreKept false c kept rest → MayBeHead comments kept
kept_may_be_head comments c kept rest short are =
    let list = without_comments are.list in
    let all = valid_after Subset c.mark are.info are.list are.input.head are.input.spelled in
    let good : AllBlocks nothing_seen (block_of.StreamInfo are.info ∷ list) = (all.0, others info_seen info_seen are.list refl refl all.1) in
    let here : MayBeHead comments (block_of.StreamInfo are.info ∷ list) = record {
      note = may_be_written comments short;
      some = omega arith;
      each = λ i b lt at. each_valid nothing_seen (block_of.StreamInfo are.info ∷ list) i b good lt at;
    } in
    subst (λ l. MayBeHead comments l) (sym are.are) here
