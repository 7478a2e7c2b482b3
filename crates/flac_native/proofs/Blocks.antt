-- What a marker and blocks that are spelled one after another look like.
use Rattle.std.proofs.Common.{◌≡◌, ℕ, ◌*◌, Bool, true, false, List, [], ◌∷◌, ◌++◌, length, length-append, None, refl, sym, ap, subst, ◌∙◌, append_assoc, arith}
use Rattle.std.proofs.lemmas.List.{append-nil}
use Rattle.flac_bits.specs.State.{Cursor, Mark, past, fresh}
use Rattle.flac_bits.specs.Meaning.{Spells}
use Rattle.flac_bits.specs.Items.{state_after, Joined, mark_after}
use Rattle.flac_bits.specs.Handing.{TakesAll}
use Rattle.flac_bits.proofs.Handing.{Far}
use Rattle.flac_bits.proofs.Words.{length-unsigned}
use Rattle.flac_bits.proofs.ItemSpellings.{fresh_unread, after_whole}
use Rattle.flac_info.specs.Info.{Info}
use Rattle.flac_meta.specs.Listed.{block_fault}
use Rattle.flac_meta.specs.Spelling as s
use Rattle.flac_meta.specs.Valid.{IsBlock, ContentSpelled, BlockSpelled}
use Rattle.flac_meta.specs.declared.block.Seen.{Seen}
use Rattle.flac_meta.specs.declared.block.Block.{Block}
use Rattle.flac_meta.specs.declared.block.Block.TheVariants as block_of
use Rattle.flac_meta.proofs.Blocks.{blocks_spelled}
use Rattle.flac_header.specs.declared.subset.Profile.TheVariants.{Subset}
use Rattle.flac_frame.specs.Frame.{Frame}
use Rattle.flac_native.specs.Stream.{Piece, marked, block, framed, Progress, Stand, grammar, opening, next, layout, layout_in, marker}
use Rattle.flac_native.specs.Given.{closing}
use Rattle.flac_native.specs.Track.{is_after_blocks}
use Rattle.flac_native.specs.Retag.{AreRead, unless_comment}
use Rattle.flac_native.specs.inner.Retag.{AreKept, kept_one, kept_of, keeps}
use Rattle.flac_native.specs.declared.track.Phase.{Phase}
use Rattle.flac_native.specs.declared.track.Phase.TheVariants.{Opening, Blocks, Frames}
use Rattle.flac_native.proofs.WholeBytes.{Whole, content_whole, header_long, length-joined}

-- ---- one part

-- where a block comes
pub record BlockThere (s : Stand) (m : Mark) (text : List Bool) (x : Piece) : Type 0 where
  pub last : Bool
  pub is : Block
  pub part : x ≡ block last is
  pub valid : IsBlock s.seen is
  pub spelled : BlockSpelled last is text

there : (s : Stand) (m : Mark) (text : List Bool) (x : Piece) → Spells (layout_in Blocks s) m text x → BlockThere s m text x
there s m text x (y, front, rest, split, spelled, (none, same)) =
    let t : text ≡ front = split ∙ ap (λ k. front ++ k) none ∙ append-nil front in
    let v = (blocks_spelled s.seen m front y.0 y.1).0 spelled in
    record { last = y.0; is = y.1; part = sym same; valid = v.0; spelled = subst (λ k. BlockSpelled y.0 y.1 k) (sym t) v.1 }

pub block_there : (s : Stand) (m : Mark) (text : List Bool) (x : Piece) → s.phase ≡ Blocks → Spells (layout s) m text x → BlockThere s m text x
unfolding layout
block_there s m text x phase h = there s m text x (subst (λ k. Spells (layout_in k s) m text x) phase h)

-- where the marker comes
marker_at : (s : Stand) (m : Mark) (text : List Bool) (x : Piece) → Spells (layout_in Opening s) m text x → (x ≡ marked) × (length text ≡ 32)
unfolding marker
marker_at s m text x (u, front, rest, split, (v, f, r, cut, (lt, is), (gone, kept)), (none, same)) =
    (sym same, omega (arith, ap (λ (k : List Bool). length k) split, length-append front rest, ap (λ (k : List Bool). length k) none, ap (λ (k : List Bool). length k) cut, length-append f r, ap (λ (k : List Bool). length k) gone, ap (λ (k : List Bool). length k) is, length-unsigned 32 v))

pub marker_there : (s : Stand) (m : Mark) (text : List Bool) (x : Piece) → s.phase ≡ Opening → Spells (layout s) m text x → (x ≡ marked) × (length text ≡ 32)
unfolding layout
marker_there s m text x phase h = marker_at s m text x (subst (λ k. Spells (layout_in k s) m text x) phase h)

-- where a frame comes
pub frame_at : (s : Stand) (m : Mark) (text : List Bool) (x : Piece) → Spells (layout_in Frames s) m text x → (f : Frame) × (x ≡ framed f)
frame_at s m text x (f, front, rest, split, spelled, (none, same)) = (f, sym same)

no_frame_there : (all : Bool) (old new : List Block) (x : Piece) (f : Frame) → x ≡ framed f → keeps all old x new → ⊥
no_frame_there all old new x f e k = subst (λ y. keeps all old y new) e k

-- which blocks are kept, one after another
kept_more : (all : Bool) (b : Block) (bs : List Block) → kept_one all b ++ kept_of all bs ≡ kept_of all (b ∷ bs)
kept_more true b bs = refl
kept_more false b bs = refl

kept_last : (all : Bool) (b : Block) → kept_of all (b ∷ []) ≡ kept_one all b
kept_last true b = refl
kept_last false b = append-nil (unless_comment b)

kept_first : (all : Bool) (info : Info) (bs : List Block) → kept_of all (block_of.StreamInfo info ∷ bs) ≡ block_of.StreamInfo info ∷ kept_of all bs
kept_first true info bs = refl
kept_first false info bs = refl

-- ---- in whole bytes

content_long : (b : Block) (text : List Bool) → ContentSpelled b text → Whole text
content_long (block_of.Padding n) text (v, lt, is) = record { bytes = omega (arith, ap (λ (k : List Bool). length k) is, length-unsigned (8 * n) v) }
content_long (block_of.StreamInfo info) text is = subst Whole (sym is) (content_whole (block_of.StreamInfo info))
content_long (block_of.Application id bytes) text is = subst Whole (sym is) (content_whole (block_of.Application id bytes))
content_long (block_of.SeekTable points) text is = subst Whole (sym is) (content_whole (block_of.SeekTable points))
content_long (block_of.VorbisComment found) text is = subst Whole (sym is) (content_whole (block_of.VorbisComment found))
content_long (block_of.CueSheet found) text is = subst Whole (sym is) (content_whole (block_of.CueSheet found))
content_long (block_of.Picture found) text is = subst Whole (sym is) (content_whole (block_of.Picture found))
content_long (block_of.Other kind bytes) text is = subst Whole (sym is) (content_whole (block_of.Other kind bytes))

pub block_long : (last : Bool) (b : Block) (text : List Bool) → BlockSpelled last b text → Whole text
block_long last b text (content, spelled, is) =
    let whole = content_long b content spelled in
    record { bytes = omega (arith, ap (λ (k : List Bool). length k) is, length-joined (s.header_spelling last (s.kind_of b) (s.length_of b) ∷ content ∷ []), header_long last (s.kind_of b) (s.length_of b), whole.bytes) }

-- a part that is no frame
part_whole : (all : Bool) (s : Stand) (m : Mark) (text : List Bool) (x : Piece) (old new : List Block) → keeps all old x new → Spells (layout s) m text x → Whole text
unfolding layout
part_whole all s m text x old new kept h = go s.phase h
  where
    go : (k : Phase) → Spells (layout_in k s) m text x → Whole text
    go Opening h = let e = (marker_at s m text x h).1 in record { bytes = omega (arith, e) }
    go Blocks h = let t = there s m text x h in block_long t.last t.is text t.spelled
    go Frames h = let f = frame_at s m text x h in absurd (no_frame_there all old new x f.0 f.1 kept)

pub aligned : (all : Bool) (p : Progress) (m : Mark) (items : List Piece) (text : List Bool) (old new : List Block) (j : Joined grammar p m items text) → m.unread ≡ 0 → TakesAll (keeps all) old items new → (mark_after grammar p m items text j).unread ≡ 0
aligned all p m [] text old new j z took = z
aligned all p m (x ∷ xs) text old new (front, rest, split, spelled, fits, others) z (mid, kept, took) =
    let whole = part_whole all p.stand (fresh m) front x old mid kept spelled in
    aligned all (next p x) (past front (fresh m)) xs rest mid new others (after_whole front (fresh m) (fresh_unread m z) whole.bytes) took

-- ---- all parts

-- after the last block nothing comes that is no frame
over_then : (all : Bool) (p : Progress) (m : Mark) (items : List Piece) (text : List Bool) (old new : List Block) → p.stand.phase ≡ Frames → Joined grammar p m items text → TakesAll (keeps all) old items new → (items ≡ []) × (old ≡ new)
unfolding layout
over_then all p m [] text old new phase j took = (refl, took)
over_then all p m (x ∷ xs) text old new phase (front, rest, split, spelled, fits, others) (mid, kept, took) =
    let f = frame_at p.stand (fresh m) front x (subst (λ k. Spells (layout_in k p.stand) (fresh m) front x) phase spelled) in
    absurd (no_frame_there all old mid x f.0 f.1 kept)

-- blocks, of which the last is marked, and which of them were kept
pub record AreBlocks (all : Bool) (seen : Seen) (items : List Piece) (old new : List Block) : Type 0 where
  pub first : Block
  pub others : List Block
  pub are : items ≡ closing (first ∷ others)
  pub kept : new ≡ old ++ kept_of all (first ∷ others)
  pub valid : IsBlock seen first

pub are_blocks : (all : Bool) (p : Progress) (m : Mark) (items : List Piece) (text : List Bool) (old new : List Block) → p.stand.phase ≡ Blocks → Joined grammar p m items text → TakesAll (keeps all) old items new
    → is_after_blocks (state_after grammar p items).stand.phase ≡ true → AreBlocks all p.stand.seen items old new
are_blocks all p m [] text old new phase j took end = let e = ap is_after_blocks phase in absurd cc
are_blocks all p m (marked ∷ xs) text old new phase (front, rest, split, spelled, fits, others) took end =
    let t = block_there p.stand (fresh m) front marked phase spelled in
    let e = t.part in absurd cc
are_blocks all p m (framed f ∷ xs) text old new phase j (mid, kept, took) end = absurd kept
are_blocks all p m (block true b ∷ xs) text old new phase (front, rest, split, spelled, fits, others) (mid, kept, took) end =
    let t = block_there p.stand (fresh m) front (block true b) phase spelled in
    let none = over_then all (next p (block true b)) (past front (fresh m)) xs rest mid new refl others took in
    let same : b ≡ t.is = let e = t.part in cc in
    record {
      first = b;
      others = [];
      are = ap (λ k. block true b ∷ k) none.0;
      kept = sym none.1 ∙ kept ∙ ap (λ k. old ++ k) (sym (kept_last all b));
      valid = subst (λ k. IsBlock p.stand.seen k) (sym same) t.valid;
    }
are_blocks all p m (block false b ∷ xs) text old new phase (front, rest, split, spelled, fits, others) (mid, kept, took) end =
    let t = block_there p.stand (fresh m) front (block false b) phase spelled in
    let more = are_blocks all (next p (block false b)) (past front (fresh m)) xs rest mid new refl others took end in
    let same : b ≡ t.is = let e = t.part in cc in
    record {
      first = b;
      others = more.first ∷ more.others;
      are = ap (λ k. block false b ∷ k) more.are;
      kept = more.kept ∙ ap (λ k. k ++ kept_of all (more.first ∷ more.others)) kept ∙ append_assoc old (kept_one all b) (kept_of all (more.first ∷ more.others)) ∙ ap (λ k. old ++ k) (kept_more all b (more.first ∷ more.others));
      valid = subst (λ k. IsBlock p.stand.seen k) (sym same) t.valid;
    }

-- ---- STREAMINFO is the first

forbidden : (kind : ℕ) (bytes : List ℕ) → kind ≡ 0 → block_fault (block_of.Other kind bytes) ≡ None → ⊥
forbidden kind bytes e none = let f : block_fault (block_of.Other 0 bytes) ≡ None = subst (λ k. block_fault (block_of.Other k bytes) ≡ None) e none in absurd cc

pub first_is : (b : Block) → s.kind_of b ≡ 0 → block_fault b ≡ None → (i : Info) × (b ≡ block_of.StreamInfo i)
first_is (block_of.StreamInfo i) e none = (i, refl)
first_is (block_of.Padding n) e none = absurd (omega (arith, e))
first_is (block_of.Application id bytes) e none = absurd (omega (arith, e))
first_is (block_of.SeekTable points) e none = absurd (omega (arith, e))
first_is (block_of.VorbisComment found) e none = absurd (omega (arith, e))
first_is (block_of.CueSheet found) e none = absurd (omega (arith, e))
first_is (block_of.Picture found) e none = absurd (omega (arith, e))
first_is (block_of.Other kind bytes) e none = absurd (forbidden kind bytes e none)

-- the marker, STREAMINFO and a list, and which of the blocks were kept
pub record AreHead (all : Bool) (items : List Piece) (new : List Block) : Type 0 where
  pub info : Info
  pub list : List Block
  pub are : items ≡ marked ∷ closing (block_of.StreamInfo info ∷ list)
  pub kept : new ≡ block_of.StreamInfo info ∷ kept_of all list

pub are_head : (all : Bool) (m : Mark) (items : List Piece) (text : List Bool) (new : List Block) → Joined grammar (opening Subset) m items text → TakesAll (keeps all) [] items new → is_after_blocks (state_after grammar (opening Subset) items).stand.phase ≡ true → AreHead all items new
are_head all m [] text new j took end = absurd cc
are_head all m (x ∷ xs) text new (front, rest, split, spelled, fits, others) (mid, kept, took) end =
    let first = marker_there (opening Subset).stand (fresh m) front x refl spelled in
    let here = subst (λ y. Joined grammar (next (opening Subset) y) (past front (fresh m)) xs rest) first.0 others in
    let at_end = subst (λ y. is_after_blocks (state_after grammar (next (opening Subset) y) xs).stand.phase ≡ true) first.0 end in
    let nothing : mid ≡ [] = subst (λ y. keeps all [] y mid) first.0 kept in
    let found = are_blocks all (next (opening Subset) marked) (past front (fresh m)) xs rest mid new refl here took at_end in
    let i = first_is found.first (found.valid.first refl) found.valid.written in
    record {
      info = i.0;
      list = found.others;
      are = ap (λ y. y ∷ xs) first.0 ∙ ap (λ k. marked ∷ k) (found.are ∙ ap (λ b. closing (b ∷ found.others)) i.1);
      kept = found.kept ∙ ap (λ k. k ++ kept_of all (found.first ∷ found.others)) nothing ∙ ap (λ b. kept_of all (b ∷ found.others)) i.1 ∙ kept_first all i.0 found.others;
    }

-- ---- what was kept where the blocks are over

pub kept_are : (all : Bool) (old now : Cursor) (p : Progress) (none kept : List Block) → none ≡ [] → Far grammar (keeps all) (opening Subset) p old now none kept → is_after_blocks p.stand.phase ≡ true → AreKept all old kept now.left
kept_are all old now p none kept empty far end =
    let took = subst (λ k. TakesAll (keeps all) k far.items kept) empty far.took in
    let head = are_head all old.mark far.items far.text kept far.spelled took (subst (λ (q : Progress). is_after_blocks q.stand.phase ≡ true) far.state_is end) in
    record {
      info = head.info;
      list = head.list;
      input = record { head = far.text; stands = far.stands; spelled = subst (λ k. Joined grammar (opening Subset) old.mark k far.text) head.are far.spelled };
      are = head.kept;
    }

-- all of them are the blocks of the stream
pub are_read : {c : Cursor} {kept : List Block} {rest : List Bool} → AreKept true c kept rest → AreRead c kept rest
are_read k = record { info = k.info; others = k.list; begins = k.input; are = k.are }

pub kept_whole : (all : Bool) (old now : Cursor) (p : Progress) (none kept : List Block) → old.mark.unread ≡ 0 → Far grammar (keeps all) (opening Subset) p old now none kept → now.mark.unread ≡ 0
kept_whole all old now p none kept z far = ap (λ (m : Mark). m.unread) far.mark_is ∙ aligned all (opening Subset) old.mark far.items far.text none kept far.spelled z far.took
