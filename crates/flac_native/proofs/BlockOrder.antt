-- The blocks that are read one after another, until frames are due, are those that are in order.
use Rattle.std.proofs.Common.{◌≡◌, ℕ, ◌+◌, ◌≤◌, Bool, true, false, cond, List, [], ◌∷◌, ◌++◌, map, All, refl, sym, ap, subst, ◌∙◌, arith}
use Rattle.std.specs.List.{count_by}
use Rattle.std.proofs.lemmas.List.{append-nil}
use Rattle.std.proofs.lemmas.List.Elements.{All-nil, All-cons, All-head, All-tail}
use Rattle.std.proofs.lemmas.List.Sums.{sum_by-cons}
use Rattle.flac_bits.specs.Bits.{bit_value}
use Rattle.flac_bits.specs.State.{Mark, past, fresh}
use Rattle.flac_bits.specs.Meaning.{Spells}
use Rattle.flac_bits.specs.Fence.{InRoom}
use Rattle.flac_bits.specs.Items.{Joined, Stream, state_after}
use Rattle.flac_info.specs.Info.{Info}
use Rattle.flac_meta.specs.Header.{nothing_seen}
use Rattle.flac_meta.specs.Block.{seen_after}
use Rattle.flac_meta.specs.Listed.{came, info_seen}
use Rattle.flac_meta.specs.Valid.{IsBlock, BlockSpelled}
use Rattle.flac_meta.specs.declared.block.Seen.{Seen}
use Rattle.flac_meta.specs.declared.block.Block.{Block}
use Rattle.flac_meta.specs.declared.block.Block.TheVariants as block_of
use Rattle.flac_meta.proofs.Blocks.{blocks_spelled}
use Rattle.flac_header.specs.declared.subset.Profile.{Profile}
use Rattle.flac_native.specs.Stream.{Piece, marked, block, framed, Stand, Progress, grammar, opening, next, layout, layout_in, room_in}
use Rattle.flac_native.specs.Given.{closing}
use Rattle.flac_native.specs.Retag.{is_comment}
use Rattle.flac_native.specs.BlockOrder.{is_stream_info, is_seek_table, IsValid, AreInOrder, MarkedBlock, LastIsMarked, without_marks, part_of, AreSpelled, AreRead, AreOrdered, HasBlocks, BlocksAreInOrder}
use Rattle.flac_native.specs.declared.track.Phase.{Phase}
use Rattle.flac_native.specs.declared.track.Phase.TheVariants.{Blocks, Frames}
use Rattle.flac_native.proofs.Blocks.{block_there, frame_at, first_is}
use Rattle.flac_native.proofs.NewHead.{AllBlocks, valid_after}
use Rattle.flac_native.proofs.Whole as whole

-- ---- the rules on the list

-- one block more is counted
counted : (p : Block → Bool) (b : Block) (bs : List Block) → count_by p (b ∷ bs) ≡ bit_value (p b) + count_by p bs
counted p b bs = sum_by-cons (λ x. cond (p x) 1 0) b bs

-- the blocks after STREAMINFO and some more, of which these kinds came
record Rest (seen : Seen) (bs : List Block) : Type 0 where
  no_info : count_by is_stream_info bs ≡ 0
  one_table : bit_value seen.seek_table + count_by is_seek_table bs ≤ 1
  one_comment : bit_value seen.comments + count_by is_comment bs ≤ 1
  each : All IsValid bs

-- what one block adds
record Adds (seen : Seen) (b : Block) : Type 0 where
  no_info : bit_value (is_stream_info b) ≡ 0
  told : (seen_after seen b).stream_info ≡ true
  table : bit_value (seen_after seen b).seek_table ≡ bit_value seen.seek_table + bit_value (is_seek_table b)
  comment : bit_value (seen_after seen b).comments ≡ bit_value seen.comments + bit_value (is_comment b)

two : (b : Bool) → b ≡ true → b ≡ false → ⊥
two true e f = absurd cc
two false e f = absurd cc

none_more : (n : ℕ) → n ≡ n + 0
none_more n = omega arith

one_more : (b : Bool) → b ≡ false → 1 ≡ bit_value b + 1
one_more true e = absurd cc
one_more false e = refl

adds : (seen : Seen) (b : Block) → seen.stream_info ≡ true → came seen b ≡ false → Adds seen b
adds seen (block_of.StreamInfo i) told e = absurd (two seen.stream_info told e)
adds seen (block_of.SeekTable points) told e = record { no_info = refl; told = told; table = one_more seen.seek_table e; comment = none_more (bit_value seen.comments) }
adds seen (block_of.VorbisComment found) told e = record { no_info = refl; told = told; table = none_more (bit_value seen.seek_table); comment = one_more seen.comments e }
adds seen (block_of.Padding n) told e = record { no_info = refl; told = told; table = none_more (bit_value seen.seek_table); comment = none_more (bit_value seen.comments) }
adds seen (block_of.Application id bytes) told e = record { no_info = refl; told = told; table = none_more (bit_value seen.seek_table); comment = none_more (bit_value seen.comments) }
adds seen (block_of.CueSheet sheet) told e = record { no_info = refl; told = told; table = none_more (bit_value seen.seek_table); comment = none_more (bit_value seen.comments) }
adds seen (block_of.Picture found) told e = record { no_info = refl; told = told; table = none_more (bit_value seen.seek_table); comment = none_more (bit_value seen.comments) }
adds seen (block_of.Other kind bytes) told e = record { no_info = refl; told = told; table = none_more (bit_value seen.seek_table); comment = none_more (bit_value seen.comments) }

at_most_one : (b : Bool) → bit_value b + 0 ≤ 1
at_most_one true = omega arith
at_most_one false = omega arith

-- counted with the block, or as one that came
moved : (s t k n all : ℕ) → t ≡ s + k → all ≡ k + n → t + n ≤ 1 → s + all ≤ 1
moved s t k n all e f h = omega (arith, e, f, h)

back : (s t k n all : ℕ) → t ≡ s + k → all ≡ k + n → s + all ≤ 1 → t + n ≤ 1
back s t k n all e f h = omega (arith, e, f, h)

no_more : (k n all : ℕ) → k ≡ 0 → all ≡ k + n → n ≡ 0 → all ≡ 0
no_more k n all e f h = omega (arith, e, f, h)

to_rest : (seen : Seen) (bs : List Block) → seen.stream_info ≡ true → AllBlocks seen bs → Rest seen bs
to_rest seen [] told all = record { no_info = refl; one_table = at_most_one seen.seek_table; one_comment = at_most_one seen.comments; each = All-nil IsValid }
to_rest seen (b ∷ bs) told (is, all) =
    let a = adds seen b told is.once in
    let r = to_rest (seen_after seen b) bs a.told all in
    record {
      no_info = no_more (bit_value (is_stream_info b)) _ _ a.no_info (counted is_stream_info b bs) r.no_info;
      one_table = moved (bit_value seen.seek_table) _ _ _ _ a.table (counted is_seek_table b bs) r.one_table;
      one_comment = moved (bit_value seen.comments) _ _ _ _ a.comment (counted is_comment b bs) r.one_comment;
      each = All-cons IsValid b bs (record { written = is.written; fits = is.fits }) r.each;
    }

-- a kind that came once does not come again
none_again : (s : Bool) (n all : ℕ) → all ≡ 1 + n → bit_value s + all ≤ 1 → s ≡ false
none_again true n all e h = absurd (omega (arith, e, h))
none_again false n all e h = refl

not_none : (n all : ℕ) → all ≡ 1 + n → all ≡ 0 → ⊥
not_none n all e h = omega (arith, e, h)

not_came : (seen : Seen) (b : Block) (bs : List Block) → Rest seen (b ∷ bs) → came seen b ≡ false
not_came seen (block_of.StreamInfo i) bs r = absurd (not_none _ _ (counted is_stream_info (block_of.StreamInfo i) bs) r.no_info)
not_came seen (block_of.SeekTable points) bs r = none_again seen.seek_table _ _ (counted is_seek_table (block_of.SeekTable points) bs) r.one_table
not_came seen (block_of.VorbisComment found) bs r = none_again seen.comments _ _ (counted is_comment (block_of.VorbisComment found) bs) r.one_comment
not_came seen (block_of.Padding n) bs r = refl
not_came seen (block_of.Application id bytes) bs r = refl
not_came seen (block_of.CueSheet sheet) bs r = refl
not_came seen (block_of.Picture found) bs r = refl
not_came seen (block_of.Other kind bytes) bs r = refl

tail_none : (k n all : ℕ) → all ≡ k + n → all ≡ 0 → n ≡ 0
tail_none k n all e h = omega (arith, e, h)

of_rest : (seen : Seen) (bs : List Block) → seen.stream_info ≡ true → Rest seen bs → AllBlocks seen bs
of_rest seen [] told r = tt
of_rest seen (b ∷ bs) told r =
    let once = not_came seen b bs r in
    let a = adds seen b told once in
    let valid = All-head IsValid b bs r.each in
    let more : Rest (seen_after seen b) bs = record {
      no_info = tail_none (bit_value (is_stream_info b)) _ _ (counted is_stream_info b bs) r.no_info;
      one_table = back (bit_value seen.seek_table) _ _ _ _ a.table (counted is_seek_table b bs) r.one_table;
      one_comment = back (bit_value seen.comments) _ _ _ _ a.comment (counted is_comment b bs) r.one_comment;
      each = All-tail IsValid b bs r.each;
    } in
    (record { first = λ h. absurd (two seen.stream_info told h); once = once; written = valid.written; fits = valid.fits }, of_rest (seen_after seen b) bs a.told more)

-- ---- all blocks

one_in_all : (n all : ℕ) → all ≡ 1 + n → n ≡ 0 → all ≤ 1
one_in_all n all e h = omega (arith, e, h)

others_none : (n all : ℕ) → all ≡ 1 + n → all ≤ 1 → n ≡ 0
others_none n all e h = omega (arith, e, h)

not_counted : (n all : ℕ) → all ≡ 0 + n → 0 + n ≤ 1 → all ≤ 1
not_counted n all e h = omega (arith, e, h)

still_one : (n all : ℕ) → all ≡ 0 + n → all ≤ 1 → 0 + n ≤ 1
still_one n all e h = omega (arith, e, h)

in_order : (b : Block) (bs : List Block) → AllBlocks nothing_seen (b ∷ bs) → AreInOrder (b ∷ bs)
in_order b bs (is, all) = go b (first_is b (is.first refl) is.written).0 (first_is b (is.first refl) is.written).1 is all
  where
    go : (c : Block) (i : Info) → c ≡ block_of.StreamInfo i → IsBlock nothing_seen c → AllBlocks (seen_after nothing_seen c) bs → AreInOrder (c ∷ bs)
    go (block_of.StreamInfo k) i e is all =
        let c = block_of.StreamInfo k in
        let r = to_rest info_seen bs refl all in
        record {
          info = k;
          others = bs;
          first = refl;
          one_info = one_in_all _ _ (counted is_stream_info c bs) r.no_info;
          one_table = not_counted _ _ (counted is_seek_table c bs) r.one_table;
          one_comment = not_counted _ _ (counted is_comment c bs) r.one_comment;
          each = All-cons IsValid c bs (record { written = is.written; fits = is.fits }) r.each;
        }
    go c i e is all = absurd cc

of_order : (bs : List Block) → AreInOrder bs → AllBlocks nothing_seen bs
of_order bs o =
    let c = block_of.StreamInfo o.info in
    let one_info = subst (λ k. count_by is_stream_info k ≤ 1) o.first o.one_info in
    let one_table = subst (λ k. count_by is_seek_table k ≤ 1) o.first o.one_table in
    let one_comment = subst (λ k. count_by is_comment k ≤ 1) o.first o.one_comment in
    let each = subst (λ k. All IsValid k) o.first o.each in
    let valid = All-head IsValid c o.others each in
    let r : Rest info_seen o.others = record {
      no_info = others_none _ _ (counted is_stream_info c o.others) one_info;
      one_table = still_one _ _ (counted is_seek_table c o.others) one_table;
      one_comment = still_one _ _ (counted is_comment c o.others) one_comment;
      each = All-tail IsValid c o.others each;
    } in
    let all : AllBlocks nothing_seen (c ∷ o.others) = (record { first = λ h. refl; once = refl; written = valid.written; fits = valid.fits }, of_rest info_seen o.others refl r) in
    subst (λ k. AllBlocks nothing_seen k) (sym o.first) all

-- ---- the bits

-- a block that may stand there is the next part, however its padding is spelled
block_comes : (s : Stand) (m : Mark) (text : List Bool) (last : Bool) (b : Block) → s.phase ≡ Blocks → IsBlock s.seen b → BlockSpelled last b text → Spells (layout s) m text (block last b)
unfolding layout
block_comes s m text last b phase is spelled = subst (λ k. Spells (layout_in k s) m text (block last b)) (sym phase) ((last, b), text, [], sym (append-nil text), (blocks_spelled s.seen m text last b).1 (is, spelled), (refl, refl))

-- a block has any length
any_room : (phase : Phase) (m : Mark) (text : List Bool) → phase ≡ Blocks → InRoom (room_in phase) m text
any_room phase m text e = subst (λ k. InRoom (room_in k) m text) (sym e) tt

-- after the block that is marked no block comes
over : (p : Progress) (m : Mark) (list : List MarkedBlock) (text : List Bool) → p.stand.phase ≡ Frames → Joined grammar p m (map part_of list) text → (list ≡ []) × (text ≡ [])
unfolding layout
over p m [] text phase j = (refl, j)
over p m (b ∷ more) text phase (front, rest, split, spelled, fits, others) =
    let f = frame_at p.stand (fresh m) front (part_of b) (subst (λ k. Spells (layout_in k p.stand) (fresh m) front (part_of b)) phase spelled) in
    let e = f.1 in absurd cc

-- what is known of blocks that were read until frames were due
record Read (seen : Seen) (list : List MarkedBlock) (text : List Bool) : Type 0 where
  marks : LastIsMarked list
  all : AllBlocks seen (without_marks list)
  spelled : AreSpelled list text

only_last : (last : Bool) (b : Block) (seen : Seen) (front rest text : List Bool) → last ≡ true → text ≡ front ++ rest → rest ≡ [] → IsBlock seen b → BlockSpelled last b front → Read seen ((last, b) ∷ []) text
only_last last b seen front rest text e split none is spelled = record { marks = e; all = (is, tt); spelled = (front, rest, split, spelled, none) }

one_before : (last : Bool) (b : Block) (seen : Seen) (list : List MarkedBlock) (front rest text : List Bool) → last ≡ false → text ≡ front ++ rest → IsBlock seen b → BlockSpelled last b front → Read (seen_after seen b) list rest
    → Read seen ((last, b) ∷ list) text
one_before last b seen [] front rest text e split is spelled r = absurd r.marks
one_before last b seen (c ∷ cs) front rest text e split is spelled r = record { marks = (e, r.marks); all = (is, r.all); spelled = (front, rest, split, spelled, r.spelled) }

read : (p : Progress) (m : Mark) (list : List MarkedBlock) (text : List Bool) → p.stand.phase ≡ Blocks → Joined grammar p m (map part_of list) text → (state_after grammar p (map part_of list)).stand.phase ≡ Frames → Read p.stand.seen list text
read p m [] text phase j end = let e = sym phase ∙ end in absurd cc
read p m ((true, b) ∷ more) text phase (front, rest, split, spelled, fits, others) end =
    let t = block_there p.stand (fresh m) front (block true b) phase spelled in
    let mark : true ≡ t.last = let e = t.part in cc in
    let same : b ≡ t.is = let e = t.part in cc in
    let none = over (next p (block true b)) (past front (fresh m)) more rest refl others in
    let is = subst (λ k. IsBlock p.stand.seen k) (sym same) t.valid in
    let bits = subst (λ k. BlockSpelled k b front) (sym mark) (subst (λ k. BlockSpelled t.last k front) (sym same) t.spelled) in
    subst (λ k. Read p.stand.seen ((true, b) ∷ k) text) (sym none.0) (only_last true b p.stand.seen front rest text refl split none.1 is bits)
read p m ((false, b) ∷ more) text phase (front, rest, split, spelled, fits, others) end =
    let t = block_there p.stand (fresh m) front (block false b) phase spelled in
    let mark : false ≡ t.last = let e = t.part in cc in
    let same : b ≡ t.is = let e = t.part in cc in
    let is = subst (λ k. IsBlock p.stand.seen k) (sym same) t.valid in
    let bits = subst (λ k. BlockSpelled k b front) (sym mark) (subst (λ k. BlockSpelled t.last k front) (sym same) t.spelled) in
    one_before false b p.stand.seen more front rest text refl split is bits (read (next p (block false b)) (past front (fresh m)) more rest refl others end)

-- and the other way
abbrev Until : Progress → Mark → List MarkedBlock → List Bool → Type 0
Until p m list text = Joined grammar p m (map part_of list) text × ((state_after grammar p (map part_of list)).stand.phase ≡ Frames)

here : (p : Progress) (m : Mark) (list : List MarkedBlock) (text : List Bool) → p.stand.phase ≡ Blocks → LastIsMarked list → AllBlocks p.stand.seen (without_marks list) → AreSpelled list text → Until p m list text
here p m [] text phase marks all spelled = absurd marks
here p m ((false, b) ∷ []) text phase marks all spelled = absurd cc
here p m ((true, b) ∷ []) text phase marks (is, all) (front, rest, split, spelled, none) =
    ((front, rest, split, block_comes p.stand (fresh m) front true b phase is spelled, any_room p.stand.phase (fresh m) front phase, none), refl)
here p m ((true, b) ∷ c ∷ cs) text phase (e, marks) all spelled = absurd cc
here p m ((false, b) ∷ c ∷ cs) text phase (e, marks) (is, all) (front, rest, split, spelled, more) =
    let u = here (next p (block false b)) (past front (fresh m)) (c ∷ cs) rest refl marks all more in
    ((front, rest, split, block_comes p.stand (fresh m) front false b phase is spelled, any_room p.stand.phase (fresh m) front phase, u.0), u.1)

-- there is a first block
ordered : (list : List MarkedBlock) → LastIsMarked list → AllBlocks nothing_seen (without_marks list) → AreInOrder (without_marks list)
ordered [] marks all = absurd marks
ordered (b ∷ bs) marks all = in_order b.1 (without_marks bs) all

pub are_ordered : (profile : Profile) (m : Mark) (list : List MarkedBlock) (text : List Bool) → AreRead profile m list text → AreOrdered list text
are_ordered profile m list text u =
    let r = read (next (opening profile) marked) m list text refl u.spelled u.over in
    record { marks = r.marks; order = ordered list r.marks r.all; spelled = r.spelled }

pub are_read : (profile : Profile) (m : Mark) (list : List MarkedBlock) (text : List Bool) → AreOrdered list text → AreRead profile m list text
are_read profile m list text o =
    let u = here (next (opening profile) marked) m list text refl o.marks (of_order (without_marks list) o.order) o.spelled in
    record { spelled = u.0; over = u.1 }

-- ---- a stream

-- blocks with their marks, of which the last is marked
pub record Closed (b : Block) (bs : List Block) : Type 0 where
  pub list : List MarkedBlock
  pub parts : closing (b ∷ bs) ≡ map part_of list
  pub marks : LastIsMarked list
  pub blocks : without_marks list ≡ b ∷ bs

before_all : (b : Block) (c : Block) (cs : List Block) (list : List MarkedBlock) → closing (c ∷ cs) ≡ map part_of list → LastIsMarked list → without_marks list ≡ c ∷ cs → Closed b (c ∷ cs)
before_all b c cs [] parts marks blocks = absurd marks
before_all b c cs (x ∷ xs) parts marks blocks = record { list = (false, b) ∷ x ∷ xs; parts = ap (λ k. block false b ∷ k) parts; marks = (refl, marks); blocks = ap (λ k. b ∷ k) blocks }

pub closed : (b : Block) (bs : List Block) → Closed b bs
closed b [] = record { list = (true, b) ∷ []; parts = refl; marks = refl; blocks = refl }
closed b (c ∷ cs) = let r = closed c cs in before_all b c cs r.list r.parts r.marks r.blocks

has_blocks : (profile : Profile) (m : Mark) (items : List Piece) (text : List Bool) → Stream grammar (opening profile) m items text → HasBlocks items
has_blocks profile m items text s =
    let w = (whole.streams_are_whole profile m items text).0 s in
    let first = block_of.StreamInfo w.info in
    let all = valid_after profile m w.info w.list w.begins.head w.begins.spelled in
    let c = closed first w.list in
    record {
      list = c.list;
      frames = w.frames;
      parts = w.parts ∙ ap (λ k. marked ∷ (k ++ map framed w.frames)) c.parts;
      marks = c.marks;
      order = subst AreInOrder (sym c.blocks) (in_order first w.list all);
    }

pub blocks_are_in_order : BlocksAreInOrder
blocks_are_in_order = record { read = λ profile m list text. (are_ordered profile m list text, are_read profile m list text); streams = has_blocks }
