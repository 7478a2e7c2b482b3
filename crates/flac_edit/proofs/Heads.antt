-- The marker and the blocks of a file, in bits as the grammar reads them and in bytes.
use Rattle.std.proofs.Common.{◌≡◌, ℕ, ◌+◌, ◌*◌, Bool, true, false, not, nat_eq, List, [], ◌∷◌, ◌++◌, map, All, length, take, drop, refl, sym, ap, subst, ◌∙◌, arith, append_assoc, take-append-drop}
use Rattle.std.proofs.lemmas.Bool.Decides.{nat_tests}
use Rattle.std.proofs.lemmas.List.{append-nil}
use Rattle.std.proofs.lemmas.List.Elements.{All-head, All-tail}
use Rattle.flac_bits.specs.Bits.{bits_of, unsigned}
use Rattle.flac_bits.specs.State.{Mark, past, fresh}
use Rattle.flac_bits.specs.Meaning.{Spells}
use Rattle.flac_bits.specs.Items.{Joined, state_after}
use Rattle.flac_bits.proofs.Holding.{bits_of-append}
use Rattle.flac_bits.proofs.Words.{length-unsigned}
use Rattle.flac_info.specs.Info.{Info}
use Rattle.flac_meta.specs.Spelling.{length_of}
use Rattle.flac_meta.specs.Valid.{BlockSpelled}
use Rattle.flac_meta.specs.declared.block.Block.{Block}
use Rattle.flac_meta.specs.declared.block.Block.TheVariants as block_of
use Rattle.flac_meta.proofs.Lengths.{faultless}
use Rattle.flac_header.specs.declared.subset.Profile.TheVariants.{Subset}
use Rattle.flac_native.specs.Stream.{Piece, marked, Stand, grammar, opening, next, layout, layout_in, marker}
use Rattle.flac_native.specs.Given.{closing}
use Rattle.flac_native.specs.Retag.{BeginsWith}
use Rattle.flac_native.specs.BlockOrder.{IsValid, AreInOrder, MarkedBlock, LastIsMarked, without_marks, part_of, AreSpelled, AreOrdered}
use Rattle.flac_native.specs.declared.track.Phase.TheVariants.{Opening, Frames}
use Rattle.flac_native.proofs.BlockOrder.{closed, are_ordered, are_read}
use Rattle.flac_native.proofs.OneHead.{closing_ends}
use Rattle.flac_native.proofs.Streams.{marker_here}
use Rattle.flac_edit.specs.inner.Reads.{AreBlocks, AreMarked, Reads}
use Rattle.flac_native.proofs.BlockLengths.{block_long}
use Rattle.flac_edit.proofs.Spelled.{front_bytes}

-- ---- the marker in bits

is_marker : (v : ℕ) → not (nat_eq v 0x664C6143) ≡ false → v ≡ 0x664C6143
is_marker v e = grind (arith, nat_tests)

marker_bits : (s : Stand) (m : Mark) (text : List Bool) (x : Piece) → Spells (layout_in Opening s) m text x → text ≡ unsigned 32 0x664C6143
unfolding marker
marker_bits s m text x (u, front, rest, split, (v, f, r, cut, (lt, is), (gone, kept)), (none, same)) =
    let all : text ≡ front = split ∙ ap (λ (k : List Bool). front ++ k) none ∙ append-nil front in
    let it : front ≡ f = cut ∙ ap (λ (k : List Bool). f ++ k) gone ∙ append-nil f in
    all ∙ it ∙ is ∙ ap (λ k. unsigned 32 k) (is_marker v kept.0)

marker_is : (m : Mark) (text : List Bool) (x : Piece) → Spells (layout (opening Subset).stand) m text x → text ≡ unsigned 32 0x664C6143
unfolding layout
marker_is m text x h = marker_bits (opening Subset).stand m text x h

-- ---- marks

pub last_marked : (b : MarkedBlock) (bs : List MarkedBlock) → AreMarked (b ∷ bs) → LastIsMarked (b ∷ bs)
last_marked b [] are = are.0
last_marked b (c ∷ cs) are = (are.0, last_marked c cs are.1)

pub are_marked : (bs : List MarkedBlock) → LastIsMarked bs → AreMarked bs
are_marked [] are = tt
are_marked (b ∷ []) are = (are, tt)
are_marked (b ∷ c ∷ cs) (e, more) = (e, are_marked (c ∷ cs) more)

pub closes : (list : List MarkedBlock) → LastIsMarked list → map part_of list ≡ closing (without_marks list)
closes [] marks = absurd marks
closes ((true, b) ∷ []) marks = refl
closes ((false, b) ∷ []) marks = absurd cc
closes ((true, b) ∷ c ∷ cs) (e, marks) = absurd cc
closes ((false, b) ∷ c ∷ cs) (e, marks) = ap (λ ys. part_of (false, b) ∷ ys) (closes (c ∷ cs) marks)

-- ---- from bits to bytes

-- blocks that come first in bytes
record Front (blocks : List MarkedBlock) (tail : List Bool) (bytes : List ℕ) : Type 0 where
  head : List ℕ
  rest : List ℕ
  is : bytes ≡ head ++ rest
  are : AreBlocks blocks head
  rest_is : bits_of rest ≡ tail

front_blocks : (blocks : List MarkedBlock) (text tail : List Bool) (bytes : List ℕ) → AreSpelled blocks text → All IsValid (without_marks blocks) → bits_of bytes ≡ text ++ tail → Front blocks tail bytes
front_blocks [] text tail bytes none valid is = record { head = []; rest = bytes; is = refl; are = refl; rest_is = is ∙ ap (λ (l : List Bool). l ++ tail) none }
front_blocks (b ∷ bs) text tail bytes (front, rest, split, spelled, more) valid is =
    let v : IsValid b.1 = All-head IsValid b.1 (without_marks bs) valid in
    let k = 4 + length_of b.1 in
    let long : length front ≡ 8 * k = block_long b.0 b.1 front v.fits spelled in
    let all : bits_of bytes ≡ front ++ (rest ++ tail) = is ∙ ap (λ (l : List Bool). l ++ tail) split ∙ append_assoc front rest tail in
    let parts = front_bytes bytes front (rest ++ tail) k long all in
    let f = front_blocks bs rest tail (drop k bytes) more (All-tail IsValid b.1 (without_marks bs) valid) parts.1 in
    let small = (faultless b.1 v.written).small in
    record {
      head = take k bytes ++ f.head;
      rest = f.rest;
      is = sym (take-append-drop k bytes) ∙ ap (λ (l : List ℕ). take k bytes ++ l) f.is ∙ sym (append_assoc (take k bytes) f.head f.rest);
      are = (take k bytes, f.head, record { spelled = subst (λ t. BlockSpelled b.0 b.1 t) (sym parts.0) spelled; short = omega (arith, small); long = parts.2 }, f.are, refl);
      rest_is = f.rest_is;
    }

abbrev pub with_info : Info → List Block → List Block
with_info i list = block_of.StreamInfo i ∷ list

-- bits that begin with the marker and these blocks
pub record Headed (info : Info) (list : List Block) (rest text : List Bool) : Type 0 where
  pub blocks : List MarkedBlock
  pub head : List Bool
  pub is : text ≡ unsigned 32 0x664C6143 ++ (head ++ rest)
  pub are : without_marks blocks ≡ with_info info list
  pub ordered : AreOrdered blocks head

abbrev head_parts : Info → List Block → List Piece
head_parts i list = marked ∷ closing (with_info i list)

pub headed : (m : Mark) (text : List Bool) (info : Info) (list : List Block) (rest : List Bool) → BeginsWith m text info list rest → Headed info list rest text
headed m text info list rest b = go b.head b.stands b.spelled
  where
    go : (head : List Bool) → text ≡ head ++ rest → Joined grammar (opening Subset) m (head_parts info list) head → Headed info list rest text
    go head stands (front, after_marker, split, spelled, fits, others) =
        let first = block_of.StreamInfo info in
        let bits = marker_is (fresh m) front marked spelled in
        let c = closed first list in
        let joined = subst (λ ys. Joined grammar (next (opening Subset) marked) (past front (fresh m)) ys after_marker) c.parts others in
        let over = subst (λ (ys : List Piece). (state_after grammar (next (opening Subset) marked) ys).stand.phase ≡ Frames) c.parts (closing_ends (next (opening Subset) marked) first list) in
        record {
          blocks = c.list;
          head = after_marker;
          is = stands ∙ ap (λ t. t ++ rest) (split ∙ ap (λ t. t ++ after_marker) bits) ∙ append_assoc (unsigned 32 0x664C6143) after_marker rest;
          are = c.blocks;
          ordered = are_ordered Subset (past front (fresh m)) c.list after_marker (record { spelled = joined; over = over });
        }

-- A file whose bits begin with the marker and these blocks, in bytes.
pub record Head (info : Info) (list : List Block) (rest : List Bool) (file : List ℕ) : Type 0 where
  pub blocks : List MarkedBlock
  pub frames : List ℕ
  pub reads : Reads blocks frames file
  pub marked : AreMarked blocks
  pub are : without_marks blocks ≡ with_info info list
  pub order : AreInOrder (without_marks blocks)
  pub rest_is : bits_of frames ≡ rest

in_bytes : (info : Info) (list : List Block) (blocks : List MarkedBlock) (head rest : List Bool) (file : List ℕ) → without_marks blocks ≡ with_info info list → AreOrdered blocks head → bits_of file ≡ unsigned 32 0x664C6143 ++ (head ++ rest)
    → Head info list rest file
in_bytes info list blocks head rest file are ordered is =
    let parts = front_bytes file (unsigned 32 0x664C6143) (head ++ rest) 4 (length-unsigned 32 0x664C6143) is in
    let f = front_blocks blocks head rest (drop 4 file) ordered.spelled ordered.order.each parts.1 in
    record {
      blocks = blocks;
      frames = f.rest;
      reads = record {
        marker = take 4 file;
        head = f.head;
        marker_is = record { bits = parts.0; four = parts.2 };
        file_is = sym (take-append-drop 4 file) ∙ ap (λ (l : List ℕ). take 4 file ++ l) f.is;
        spelled = f.are;
      };
      marked = are_marked blocks ordered.marks;
      are = are;
      order = ordered.order;
      rest_is = f.rest_is;
    }

pub head_of : (m : Mark) (file : List ℕ) (info : Info) (list : List Block) (rest : List Bool) → BeginsWith m (bits_of file) info list rest → Head info list rest file
head_of m file info list rest b = let h = headed m (bits_of file) info list rest b in in_bytes info list h.blocks h.head rest file h.are h.ordered h.is

-- ---- from bytes to bits

spelled_bits : (blocks : List MarkedBlock) (head : List ℕ) → AreBlocks blocks head → AreSpelled blocks (bits_of head)
spelled_bits [] head none = ap bits_of none
spelled_bits (b ∷ bs) head (one, rest, is, more, split) = (bits_of one, bits_of rest, ap bits_of split ∙ bits_of-append one rest, is.spelled, spelled_bits bs rest more)

-- ordered blocks after the marker are a head
pub begins_bits : (m : Mark) (text : List Bool) (blocks : List MarkedBlock) (head rest : List Bool) (info : Info) (list : List Block) → text ≡ unsigned 32 0x664C6143 ++ (head ++ rest) → AreOrdered blocks head → without_marks blocks ≡ with_info info list
    → BeginsWith m text info list rest
begins_bits m text blocks head rest info list is o are =
    let bits = unsigned 32 0x664C6143 in
    let u = are_read Subset (past bits (fresh m)) blocks head o in
    let parts : map part_of blocks ≡ closing (with_info info list) = closes blocks o.marks ∙ ap closing are in
    record {
      head = bits ++ head;
      stands = is ∙ sym (append_assoc bits head rest);
      spelled = (bits, head, refl, marker_here Subset (fresh m), tt, subst (λ ys. Joined grammar (next (opening Subset) marked) (past bits (fresh m)) ys head) parts u.spelled);
    }

pub begins : (m : Mark) (file : List ℕ) (b : MarkedBlock) (bs : List MarkedBlock) (frames : List ℕ) (info : Info) (list : List Block) → Reads (b ∷ bs) frames file → AreMarked (b ∷ bs) → without_marks (b ∷ bs) ≡ with_info info list
    → AreInOrder (without_marks (b ∷ bs)) → BeginsWith m (bits_of file) info list (bits_of frames)
begins m file b bs frames info list r marks are order =
    let bits = unsigned 32 0x664C6143 in
    let o : AreOrdered (b ∷ bs) (bits_of r.head) = record { marks = last_marked b bs marks; order = order; spelled = spelled_bits (b ∷ bs) r.head r.spelled } in
    let whole : bits_of file ≡ bits ++ (bits_of r.head ++ bits_of frames) =
    ap bits_of r.file_is ∙ bits_of-append r.marker (r.head ++ frames) ∙ ap (λ (l : List Bool). l ++ bits_of (r.head ++ frames)) r.marker_is.bits ∙ ap (λ (l : List Bool). bits ++ l) (bits_of-append r.head frames) in
    begins_bits m (bits_of file) (b ∷ bs) (bits_of r.head) (bits_of frames) info list whole o are
