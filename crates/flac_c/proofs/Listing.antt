-- Metadata blocks that are listed: how many bytes they have, and the list after one more.
use Rattle.std.proofs.Common.{◌≡◌, ℕ, ◌+◌, ◌*◌, ◌/◌, ◌^◌, ◌<◌, Bool, true, List, [], ◌∷◌, ◌++◌, length, length-append, refl, sym, ap, subst, ◌∙◌, arith}
use Rattle.flac_bits.specs.State.{State, Mark, past, fresh}
use Rattle.flac_bits.specs.Meaning.{Spells}
use Rattle.flac_bits.specs.Items.{Joined}
use Rattle.flac_header.specs.declared.subset.Profile.{Profile}
use Rattle.flac_meta.specs.Block.{block as block_layout}
use Rattle.flac_meta.specs.Spelling.{length_of}
use Rattle.flac_meta.specs.declared.block.Seen.{Seen}
use Rattle.flac_meta.specs.declared.block.Block.{Block}
use Rattle.flac_meta.proofs.Blocks.{blocks_spelled}
use Rattle.flac_meta.proofs.Lengths.{faultless}
use Rattle.flac_frame.specs.Frame.{Frame}
use Rattle.flac_native.specs.Stream.{Piece, marked, block, framed, Progress, Stand, grammar, opening, next, layout}
use Rattle.flac_native.specs.declared.track.Phase.{Phase}
use Rattle.flac_native.specs.declared.track.Phase.TheVariants.{Opening, Blocks, Frames}
use Rattle.flac_native.proofs.Blocks.{block_there, marker_there}
use Rattle.flac_native.proofs.Onwards.{nothing_told, frame_there}
use Rattle.flac_c.specs.Described.{block_at, blocks_at}
use Rattle.flac_c.specs.Starts.{are_metadata}
use Rattle.flac_c.specs.inner.Blocks.{PartsRead}
use Rattle.flac_c.specs.inner.Described.{Listed, ListOf, bytes_in}
use Rattle.flac_c.specs.declared.blocks.FlacProvedBlock.{FlacProvedBlock}
use Rattle.flac_native.proofs.BlockLengths.{block_long}
use Rattle.flac_c.proofs.HeadBytes.{count_after_parts}
use Rattle.flac_c.proofs.StreamStarts.{fewer_metadata}

-- ---- how many bytes parts have

no_frame : (f : Frame) → are_metadata (framed f ∷ []) ≡ true → ⊥
no_frame f e = absurd cc

pub one_long : (s : Stand) (m : Mark) (text : List Bool) (x : Piece) → are_metadata (x ∷ []) ≡ true → Spells (layout s) (fresh m) text x → length text ≡ 8 * bytes_in (x ∷ [])
one_long s m text x metadata h = go s.phase refl
  where
    go : (k : Phase) → s.phase ≡ k → length text ≡ 8 * bytes_in (x ∷ [])
    go Opening e = let g = marker_there s (fresh m) text x e h in subst (λ (y : Piece). length text ≡ 8 * bytes_in (y ∷ [])) (sym g.0) (omega (arith, g.1))
    go Blocks e =
        let t = block_there s (fresh m) text x e h in
        let long = block_long t.last t.is text t.valid.fits t.spelled in
        subst (λ (y : Piece). length text ≡ 8 * bytes_in (y ∷ [])) (sym t.part) (omega (arith, long))
    go Frames e = let t = frame_there s (fresh m) text x e h in absurd (no_frame t.is (subst (λ (y : Piece). are_metadata (y ∷ []) ≡ true) t.part metadata))

pub first_metadata : (x : Piece) (xs : List Piece) → are_metadata (x ∷ xs) ≡ true → are_metadata (x ∷ []) ≡ true
first_metadata marked xs e = refl
first_metadata (block last b) xs e = refl
first_metadata (framed f) xs e = absurd cc

bytes_cons : (x : Piece) (xs : List Piece) → bytes_in (x ∷ xs) ≡ bytes_in (x ∷ []) + bytes_in xs
bytes_cons marked xs = omega arith
bytes_cons (block last b) xs = omega arith
bytes_cons (framed f) xs = omega arith

parts_long : (p : Progress) (m : Mark) (items : List Piece) (text : List Bool) → are_metadata items ≡ true → Joined grammar p m items text → length text ≡ 8 * bytes_in items
parts_long p m [] text metadata j = ap (λ (t : List Bool). length t) j
parts_long p m (x ∷ xs) text metadata (front, rest, split, spelled, fits, others) =
    let one = one_long p.stand m front x (first_metadata x xs metadata) spelled in
    let more = parts_long (next p x) (past front (fresh m)) xs rest (fewer_metadata x xs metadata) others in
    omega (arith, ap (λ (t : List Bool). length t) split, length-append front rest, one, more, bytes_cons x xs)

-- where a reader is after them
pub record Place (start now : State) (parts : List Piece) : Type 0 where
  pub bytes : now.cursor.mark.bytes ≡ bytes_in parts
  pub whole : now.cursor.mark.unread ≡ 0
  pub left : 8 * now.cursor.mark.bytes + length now.cursor.left ≡ length start.cursor.left

pub place_of : (profile : Profile) (start now : State) (Told : List Piece → Type 0) (r : PartsRead profile start now Told) → start.cursor.mark.unread ≡ 0 → start.cursor.mark.bytes ≡ 0 → length start.cursor.left < 2 ^ 67 → Place start now r.parts
place_of profile start now Told r whole none short =
    let text : List Bool = r.text in
    let all : length start.cursor.left ≡ length text + length now.cursor.left = ap (λ (l : List Bool). length l) r.stands ∙ length-append text now.cursor.left in
    let count = count_after_parts (opening profile) start.cursor.mark r.parts text r.spelled 0 nothing_told whole none (omega (arith, all, short)) in
    let long = parts_long (opening profile) start.cursor.mark r.parts text r.metadata r.spelled in
    let bytes_are : now.cursor.mark.bytes ≡ 0 + length text / 8 = ap (λ (m : Mark). m.bytes) r.mark ∙ count.1 in
    record {
      bytes = omega (arith, bytes_are, long);
      whole = ap (λ (m : Mark). m.unread) r.mark ∙ count.2;
      left = omega (arith, bytes_are, long, all);
    }

-- ---- one block more

blocks_more : (at : ℕ) (xs : List Piece) (last : Bool) (b : Block) → blocks_at at (xs ++ block last b ∷ []) ≡ blocks_at at xs ++ block_at (at + bytes_in xs) last b ∷ []
blocks_more at [] last b = let same : at ≡ at + 0 = omega arith in ap (λ (n : ℕ). block_at n last b ∷ []) same
blocks_more at (marked ∷ xs) last b =
    let same : at + 4 + bytes_in xs ≡ at + (4 + bytes_in xs) = omega arith in
    blocks_more (at + 4) xs last b ∙ ap (λ (n : ℕ). blocks_at (at + 4) xs ++ block_at n last b ∷ []) same
blocks_more at (block l c ∷ xs) last b =
    let next : ℕ = at + 4 + length_of c in
    let same : next + bytes_in xs ≡ at + (4 + length_of c + bytes_in xs) = omega arith in
    ap (λ (r : List FlacProvedBlock). block_at at l c ∷ r) (blocks_more next xs last b ∙ ap (λ (n : ℕ). blocks_at next xs ++ block_at n last b ∷ []) same)
blocks_more at (framed f ∷ xs) last b = blocks_more at xs last b

pub list_more : (parts : List Piece) (old new : List FlacProvedBlock) (at : ℕ) (last : Bool) (b : Block) → ListOf old parts → at ≡ bytes_in parts → Listed old new at last b → ListOf new (parts ++ block last b ∷ [])
list_more parts old new at last b told is listed =
    let place : at ≡ 0 + bytes_in parts = omega (arith, is) in
    listed
    ∙ ap (λ (l : List FlacProvedBlock). l ++ block_at at last b ∷ []) told
    ∙ ap (λ (n : ℕ). blocks_at 0 parts ++ block_at n last b ∷ []) place
    ∙ sym (blocks_more 0 parts last b)

-- a block that was read ends below 2^64 bytes
pub record Fits (at : ℕ) (b : Block) : Type 0 where
  pub small : length_of b < 2 ^ 24
  pub within : at + 4 + length_of b < 2 ^ 64

pub block_fits : (seen : Seen) (m : Mark) (at : ℕ) (left text rest : List Bool) (last : Bool) (b : Block) → left ≡ text ++ rest → Spells (block_layout seen) m text (last, b) → 8 * at + length left < 2 ^ 67 → Fits at b
block_fits seen m at left text rest last b split spelled short =
    let s = (blocks_spelled seen m text last b).0 spelled in
    let long = block_long last b text s.0.fits s.1 in
    let all : length left ≡ length text + length rest = ap (λ (l : List Bool). length l) split ∙ length-append text rest in
    record { small = (faultless b s.0.written).small; within = omega (arith, long, all, short) }
