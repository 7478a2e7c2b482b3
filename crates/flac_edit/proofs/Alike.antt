-- Blocks that are written with the same bits.
use Rattle.std.proofs.Common.{◌≡◌, ◌+◌, ◌<◌, ◌≤◌, ℕ, Bool, false, List, [], ◌∷◌, ◌++◌, length, take, take_all, map, get_or, None, Result, Ok, Err, IfOk, sym, ap, ◌∙◌, subst}
use Rattle.std.proofs.lemmas.List.{take_more, map-append}
use Rattle.flac_meta.specs.Spelling.{block_spelling}
use Rattle.flac_meta.specs.declared.block.Block.{Block}
use Rattle.flac_bits.specs.Bits.{bits_of}
use Rattle.flac_bits.specs.State.{Cursor}
use Rattle.flac_native.specs.Retag.{AreRead}
use Rattle.flac_edit.specs.BlockEdits.{edited_blocks, block_fault}
use Rattle.flac_edit.specs.Rewritten.{Judges}
use Rattle.flac_edit.specs.Changed.{AreAlike, KeepsBlocksAt}
use Rattle.flac_edit.specs.declared.block_edits.BlockEdits.{BlockEdits}
use Rattle.flac_edit.specs.declared.rewriting_blocks.EditFault.{EditFault}

pub same_bits : (one other : Block) (xs ys : List ℕ) → bits_of xs ≡ block_spelling false one → bits_of ys ≡ block_spelling false other → xs ≡ ys → block_spelling false one ≡ block_spelling false other
same_bits one other xs ys is are same = sym is ∙ ap bits_of same ∙ are

-- the first i blocks of each are written alike
abbrev pub AreAlikeFront : (ones others : List Block) → ℕ → Type 0
AreAlikeFront ones others i = map (block_spelling false) (take i ones) ≡ map (block_spelling false) (take i others)

pub alike_next : (ones others : List Block) (i : ℕ) (one other : Block) → i < length ones → i < length others → one ≡ get_or ones i one → other ≡ get_or others i other →
    block_spelling false one ≡ block_spelling false other → AreAlikeFront ones others i → AreAlikeFront ones others (i + 1)
alike_next ones others i one other within inside is are same front =
    let a : take (i + 1) ones ≡ take i ones ++ one ∷ [] = take_more ones i one within ∙ ap (λ b. take i ones ++ b ∷ []) (sym is) in
    let b : take (i + 1) others ≡ take i others ++ other ∷ [] = take_more others i other inside ∙ ap (λ b. take i others ++ b ∷ []) (sym are) in
    ap (map (block_spelling false)) a ∙ map-append (block_spelling false) (take i ones) (one ∷ []) ∙ ap (λ l. l ++ block_spelling false one ∷ []) front
    ∙ ap (λ x. map (block_spelling false) (take i others) ++ x ∷ []) same ∙ sym (map-append (block_spelling false) (take i others) (other ∷ [])) ∙ sym (ap (map (block_spelling false)) b)

pub alike_end : (ones others : List Block) (i : ℕ) → length ones ≤ i → length others ≤ i → AreAlikeFront ones others i → map (block_spelling false) ones ≡ map (block_spelling false) others
alike_end ones others i end stop front = sym (ap (map (block_spelling false)) (take_all i ones end)) ∙ front ∙ ap (map (block_spelling false)) (take_all i others stop)

-- edits that are not refused, of blocks that were read, and that change none of their bits
kept_blocks : (c : Cursor) (edits : BlockEdits) (found blocks : List Block) (rest : List Bool) → AreRead c found rest → blocks ≡ found → block_fault edits blocks ≡ None → AreAlike (edited_blocks edits blocks) blocks → KeepsBlocksAt c edits
kept_blocks c edits found blocks rest are is allowed alike =
    let e = is ∙ are.are in
    record {
      info = are.info;
      list = are.others;
      rest = rest;
      input = are.begins;
      allowed = sym (ap (block_fault edits) e) ∙ allowed;
      alike = subst (λ (l : List Block). AreAlike (edited_blocks edits l) l) e alike;
    }

pub kept_from : (r : Result Bool EditFault) (c : Cursor) (edits : BlockEdits) (found blocks : List Block) (rest : List Bool) (Known : Type 0) → (Known → AreRead c found rest) → blocks ≡ found
    → IfOk r (λ changes. changes ≡ false → AreAlike (edited_blocks edits blocks) blocks) → Judges r (block_fault edits blocks) → IfOk r (λ changes. changes ≡ false → Known → KeepsBlocksAt c edits)
kept_from (Ok changes) c edits found blocks rest Known read is kept judged = λ same known. kept_blocks c edits found blocks rest (read known) is judged (kept same)
kept_from (Err f) c edits found blocks rest Known read is kept judged = tt
