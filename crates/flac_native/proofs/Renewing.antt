-- What stands before the frames, with other comments.
use Rattle.std.proofs.Common.{◌≡◌, ◌∙◌, suc, ◌++◌, List, [], ◌∷◌, length, ap, Bool, false, Option, Some, None, Result, Ok, Err, refl, sym, subst, arith}
use Rattle.std.specs.Prelude.{IfSome, IfErr, OnOk}
use Rattle.std.proofs.lemmas.List.{append-nil}
use Rattle.flac_bits.specs.Bits.{unsigned, is_nil}
use Rattle.flac_bits.specs.Written.{Written, Adds, Fails}
use Rattle.flac_bits.specs.declared.why.Why.{Why}
use Rattle.flac_bits.proofs.Writing.{adds_then, fails_first, fails_then}
use Rattle.flac_meta.specs.Listed.{block_fault}
use Rattle.flac_meta.specs.Spelling.{block_spelling}
use Rattle.flac_meta.specs.declared.block.Block.{Block}
use Rattle.flac_meta.specs.declared.block.Block.TheVariants as block_of
use Rattle.flac_meta.specs.declared.comments.Comments.{Comments}
use Rattle.flac_native.specs.inner.InOrder.{MayBeWritten, Advances}
use Rattle.flac_native.specs.Writing.{blocks_spelling}
use Rattle.flac_native.specs.inner.Retag.{MayBeHead, new_head}
use Rattle.flac_native.proofs.WholeBytes.{Whole, whole_nil, whole_append, blocks_whole}

abbrev answered : {X : Type 0} → X → Result X Why
answered x = Ok x

-- what was not refused was written
pub was_written : {X : Type 0} (P : Type 0) (b : Block) (W : Type 0) (x : X) → IfSome (block_fault b) (λ (why : Why). (answered x ≡ Err why) × P) → (block_fault b ≡ None → W) → W
was_written {X} P b W x refused writes = go (block_fault b) refused writes
  where
    go : (o : Option Why) → IfSome o (λ (why : Why). (answered x ≡ Err why) × P) → (o ≡ None → W) → W
    go None r w = w refl
    go (Some why) r w = let e = r.0 in absurd cc

-- the parts, one after another
pub head_added : {X : Type 0} (comments : Comments) (first : Block) (others kept : List Block) (last : Bool) (a b c d e : Written) (r : Result X Why) → kept ≡ first ∷ others → last ≡ is_nil others
    → Adds (unsigned 32 0x664C6143) a b → Adds (block_spelling false first) b c → Adds (block_spelling last (block_of.VorbisComment comments)) c d → OnOk r (Adds (blocks_spelling others) d e)
    → OnOk r (Adds (new_head comments kept) a e)
head_added comments first others kept last a b c d e (Err w) is at p q s t = tt
head_added comments first others kept last a b c d e (Ok x) is at p q s t =
    let note : Adds (block_spelling (is_nil others) (block_of.VorbisComment comments)) c d = subst (λ l. Adds (block_spelling l (block_of.VorbisComment comments)) c d) at s in
    subst (λ l. Adds (new_head comments l) a e) (sym is) (adds_then p (adds_then q (adds_then note t)))

-- all blocks were written
pub all_added : {X : Type 0} (bs : List Block) (d e : Written) (r : Result X Why) → OnOk r ((more : List Block) → length bs ≡ length (bs ++ more) → Advances (blocks_spelling more) (blocks_spelling (bs ++ more)) d e) → OnOk r (Adds (blocks_spelling bs) d e)
all_added bs d e (Err w) h = tt
all_added bs d e (Ok x) h =
    let none : bs ++ [] ≡ bs = append-nil bs in
    let a = h [] (ap (λ (l : List Block). length l) (sym none)) in
    subst (λ l. Adds (blocks_spelling l) d e) none (record { known = a.known; errors = a.errors; names = a.names; mark = a.mark; bits = λ k. sym (append-nil e.bits) ∙ a.bits k })

-- the marker and all blocks, one after another
pub marker_and_all : {X : Type 0} (bs : List Block) (a b c : Written) (r : Result X Why) → Adds (unsigned 32 0x664C6143) a b → OnOk r (Adds (blocks_spelling bs) b c) → OnOk r (Adds (unsigned 32 0x664C6143 ++ blocks_spelling bs) a c)
marker_and_all bs a b c (Err w) p q = tt
marker_and_all bs a b c (Ok x) p q = adds_then p q

-- ---- a target that failed

-- the blocks of a head, one by one
pub first_may : (comments : Comments) (first : Block) (others kept : List Block) → kept ≡ first ∷ others → MayBeHead comments kept → block_fault first ≡ None
first_may comments first others kept is may =
    let h = subst (λ l. MayBeHead comments l) is may in h.each 0 first (omega arith) refl

others_may : (comments : Comments) (first : Block) (others kept : List Block) → kept ≡ first ∷ others → MayBeHead comments kept → MayBeWritten others
others_may comments first others kept is may =
    let h = subst (λ l. MayBeHead comments l) is may in λ i b lt at. h.each (suc i) b (omega (arith, lt)) at

module _ (comments : Comments) (first : Block) (others kept : List Block) (is : kept ≡ first ∷ others) where
  whole_failed : (a b : Written) (e : Why) → Fails (a.bits ++ (unsigned 32 0x664C6143 ++ blocks_spelling (first ∷ block_of.VorbisComment comments ∷ others))) a b e → Fails (a.bits ++ new_head comments kept) a b e
  whole_failed a b e f = subst (λ l. Fails (a.bits ++ new_head comments l) a b e) (sym is) f

  pub marker_failed : (a b : Written) (e : Why) → Fails (a.bits ++ unsigned 32 0x664C6143) a b e → Fails (a.bits ++ new_head comments kept) a b e
  marker_failed a b e f = whole_failed a b e (fails_first (unsigned 32 0x664C6143) (blocks_spelling (first ∷ block_of.VorbisComment comments ∷ others)) f)

  pub first_failed : (a b c : Written) (e : Why) → Adds (unsigned 32 0x664C6143) a b → Fails (b.bits ++ block_spelling false first) b c e → Fails (a.bits ++ new_head comments kept) a c e
  first_failed a b c e p f = whole_failed a c e (fails_then (blocks_spelling (first ∷ block_of.VorbisComment comments ∷ others)) p (fails_first (block_spelling false first) (blocks_spelling (block_of.VorbisComment comments ∷ others)) f))

  pub note_failed : (last : Bool) (a b c d : Written) (e : Why) → last ≡ is_nil others → Adds (unsigned 32 0x664C6143) a b → Adds (block_spelling false first) b c
      → Fails (c.bits ++ block_spelling last (block_of.VorbisComment comments)) c d e → Fails (a.bits ++ new_head comments kept) a d e
  note_failed last a b c d e at p q f =
      let here : Fails (c.bits ++ block_spelling (is_nil others) (block_of.VorbisComment comments)) c d e = subst (λ l. Fails (c.bits ++ block_spelling l (block_of.VorbisComment comments)) c d e) at f in
      whole_failed a d e (fails_then (blocks_spelling (first ∷ block_of.VorbisComment comments ∷ others)) p (fails_then (blocks_spelling (block_of.VorbisComment comments ∷ others)) q
      (fails_first (block_spelling (is_nil others) (block_of.VorbisComment comments)) (blocks_spelling others) here)))

  pub others_failed : {X : Type 0} (last : Bool) (a b c d w : Written) (r : Result X Why) → last ≡ is_nil others → Adds (unsigned 32 0x664C6143) a b → Adds (block_spelling false first) b c
      → Adds (block_spelling last (block_of.VorbisComment comments)) c d
      → IfErr r (λ e. (more : List Block) → length others ≡ length (others ++ more) → MayBeWritten others → Fails (d.bits ++ blocks_spelling (others ++ more)) d w e)
      → IfErr r (λ e. MayBeHead comments kept → Fails (a.bits ++ new_head comments kept) a w e)
  others_failed last a b c d w (Ok x) at p q s h = tt
  others_failed last a b c d w (Err e) at p q s h = λ may.
      let none : others ++ [] ≡ others = append-nil others in
      let f = subst (λ l. Fails (d.bits ++ blocks_spelling l) d w e) none (h [] (ap (λ (l : List Block). length l) (sym none)) (others_may comments first others kept is may)) in
      let there : Adds (block_spelling (is_nil others) (block_of.VorbisComment comments)) c d = subst (λ l. Adds (block_spelling l (block_of.VorbisComment comments)) c d) at s in
      whole_failed a w e (fails_then (blocks_spelling (first ∷ block_of.VorbisComment comments ∷ others)) p (fails_then (blocks_spelling (block_of.VorbisComment comments ∷ others)) q (fails_then (blocks_spelling others) there f)))

-- the marker and blocks are of whole bytes
pub head_whole : (list : List Block) → Whole (unsigned 32 0x664C6143 ++ blocks_spelling list)
head_whole list =
    let marker : Whole (unsigned 32 0x664C6143) = record { bytes = refl } in
    whole_append (unsigned 32 0x664C6143) (blocks_spelling list) marker (blocks_whole list)

-- it is of whole bytes
pub new_head_whole : (comments : Comments) (kept : List Block) → Whole (new_head comments kept)
new_head_whole comments [] = whole_nil
new_head_whole comments (b ∷ bs) = head_whole (b ∷ block_of.VorbisComment comments ∷ bs)
