-- The blocks of a stream with edited comments.
use Rattle.std.proofs.Common.{◌≡◌, ◌∙◌, ℕ, suc, ◌+◌, List, [], ◌∷◌, ◌++◌, take, drop, refl, ap, arith}
use Rattle.flac_meta.specs.declared.comments.Comments.{Comments}
use Rattle.flac_meta.specs.declared.block.Block.{Block}
use Rattle.flac_meta.specs.declared.block.Block.TheVariants as block_of
use Rattle.flac_native.specs.Retag.{unless_comment, without_comments}
use Rattle.flac_edit.specs.Tagged.{comments_at, comments_among, with_comments}

-- after one more block
one_more : (n : ℕ) (b : Block) (bs : List Block) (x : Block) → take (1 + n) (b ∷ bs) ++ x ∷ drop (1 + n + 1) (b ∷ bs) ≡ b ∷ (take n bs ++ x ∷ drop (n + 1) bs)
one_more n b bs x =
    let far : 1 + n + 1 ≡ suc (n + 1) = omega arith in
    let near : 1 + n ≡ suc n = omega arith in
    rw (far, near) refl

-- their comments are the new ones
pub found_again : (new : Comments) (list : List Block) → comments_among (with_comments new list) ≡ new
found_again new [] = refl
found_again new (block_of.VorbisComment found ∷ bs) = refl
found_again new (b ∷ bs) = ap comments_among (one_more (comments_at bs) b bs (block_of.VorbisComment new)) ∙ found_again new bs

-- all others stay
pub others_stay : (new : Comments) (list : List Block) → without_comments (with_comments new list) ≡ without_comments list
others_stay new [] = refl
others_stay new (block_of.VorbisComment found ∷ bs) = refl
others_stay new (b ∷ bs) = ap without_comments (one_more (comments_at bs) b bs (block_of.VorbisComment new)) ∙ ap (λ l. unless_comment b ++ l) (others_stay new bs)
