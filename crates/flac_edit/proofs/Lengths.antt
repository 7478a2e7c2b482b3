-- How long comment blocks are.
use Rattle.std.proofs.Common.{◌≡◌, ◌+◌, ◌*◌, Bool, [], ◌++◌, length, ◌∙◌, arith, length-append}
use Rattle.flac_meta.specs.Spelling.{comments_spelling, content_spelling, block_spelling, header_spelling, comments_length}
use Rattle.flac_meta.specs.declared.comments.Comments.{Comments}
use Rattle.flac_meta.specs.declared.block.Block.TheVariants as block_of
use Rattle.flac_native.proofs.BlockLengths.{comments_long}
use Rattle.flac_edit.proofs.Spelled.{length-header}

pub length-comment_block : (last : Bool) (c : Comments) → length (block_spelling last (block_of.VorbisComment c)) ≡ 8 * (4 + comments_length c)
unfolding block_spelling content_spelling
length-comment_block last c =
    let content = comments_spelling c in
    length-append (header_spelling last 4 (comments_length c)) (content ++ []) ∙ omega (arith, length-header last 4 (comments_length c), length-append content [], comments_long c)
