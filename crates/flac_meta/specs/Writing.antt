-- What writing comments does.
use Rattle.std.specs.Prelude.{Bool, Result}
use Rattle.flac_bits.specs.Written.{Written, Writes}
use Rattle.flac_bits.specs.declared.why.Why.{Why}
use Rattle.flac_meta.specs.Spelling.{block_spelling}
use Rattle.flac_meta.specs.declared.block.Block.TheVariants.{VorbisComment}
use Rattle.flac_meta.specs.declared.comments.Comments.{Comments}

-- their block is written, which is the last one before the frames or not (RFC 9639, sections 8.1 and 8.6)
abbrev pub WritesComments : {X : Type 0} → (last : Bool) → Comments → (old new : Written) → Result X Why → Type 0
WritesComments last c old new result = Writes (block_spelling last (VorbisComment c)) old new result
