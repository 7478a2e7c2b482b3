-- The metadata blocks of a copy.
use Rattle.std.specs.Prelude.{Bool, true, false, List, [], ◌∷◌, ◌++◌}
use Rattle.std.specs.List.{filter}
use Rattle.flac_meta.specs.declared.block.Block.{Block}
use Rattle.flac_meta.specs.declared.block.Block.TheVariants as blocks

abbrev pub is_comment : Block → Bool
is_comment (blocks.VorbisComment found) = true
is_comment other = false

-- none of STREAMINFO, seek table and comments
abbrev pub is_other : Block → Bool
is_other (blocks.StreamInfo info) = false
is_other (blocks.SeekTable table) = false
is_other (blocks.VorbisComment found) = false
is_other other = true

-- comments without a vendor and without a comment
abbrev pub no_comments : Block
no_comments = blocks.VorbisComment (record { vendor = []; list = [] })

-- the comments, which an Ogg stream has to have (RFC 9639, section 10.1)
abbrev pub or_none : List Block → List Block
or_none [] = no_comments ∷ []
or_none (b ∷ bs) = b ∷ bs

-- The blocks after STREAMINFO that an Ogg stream has of these: comments first, and then the others in their order. The
-- offsets of a seek table have no meaning in Ogg.
abbrev pub ogg_blocks : List Block → List Block
ogg_blocks list = or_none (filter is_comment list) ++ filter is_other list
