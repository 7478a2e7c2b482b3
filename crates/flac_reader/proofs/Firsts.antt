-- The first block of a kind among some.
use Rattle.std.proofs.Common.{◌≡◌, ℕ, ◌+◌, ◌<◌, List, length, get_or, drop, ap}
use Rattle.std.proofs.lemmas.List.{drop_more}
use Rattle.flac_meta.specs.declared.block.Block.{Block}
use Rattle.flac_reader.specs.Kept.{or_info, first_info, or_comments, first_comments, or_points, first_points}

pub info_more : (blocks : List Block) (i : ℕ) (d : Block) → i < length blocks → first_info (drop i blocks) ≡ or_info (get_or blocks i d) (first_info (drop (i + 1) blocks))
unfolding first_info
info_more blocks i d lt = ap first_info (drop_more blocks i d lt)

pub comments_more : (blocks : List Block) (i : ℕ) (d : Block) → i < length blocks → first_comments (drop i blocks) ≡ or_comments (get_or blocks i d) (first_comments (drop (i + 1) blocks))
unfolding first_comments
comments_more blocks i d lt = ap first_comments (drop_more blocks i d lt)

pub points_more : (blocks : List Block) (i : ℕ) (d : Block) → i < length blocks → first_points (drop i blocks) ≡ or_points (get_or blocks i d) (first_points (drop (i + 1) blocks))
unfolding first_points
points_more blocks i d lt = ap first_points (drop_more blocks i d lt)
