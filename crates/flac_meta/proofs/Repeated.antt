-- Blocks of which there is at most one: by their kinds.
use Rattle.std.proofs.Common.{◌≡◌, ℕ, Bool, true, false, ◌&&◌, ◌||◌, nat_eq, nat_lt, refl, sym, arith}
use Rattle.std.proofs.lemmas.Bool.Decides.{nat_tests}
use Rattle.flac_meta.specs.Header.{is_repeated}
use Rattle.flac_meta.specs.Spelling.{kind_of}
use Rattle.flac_meta.specs.Listed.{is_forbidden, came}
use Rattle.flac_meta.specs.declared.block.Seen.{Seen}
use Rattle.flac_meta.specs.declared.block.Block.{Block}
use Rattle.flac_meta.specs.declared.block.Block.TheVariants as block_of

-- a reserved kind is none of these
reserved_not : (a b c : Bool) (kind : ℕ) → (nat_lt kind 7 || nat_lt 126 kind) ≡ false → ((nat_eq kind 0 && a) || (nat_eq kind 3 && b) || (nat_eq kind 4 && c)) ≡ false
reserved_not a b c kind h = grind (arith, nat_tests)

first_of : (a b c : Bool) → a ≡ ((true && a) || (false && b) || (false && c))
first_of true b c = refl
first_of false b c = refl

second_of : (a b c : Bool) → b ≡ ((false && a) || (true && b) || (false && c))
second_of a true c = refl
second_of a false c = refl

-- such a block came if its kind says so, unless that is forbidden
pub came_allowed : (seen : Seen) (b : Block) → is_forbidden b ≡ false → came seen b ≡ is_repeated seen (kind_of b)
came_allowed seen (block_of.StreamInfo info) h = first_of seen.stream_info seen.seek_table seen.comments
came_allowed seen (block_of.Padding n) h = refl
came_allowed seen (block_of.Application id bytes) h = refl
came_allowed seen (block_of.SeekTable points) h = second_of seen.stream_info seen.seek_table seen.comments
came_allowed seen (block_of.VorbisComment found) h = refl
came_allowed seen (block_of.CueSheet sheet) h = refl
came_allowed seen (block_of.Picture found) h = refl
came_allowed seen (block_of.Other kind bytes) h = sym (reserved_not seen.stream_info seen.seek_table seen.comments kind h)

-- a forbidden kind is that of no such block
pub came_forbidden : (seen : Seen) (b : Block) → is_forbidden b ≡ true → came seen b ≡ false
came_forbidden seen (block_of.StreamInfo info) h = absurd cc
came_forbidden seen (block_of.Padding n) h = refl
came_forbidden seen (block_of.Application id bytes) h = refl
came_forbidden seen (block_of.SeekTable points) h = absurd cc
came_forbidden seen (block_of.VorbisComment found) h = absurd cc
came_forbidden seen (block_of.CueSheet sheet) h = refl
came_forbidden seen (block_of.Picture found) h = refl
came_forbidden seen (block_of.Other kind bytes) h = refl
