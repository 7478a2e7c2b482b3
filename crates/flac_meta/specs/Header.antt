-- The header of a metadata block (RFC 9639, section 8.1).
use Rattle.std.specs.Prelude.{ℕ, ◌%◌, Bool, false, not, ◌&&◌, ◌||◌, [], ◌∷◌, nat_eq, nat_lt}
use Rattle.flac_bits.specs.Layout.{Layout, done, judge, ◌>>=◌, bits}
use Rattle.flac_bits.specs.declared.why.Why.TheVariants.{NotStreamInfoFirst, ForbiddenType, RepeatedBlock, BlockLength}
use Rattle.flac_meta.specs.declared.block.Seen.{Seen}
use Rattle.flac_meta.specs.declared.block.BlockHeader.{BlockHeader}

-- no block came
abbrev pub nothing_seen : Seen
nothing_seen = record { stream_info = false; seek_table = false; comments = false }

-- STREAMINFO (0), a seek table (3) and a Vorbis comment (4) occur once at most: a kind of these that came
abbrev pub is_repeated : Seen → ℕ → Bool
is_repeated seen kind = (nat_eq kind 0 && seen.stream_info) || (nat_eq kind 3 && seen.seek_table) || (nat_eq kind 4 && seen.comments)

-- A length in bytes that no content of the kind has: STREAMINFO (0) has 34, an application block (2) at least its
-- identifier's 4, a seek table (3) points of 18.
abbrev pub is_wrong_length : ℕ → ℕ → Bool
is_wrong_length kind length = (nat_eq kind 0 && not (nat_eq length 34)) || (nat_eq kind 2 && nat_lt length 4) || (nat_eq kind 3 && not (nat_eq (length % 18) 0))

-- whether it is the last block, its kind, and the length of its content in bytes
unfoldable pub block_header : Seen → Layout BlockHeader
block_header seen = do
  last ← bits 1
  kind ← bits 7
  length ← bits 24
  _ ← judge (
      record { broken = not seen.stream_info && not (nat_eq kind 0); why = NotStreamInfoFirst } ∷
      record { broken = nat_eq kind 127; why = ForbiddenType } ∷
      record { broken = is_repeated seen kind; why = RepeatedBlock } ∷
      record { broken = is_wrong_length kind length; why = BlockLength } ∷ [])
  done (record { last = nat_eq last 1; kind = kind; length = length })
