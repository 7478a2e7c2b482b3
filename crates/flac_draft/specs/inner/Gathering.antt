-- What is gathered of frames.
use Rattle.std.specs.Prelude.{ℕ, ◌<◌, ◌^◌, List, Option, Some, None, ◌||◌, min, cond, nat_eq, nat_lt, nat_le}
use Rattle.flac_info.specs.Info.{Info}
use Rattle.flac_meta.specs.Valid.{AllAre}
use Rattle.flac_meta.specs.declared.seek_table.SeekPoint.{SeekPoint}
use Rattle.flac_frame.specs.declared.setup.SetupFault.{SetupFault}
use Rattle.flac_frame.specs.declared.setup.SetupFault.TheVariants.{TooLong, TooManyPoints}
use Rattle.flac_native.specs.Given.{blocks_in, points_before}
use Rattle.flac_encoder.specs.Pushing.{Shape}

-- STREAMINFO of a format with the smallest and the largest frame in bytes, the samples of each channel, and the digest
-- (RFC 9639, section 8.2)
abbrev pub info_with : Shape → (least greatest total : ℕ) → (digest : List ℕ) → Info
info_with s least greatest total digest = record {
  least_block = s.block_size;
  greatest_block = s.block_size;
  least_frame = least;
  greatest_frame = greatest;
  rate = s.rate;
  channels = s.channels;
  depth = s.bits;
  total = total;
  digest = digest;
}

-- the smallest size with one more frame; that of this frame if no sample was encoded before
abbrev pub least_after : (samples least bytes : ℕ) → ℕ
least_after samples least bytes = cond (nat_eq samples 0) bytes (min least bytes)

-- the points name frames that begin before a sample
abbrev pub AreBefore : (start : ℕ) → List SeekPoint → Type 0
AreBefore start points = AllAre (λ x. x.sample < start) points

-- why samples of this number cannot be divided into blocks of a size that can be encoded, if so, as `cutting_fault` of
-- flac_native says it
unfoldable pub length_fault : (block_size total every : ℕ) → Option SetupFault
length_fault block_size total every =
    cond (nat_le (2 ^ 36) total || nat_lt (2 ^ 31) (blocks_in block_size total)) (Some TooLong)
    (cond (nat_lt 932067 (points_before block_size total every (blocks_in block_size total))) (Some TooManyPoints) None)
