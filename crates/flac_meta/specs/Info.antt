-- STREAMINFO: how it is read (RFC 9639, section 8.2).
use Rattle.std.specs.Prelude.{ℕ, ◌+◌, [], ◌∷◌}
use Rattle.flac_bits.specs.Layout.{Layout, done, judge, ◌>>=◌, bits}
use Rattle.flac_bits.specs.Lists.{list_of}
use Rattle.flac_bits.specs.declared.why.Why.TheVariants.{BadStreamInfo}
use Rattle.flac_info.specs.Info.{Info, is_bad}

-- smallest and largest block size, smallest and largest frame size
unfoldable pub info_sizes : Layout (ℕ × ℕ × ℕ × ℕ)
info_sizes = do
  least_block ← bits 16
  greatest_block ← bits 16
  least_frame ← bits 24
  greatest_frame ← bits 24
  done (least_block, greatest_block, least_frame, greatest_frame)

-- rate, channels, bits per sample, samples of each channel; channels and bits per sample are stored less one
unfoldable pub info_format : Layout (ℕ × ℕ × ℕ × ℕ)
info_format = do
  rate ← bits 20
  channels ← bits 3
  depth ← bits 5
  total ← bits 36
  done (rate, channels + 1, depth + 1, total)

-- the fields in their order
unfoldable pub stream_info : Layout Info
stream_info = do
  sizes ← info_sizes
  format ← info_format
  digest ← list_of 16 (bits 8)
  let info : Info = record { least_block = sizes.0; greatest_block = sizes.1; least_frame = sizes.2; greatest_frame = sizes.3; rate = format.0; channels = format.1; depth = format.2; total = format.3; digest = digest }
  _ ← judge (record { broken = is_bad info; why = BadStreamInfo } ∷ [])
  done info
