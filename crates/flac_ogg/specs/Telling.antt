-- In which states a track reads packets.
use Rattle.std.specs.Prelude.{◌≡◌, ◌≢◌, true, false, is_some, ◌⊎◌}
use Rattle.flac_native.specs.Stream.{Stand}
use Rattle.flac_native.specs.declared.track.Phase.TheVariants.{Opening, Blocks}

-- The marker is in the mapping, and the first block is STREAMINFO.
pub record IsUnderWay (s : Stand) : Type 0 where
  pub begun : s.phase ≢ Opening
  pub told : (is_some s.info ≡ true) ⊎ ((s.phase ≡ Blocks) × (s.seen.stream_info ≡ false))
