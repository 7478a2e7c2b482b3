-- For proofs of calls that read raw samples block by block.
use Rattle.std.specs.Prelude.{◌≡◌, ◌*◌, ℕ, ℤ, Bool, List, ◌++◌, length}
use Rattle.flac_frame.specs.Audio.{each_small}
use Rattle.flac_raw.specs.Raw.{channels_at}
use Rattle.flac_raw.specs.Reading.{AreParts}

-- Of these bytes the first `rows` inter-channel samples of `count` channels were read, and the others are still to come.
-- Whether all of them have at most `bits` bits is `small`.
pub record ReadTo (bits count width : ℕ) (all coming : List ℕ) (rows : ℕ) (small : Bool) : Type 0 where
  pub done : List ℕ
  pub whole : length done ≡ rows * (count * width)
  pub are : AreParts count width done rows (channels_at done rows (count * width) width count)
  pub fit : small ≡ each_small bits (channels_at done rows (count * width) width count)
  pub rest : all ≡ done ++ coming

-- the next `rows` inter-channel samples were taken, after which these bytes are still to come
pub record TakesBytes (count width rows : ℕ) (old new : List ℕ) (channels : List (List ℤ)) : Type 0 where
  pub piece : List ℕ
  pub is : old ≡ piece ++ new
  pub long : length piece ≡ rows * (count * width)
  pub are : AreParts count width piece rows channels
