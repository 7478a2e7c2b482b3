-- The arrays for the choices of two channels.
use Rattle.std.specs.Prelude.{ℕ, ◌≤◌, ◌^◌, vec_len}
use Rattle.flac_frame.specs.declared.pair_choices.PairChoices.{PairChoices}

-- each array is long enough for partition orders up to `most`
pub record HaveCodings (most : ℕ) (c : PairChoices) : Type 0 where
  pub left : 2 ^ most ≤ vec_len c.left.codings
  pub right : 2 ^ most ≤ vec_len c.right.codings
  pub side : 2 ^ most ≤ vec_len c.side.codings
  pub middle : 2 ^ most ≤ vec_len c.middle.codings
