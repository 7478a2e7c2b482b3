-- STREAMINFO: properties of the whole stream (RFC 9639, section 8.2).
use Rattle.std.specs.Prelude.{ℕ, ◌<◌, ◌≤◌, ◌^◌, Bool, ◌||◌, List, nat_eq, nat_lt, replicate}

-- Smallest and largest block size in samples; smallest and largest frame size in bytes, 0 if unknown; sample rate in
-- Hz; channels; bits per sample; samples of each channel, 0 if unknown; the MD5 of all samples, zeros if unknown.
pub record Info : Type 0 where
  pub least_block : ℕ
  pub greatest_block : ℕ
  pub least_frame : ℕ
  pub greatest_frame : ℕ
  pub rate : ℕ
  pub channels : ℕ
  pub depth : ℕ
  pub total : ℕ
  pub digest : List ℕ

-- the rules, and that each number fits its field
pub record KeepsRules (i : Info) : Type 0 where
  pub least_block : 16 ≤ i.least_block
  pub blocks : i.least_block ≤ i.greatest_block
  pub greatest_block : i.greatest_block < 2 ^ 16
  pub least_frame : i.least_frame < 2 ^ 24
  pub greatest_frame : i.greatest_frame < 2 ^ 24
  pub least_rate : 1 ≤ i.rate
  pub rate : i.rate < 2 ^ 20
  pub least_channels : 1 ≤ i.channels
  pub channels : i.channels ≤ 8
  pub least_depth : 4 ≤ i.depth
  pub depth : i.depth ≤ 32
  pub total : i.total < 2 ^ 36

-- STREAMINFO of a format, in blocks of one size: the sizes of the frames, the number of samples and their MD5 are
-- unknown
abbrev pub info_of_format : (block_size rate channels depth : ℕ) → Info
info_of_format block_size rate channels depth = record {
  least_block = block_size;
  greatest_block = block_size;
  least_frame = 0;
  greatest_frame = 0;
  rate = rate;
  channels = channels;
  depth = depth;
  total = 0;
  digest = replicate 16 0;
}

-- the same STREAMINFO, but the number of samples and their MD5 are unknown
abbrev pub without_totals : Info → Info
without_totals i = record i { total = 0; digest = replicate 16 0 }

-- a value that is out of its range, though it fits its field
abbrev pub is_bad : Info → Bool
is_bad i = nat_lt i.least_block 16 || nat_lt i.greatest_block i.least_block || nat_eq i.rate 0 || nat_lt i.depth 4
