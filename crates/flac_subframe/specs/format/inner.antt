-- Reading and writing: codes of the format, types of subframes, bits of codings
pub mod Codes
pub mod Reading
pub mod Writing
pub mod Family
pub mod Cost
-- What linear predictors leave, by lanes
pub mod Products
-- Restoring: sums and differences
pub mod Sums
pub mod Summing
pub mod Packing
