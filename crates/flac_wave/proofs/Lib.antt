-- ---- files, taken apart and put together
pub mod Files
pub mod Parts
pub mod Pieces
pub mod Walks
pub mod Formats
pub mod PlainFiles
-- ---- reading what comes before the samples
pub mod Fronts
pub mod Local
pub mod NextPieces
-- ---- samples
pub mod Shifts
