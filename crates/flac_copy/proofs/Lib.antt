-- ---- streams that are opened
pub mod AgainLemmas
pub mod Taken
pub mod HeadLemmas
pub mod FrameLemmas
pub mod OpenedLemmas
pub mod SerialLemmas
pub mod Opening
-- ---- frames and their bytes
pub mod FramesKept
pub mod PartLemmas
pub mod InputLemmas
pub mod OutputLemmas
pub mod Copied
-- ---- streams that are written
pub mod OggPages
pub mod WrittenLemmas
