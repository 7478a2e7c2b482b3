-- Lemmas, by what they are about.
pub mod Counts
pub mod Channels
pub mod Samples
pub mod Onwards
pub mod Counting
pub mod SideBySide
pub mod Ordered
pub mod Opened
