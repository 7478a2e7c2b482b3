-- ---- one page
pub mod Sums
pub mod Stated
-- ---- all whole pages
pub mod Lists
pub mod Nones
pub mod Finding
pub mod Founds
-- ---- what is left of a stream
pub mod Parts
pub mod Natives
