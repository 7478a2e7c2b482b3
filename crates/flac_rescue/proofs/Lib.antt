-- ---- streams in memory
pub mod Lists
pub mod Within
pub mod Heads
-- ---- what is missing, as text
pub mod Adding
pub mod Told
-- ---- what is kept
pub mod Extending
pub mod Salvaging
pub mod Pointing
