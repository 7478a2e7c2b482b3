-- ---- one frame
pub mod Syncs
pub mod Locals
pub mod Finals
-- ---- all whole frames
pub mod NoneBetween
pub mod Finding
pub mod Founds
-- ---- the best chain
pub mod Chains
