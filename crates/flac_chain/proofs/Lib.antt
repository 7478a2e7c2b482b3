-- One stream of a chain.
pub mod Links
-- All of them.
pub mod Going
-- One reading.
pub mod ReadOnce
