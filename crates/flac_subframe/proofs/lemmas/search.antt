-- Lengths of what is spelled
pub mod Lengths
-- The least coding of a partition: parameters that are tried, and where they stop
pub mod CodingLeast
pub mod Pricing
pub mod Convex
pub mod Walks
pub mod Settled
pub mod Sixteen
pub mod Turns
-- The tables of a search: partitions of each order, and their entries
pub mod Splits
pub mod Cuts
pub mod Levels
pub mod Places
pub mod Entries
pub mod Counts
-- The least residual over methods and partition orders
pub mod Orders
pub mod Finer
pub mod Searched
-- Lower bounds, by which an order is passed over
pub mod Bounded
pub mod DigitBounds
pub mod Greater
pub mod LowerBounds
pub mod Close
-- Values by their folded numbers, and what they leave
pub mod Folds
pub mod Pieces
pub mod Residues
pub mod Reductions
-- The least body and the least subframe
pub mod Bodies
pub mod Best
pub mod Searching
pub mod WholeLeast
pub mod Ways
-- The family that is searched, and that its forms may be spelled
pub mod Family
pub mod Valid
pub mod Complete
