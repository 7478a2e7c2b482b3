-- The best so far, and the least cost
pub mod Chosen
pub mod Least
-- Tables: their entries, partitions of each order
pub mod Entry
pub mod Halves
-- What is said of the residual that is searched, and of the samples
pub mod Views
pub mod Leaves
