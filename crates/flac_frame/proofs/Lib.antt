-- ---- frames that are read: the header, the subframes, and the samples that they stand for
pub mod Starts
pub mod Following
pub mod Subframes
pub mod Depths
pub mod Joins
pub mod Bodies
pub mod Interleaved
-- ---- what a frame means, and how it is spelled
pub mod Gathered
pub mod FrameTie
pub mod LaxProfile
-- ---- what is encoded: samples, channel assignments, and predictors for each plane
pub mod Sounds
pub mod Subjects
pub mod Assigned
pub mod PlaneLists
-- ---- the frames of which the shortest is chosen
pub mod Family
pub mod PlainFamily
pub mod SampleCounts
pub mod Encodings
pub mod Pairs
pub mod PairLeast
-- ---- a frame that was chosen: its size, and how it is written
pub mod Capacities
pub mod Chosen
pub mod Copies
pub mod Short
pub mod Counted
pub mod Encoded
pub mod Frames
pub mod Wholes
pub mod Written
pub mod Sizes
