-- Lemmas, by what they are about.

-- ---- a decoder and a reader of it: one call, the metadata, one frame
pub mod Moving
pub mod Firsts
pub mod Heads
pub mod Gives
-- ---- an opening: what it returns, and why a stream is not opened
pub mod Openings
pub mod Refusals
-- ---- the samples of frames, one by one
pub mod Places
pub mod Sampling
-- ---- a search for the frame that holds a sample, in memory and in a device
pub mod Searches
pub mod Moved
-- ---- where frames begin in a stream, and in one that was encoded
pub mod Starts
pub mod Cuts
pub mod EncodedCuts
pub mod EncodedFinds
