-- What each file is about stands in its first line.

-- ---- reading: what a decoder returns, and what a sink takes
pub mod Giving
pub mod Passing
pub mod Arriving
pub mod Advancing
pub mod Handed
pub mod Locating
pub mod Received
pub mod SameStart
-- ---- the grammar: one reading, and what streams are
pub mod Deciding
pub mod AnyMark
pub mod Onwards
pub mod Whole
pub mod BlockOrder
pub mod Ordered
pub mod LaxProfile
pub mod Outside
-- ---- samples as bytes, and their digest
pub mod Messages
pub mod Threes
pub mod SampleRows
pub mod Sampled
pub mod Digests
-- ---- a plan
pub mod Predictors
pub mod Planned
-- ---- encoding: what is written and sent
pub mod BlocksWritten
pub mod Heads
pub mod WholeBytes
pub mod BlockLengths
pub mod EachFrame
pub mod Gathered
pub mod WrittenFrames
pub mod Spelled
pub mod EncodeFaults
pub mod Sendings
pub mod FixedBuffers
pub mod Lending
-- ---- encoding: that it is a stream, and is read back
pub mod Encoded
pub mod Streams
pub mod ReadBack
-- ---- seek tables, and reading from a frame on
pub mod Tables
pub mod Sought
pub mod FrameCuts
pub mod Resumed
-- ---- frames of bytes in memory
pub mod FramesRead
-- ---- retagging: the input
pub mod Metadata
pub mod Blocks
pub mod OneHead
pub mod Broken
pub mod Decided
-- ---- retagging: the output
pub mod NewHead
pub mod Renewing
pub mod Unread
pub mod Copies
pub mod Retagged
pub mod RetagFaults
