-- ---- blocks as bytes, and their lengths
pub mod Spelled
pub mod Lengths
pub mod BlockContents
pub mod Alike
-- ---- the blocks of a file, and edits of them
pub mod Runs
pub mod HasRuns
pub mod Choices
pub mod Heads
pub mod EditedOrder
pub mod SameComments
pub mod TaggedFiles
pub mod RetaggedBlocks
pub mod Settled
-- ---- edits in place
pub mod BeforeComments
pub mod AfterComments
pub mod Collecting
pub mod Planned
pub mod Tied
pub mod WholeStreams
-- ---- what a crash may leave
pub mod Moments
pub mod Writes
pub mod ThreeWrites
pub mod PastContents
pub mod Crashes
-- ---- comments and cue sheets as text
pub mod LinesRead
pub mod LinesWritten
pub mod SheetsBack
