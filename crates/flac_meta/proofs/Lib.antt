-- What each file is about stands in its first line.

-- ---- reading: calls, loops and reasons
pub mod Exits
pub mod Turns
pub mod Skips
pub mod Zeros
pub mod Reasons
pub mod Short
-- ---- comments, STREAMINFO and kinds of blocks
pub mod Named
pub mod Infos
pub mod Repeated
-- ---- writing: parts, one after another
pub mod Steps
pub mod Lengths
-- ---- that blocks are read as they are spelled
pub mod Tied
pub mod Pictures
pub mod Sheets
pub mod Contents
pub mod Blocks
pub mod Listed
