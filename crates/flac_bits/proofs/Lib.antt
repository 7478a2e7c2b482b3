-- ---- bits and numbers
pub mod Words
pub mod Digits
pub mod Numbers
pub mod Signs
pub mod Codes
pub mod Rices
pub mod LittleNumbers
-- ---- layouts: what a reading means, and how its values are spelled
pub mod Readings
pub mod Meaning
pub mod Ties
pub mod CodedTie
pub mod CodedLength
pub mod Items
pub mod ItemSpellings
pub mod Handing
-- ---- fences, and reading within a limit of bytes
pub mod Fences
pub mod Fencing
pub mod Coming
pub mod Bounds
pub mod Within
-- ---- what several calls read, count and pull
pub mod Telling
pub mod Counting
pub mod Needing
pub mod Loops
pub mod Lists
pub mod Listed
pub mod Turns
pub mod CodedTurns
-- ---- what a reader holds
pub mod Holding
pub mod Marks
pub mod Partly
pub mod Fields
pub mod Back
pub mod Copied
pub mod Unchecked
pub mod Pulled
pub mod Standing
pub mod CountedBytes
pub mod Beside
-- ---- many values at once
pub mod Aheads
pub mod Values
pub mod Stretches
pub mod Runs
-- ---- what a writer writes
pub mod Writing
pub mod Appending
pub mod Putting
pub mod Sent
pub mod Standings
-- ---- checks: remainders bit by bit, by tables, and by division
pub mod Check
pub mod Slicing
pub mod Indices
pub mod Entries
pub mod Entries32
pub mod Eights
pub mod Dividing
