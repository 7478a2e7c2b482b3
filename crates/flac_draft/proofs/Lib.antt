-- the seek points of a draft
pub mod Points
-- how long the head is, and what is left after it is written over
pub mod Heads
-- a plan for what is pushed
pub mod Planned
-- the frames of blocks as those of all samples
pub mod Moved
-- a draft, from the first block to the last
pub mod Drafting
-- what a search found, as the lists of a plan
pub mod FoundLists
-- what is gathered of the blocks that were pushed
pub mod Gathered
-- a draft in Ogg, from the header packets to the last
pub mod OggDrafting
