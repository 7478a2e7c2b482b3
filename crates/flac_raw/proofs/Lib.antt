-- inter-channel samples of raw bytes, read one piece after another
pub mod Rows
-- numbers of 1 to 4 bytes
pub mod TwosComplement
-- bytes in two or three parts
pub mod Pieces
-- blocks of them
pub mod Taken
-- why bytes are no samples
pub mod Refused
-- a pass over them, block by block
pub mod Surveying
-- what it finds
pub mod Judged
-- blocks that are pushed
pub mod Stepping
-- what a plan holds, and the draft that is begun by it
pub mod Planning
-- the first reason why raw samples are not encoded
pub mod Refusing
-- a draft that is begun, and errors
pub mod Beginning
