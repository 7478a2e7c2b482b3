-- What a subframe is, how it is read and written, and which samples it has
pub mod format
-- The forms among which the search chooses the shortest
pub mod search
