-- Of the format: reading and writing. No lemma here names one of the search.
pub mod format
-- Of the search for the shortest form
pub mod search
