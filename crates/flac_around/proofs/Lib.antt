-- Tags at the start and at the end.
pub mod Fronts
pub mod Edges
pub mod Backs
pub mod Around
pub mod Lefts
-- Files of a list.
pub mod Shelves
-- Calls of a source.
pub mod Pulls
-- Pages at the start of an input, and their lacing values.
pub mod EmptyPages
pub mod LeftOut
pub mod PageChecks
pub mod Sourced
pub mod KeptValues
-- Streams, one after another.
pub mod ChainEnds
pub mod ChainWalks
pub mod ChainNames
pub mod ChainLaws
