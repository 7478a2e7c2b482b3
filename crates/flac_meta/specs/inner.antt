-- What private contracts and proofs need, and no contract of an exported function.
pub mod Asked
pub mod Fielded
pub mod Counted
pub mod Cues
pub mod Found
pub mod Sizes
