-- What private contracts and proofs need, and no contract of an exported function.
pub mod Progress
pub mod Columns
pub mod Surveyed
pub mod Pushed
