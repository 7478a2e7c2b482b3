-- What private contracts and proofs need, and no contract of an exported function.
pub mod Reads
pub mod Changed
pub mod Flips
pub mod Planned
pub mod Chosen
pub mod Tagging
