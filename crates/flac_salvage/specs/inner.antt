-- What private contracts and proofs need, and no contract of an exported function.
pub mod Syncs
pub mod Values
pub mod Finding
