-- What private contracts and proofs need, and no contract of an exported function.
pub mod Taking
pub mod Stepping
pub mod Seeking
