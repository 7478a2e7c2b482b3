-- What private contracts and proofs need, and no contract of an exported function.
pub mod Frames
pub mod Stepping
pub mod Comparing
pub mod Opening
