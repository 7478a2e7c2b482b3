-- What private contracts and proofs need, and no contract of an exported function.
pub mod Heads
pub mod Sampled
pub mod Blocks
pub mod Described
pub mod Unpacked
pub mod Passing
