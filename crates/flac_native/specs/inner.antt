-- What private contracts and proofs need, and no contract of an exported function.
pub mod Writing
pub mod Retag
pub mod InOrder
pub mod Steps
pub mod Borrowed
pub mod Located
