-- What private contracts and proofs need, and no contract of an exported function.
pub mod Packets
pub mod Items
pub mod Heads
pub mod Reading
