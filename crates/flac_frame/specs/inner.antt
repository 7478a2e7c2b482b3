-- What private contracts and proofs need, and no contract of an exported function.
pub mod Reading
pub mod Encoding
pub mod Pair
pub mod Chosen
pub mod Subject
