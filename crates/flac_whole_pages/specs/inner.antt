-- What private contracts and proofs need, and no contract of an exported function.
pub mod Adding
pub mod Insides
