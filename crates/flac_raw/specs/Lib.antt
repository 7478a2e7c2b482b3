pub mod Raw
pub mod Reading
pub mod Blocks
pub mod Faults
pub mod Planned
pub mod Encoded
pub mod Twice
pub mod inner
