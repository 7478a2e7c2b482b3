pub mod Texts
pub mod Json
pub mod Fields
pub mod Blocks
pub mod Lines
pub mod Determined
