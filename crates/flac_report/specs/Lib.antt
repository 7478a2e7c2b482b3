pub mod Objects
pub mod Entries
pub mod Lines
pub mod inner
