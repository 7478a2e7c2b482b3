pub mod Compared
mod Resumed
pub mod Paths
