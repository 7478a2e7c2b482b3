pub mod Samples
pub mod Format
pub mod Compared
pub mod Streams
pub mod inner
