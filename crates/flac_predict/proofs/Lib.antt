pub mod Lists
pub mod Longer
pub mod Streams
