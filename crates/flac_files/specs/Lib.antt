pub mod JobFiles
pub mod Names
pub mod Replacing
pub mod Unknown
