pub mod Png
pub mod Jpeg
pub mod Images
