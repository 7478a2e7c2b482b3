pub mod Standing
pub mod Found
pub mod Kept
pub mod Chain
pub mod inner
