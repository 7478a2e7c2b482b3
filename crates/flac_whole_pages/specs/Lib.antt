pub mod Standing
pub mod Found
pub mod Parts
pub mod Left
pub mod inner
