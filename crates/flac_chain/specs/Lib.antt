pub mod Calls
pub mod Chained
pub mod Chaining
pub mod Steady
pub mod inner
