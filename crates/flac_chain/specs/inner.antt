pub mod Going
pub mod Linked
pub mod Rounds
