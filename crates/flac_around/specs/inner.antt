pub mod Linked
pub mod Pulling
pub mod Pages
pub mod Standing
pub mod Walking
