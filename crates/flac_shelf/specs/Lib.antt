pub mod Held
pub mod Listed
pub mod Past
pub mod Records
pub mod Shown
