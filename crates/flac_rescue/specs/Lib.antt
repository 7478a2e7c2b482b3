pub mod Gaps
pub mod Head
pub mod Survey
pub mod Report
pub mod Channels
pub mod Salvaged
pub mod Points
pub mod Placed
