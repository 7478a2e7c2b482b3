-- What private contracts and proofs need, and no contract of an exported function.
pub mod Reading
pub mod Written
pub mod Store
pub mod Forms
pub mod Items
pub mod Handing
pub mod Stretches
pub mod Ahead
pub mod Runs
pub mod Pulling
pub mod Unchecked
pub mod Divided
pub mod Within
