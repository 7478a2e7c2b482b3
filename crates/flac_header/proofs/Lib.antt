-- ---- what a header means, and how it is spelled
pub mod Fields
pub mod HeaderTie
pub mod Lengths
pub mod Named
-- ---- how it is read
pub mod Parted
-- ---- how it is written
pub mod Checked
pub mod Writes
