-- ---- texts and digits
pub mod Digits
pub mod Utf8
pub mod Zeros
pub mod Pushed
-- ---- one reading
pub mod Reading
pub mod Determined
pub mod Files
