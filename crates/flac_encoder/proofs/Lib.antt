-- ---- a native stream
pub mod Pushing
pub mod Searching
-- ---- an Ogg stream
pub mod PushedOgg
