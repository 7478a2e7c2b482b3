pub mod Pushing
pub mod PushingOgg
pub mod inner
