pub mod Rewriting
pub mod Faults
pub mod Table
pub mod Draft
pub mod OggDraft
pub mod inner
