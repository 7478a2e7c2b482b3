-- The forms of choices, and the laws of the family that is searched
pub mod Choices
pub mod FamilyLaws
-- Working arrays
pub mod Capacity
-- What private contracts and proofs need, and no contract of an exported function
pub mod inner
