-- The samples: signed numbers, wasted bits, predictors
pub mod Numbers
pub mod Wasted
pub mod Prediction
-- The layout: residual, subframe
pub mod Residual
pub mod Subframe
-- What is written: forms, their spelling, what a form costs
pub mod Bodies
pub mod Cost
pub mod Spelling
pub mod Handed
-- The form that a choice names, and the smallest of a family
pub mod Chosen
pub mod Family
pub mod Least
-- Laws of reading and writing
pub mod Laws
-- What private contracts and proofs need, and no contract of an exported function
pub mod inner
