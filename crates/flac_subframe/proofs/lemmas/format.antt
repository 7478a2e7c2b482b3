-- Numbers: how great they are, what places of 32 and 64 bits hold of them
pub mod Bounds
pub mod Sizes
pub mod Moved
pub mod Digits
pub mod Powers
-- What fixed predictors say and leave
pub mod FixedSums
pub mod Predicting
pub mod Differences
-- What predictors leave, in 32 bits and by lanes
pub mod Folding
pub mod Narrow
pub mod Lanes
pub mod Fours
-- Restoring: samples in the places of the residual
pub mod Restoring
pub mod Nearest
pub mod RunningSums
pub mod Weighing
pub mod Summing
pub mod Packing
pub mod PackedSums
-- One list of samples is restored
pub mod Unique
pub mod Whole
-- Reading: partitions, the samples after them, wasted bits, rules that are judged between calls
pub mod Steps
pub mod Judged
pub mod Parts
pub mod Predicted
pub mod Samples
pub mod Scaling
-- The layout spells what the definitions say
pub mod FieldTies
pub mod RiceTies
pub mod SubframeTie
pub mod HeaderTie
-- Writing: codings as bytes, methods, what was chosen
pub mod Bytes
pub mod Methods
pub mod Made
pub mod WriteSteps
pub mod Least
