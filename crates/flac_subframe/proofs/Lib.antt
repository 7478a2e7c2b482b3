-- The lemmas, in two rooms as the code. The proof of a function is in the folder of its module.
pub mod lemmas
