-- ---- numbers, digests and texts, read again
pub mod Digits
pub mod Decimals
pub mod Digests
pub mod Escapes
pub mod Quoted
-- ---- lines, read again
pub mod Tails
pub mod Pasts
pub mod Again
pub mod Ends
-- ---- reports that were cut off
pub mod Parts
pub mod Cuts
