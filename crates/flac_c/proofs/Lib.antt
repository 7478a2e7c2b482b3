-- Lemmas, by what they are about.

-- ---- what sinks keep: STREAMINFO and comments, and samples
pub mod Kept
pub mod Collecting
-- ---- a cursor: the metadata before it, the frame at it, and the stream that it is in
pub mod Heading
pub mod HeadBytes
pub mod StreamStarts
-- ---- metadata blocks that are listed
pub mod Listing
pub mod Places
-- ---- frames
pub mod HandedOver
pub mod InStreams
pub mod Passing
-- ---- an Ogg stream without its pages
pub mod NativeInOgg
-- ---- encoding: why samples are refused, and numbers of reasons
pub mod Encodings
pub mod Searched
pub mod Numbered
-- ---- how many bytes an encoded stream has at most
pub mod Verbatims
pub mod LongestFrames
pub mod LongestHeads
pub mod LongestStreams
pub mod LongestPages
pub mod Enough
-- ---- WAV files: where their samples are, their numbers, and the head of a plain one
pub mod WaveFiles
pub mod WaveNumbers
pub mod WaveHeads
