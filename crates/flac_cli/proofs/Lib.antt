-- Lines of text, and which file an error's line names.
pub mod ChainsRead
pub mod ChainSampled
pub mod Lined
pub mod Printed
pub mod NamedLines
-- Lines of JSON.
pub mod Objects
pub mod OneReading
pub mod Entries
pub mod ReportRead
pub mod Listing
-- Streams that are read, and what is reported of them.
pub mod BlocksFirst
pub mod OggEdits
pub mod Heading
pub mod Holding
pub mod Counting
pub mod Outcomes
pub mod Reported
pub mod Jobs
pub mod Told
pub mod Gone
pub mod Underway
pub mod Missing
pub mod Learned
pub mod Verifying
pub mod Containers
-- Raw samples.
pub mod Fronts
-- Parts of streams.
pub mod Excerpts
pub mod Opened
pub mod PartsFound
-- Encoding: lists of predictors, plans, and why an encoding is refused.
pub mod Back
pub mod Failed
pub mod Listed
pub mod Planning
pub mod Recoding
pub mod Refused
pub mod Salvages
pub mod Searched
pub mod Twice
-- WAV files: those that a stream keeps, writing them, and why one is refused.
pub mod HeldWaves
pub mod Kept
pub mod ReadKept
pub mod Shifted
pub mod TakenWaves
pub mod WaveDecoded
pub mod WaveReady
pub mod WaveRefused
pub mod Waved
pub mod Waving
-- WAV files that are read twice.
pub mod WaveRaws
pub mod Surveys
pub mod StreamSurveys
pub mod WaveTwices
pub mod Pieces
