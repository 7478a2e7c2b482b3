-- ---- an Ogg stream is read as what it is, and in one way
pub mod MeaningPackets
pub mod MeaningContents
pub mod MeaningSteps
pub mod MeaningStreams
pub mod MeaningReadings
pub mod PageReasons
pub mod MeaningErrors
pub mod LaxProfile
pub mod Outside
-- ---- the calls that read packets
pub mod Packeted
pub mod UnderWay
pub mod Stepped
pub mod Arriving
pub mod PagesRead
pub mod Breaking
pub mod FirstByte
-- ---- the packets that are encoded, and their items
pub mod NativeItems
pub mod NativeBlocks
pub mod NativeFrames
pub mod Packing
pub mod Whole
pub mod RoundTrips
-- ---- the calls that write packets
pub mod Listing
pub mod BitsAsBytes
pub mod OpenPages
pub mod Headed
pub mod SentPackets
pub mod SentOgg
