-- ---- one page: its checksum, its layout, and what reading it gives
pub mod PageSum
pub mod PageTie
pub mod PageReads
pub mod PageMeaning
-- ---- pages of whose bits no check is computed but their own checksum
pub mod Anew
pub mod Unchecked
-- ---- pages one after another, up to the last one or to a refused one
pub mod Turns
pub mod PageRuns
-- ---- the steps of a reader of packets, and the page that it is on
pub mod Stepping
pub mod Exits
pub mod Paged
-- ---- packets in pages
pub mod PacketMeaning
pub mod PacketList
pub mod PacketEnds
-- ---- one item in one packet
pub mod ItemMeaning
pub mod Judging
pub mod ItemReading
-- ---- packets that are written in pages
pub mod Cut
pub mod PageStands
pub mod PlacedPages
pub mod PlacedWritten
pub mod PlacedMore
