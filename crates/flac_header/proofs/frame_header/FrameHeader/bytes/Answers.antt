use Rattle.flac_header.proofs.Lengths.{header_counted}
use Rattle.flac_header.proofs.frame_header.FrameHeader.bytes.Goals as goal

pub returns-clause-bytes : goal.returns-clause-bytes
returns-clause-bytes c =
    let h = c.self.inside in
    header_counted c.number_len-coded.result c.size_bytes.result c.rate_bytes.result c.self.view_is c.number_len-coded.ensures.long (c.size_bytes.ensures.long h.size) (c.rate_bytes.ensures.long h.rate)
