use Rattle.std.proofs.Common.{replicate, ◌+◌}
use Rattle.flac_whole_pages.specs.Standing.{between}
use Rattle.flac_whole_pages.proofs.Sums.{chained}
use Rattle.flac_whole_pages.proofs.page_at.checksum.Goals as goal

pub returns : goal.returns
returns c =
    let bytes = c.args.bytes.now in
    chained (between c.args.at (c.args.at + 22) bytes) (replicate 4 0) (between (c.args.at + 26) c.args.end bytes)
    c.crc32_after-check.result c.crc32_after-check-2.result c.crc32_after.result
    c.crc32_after-check.ensures c.crc32_after-check-2.ensures c.crc32_after.ensures
