use Rattle.std.proofs.Common.{◌≡◌, length}
use Rattle.flac_bits.proofs.Handing.{Went}
use Rattle.flac_copy.specs.Packets.{TakesBytes}
use Rattle.flac_copy.proofs.packets.take_bytes.Given as goal

abbrev pub invariant-taking : goal.invariant-taking
invariant-taking g l = record {
  whole : l.bits.cursor.mark.unread ≡ 0;
  room : length l.piece ≡ 4096;
  went : Went l.fn.bits l.bits;
  taken : TakesBytes l.fn.bits l.bits l.fn.bytes.items l.bytes.items;
}

abbrev pub decreases-taking : goal.decreases-taking
decreases-taking g l = l.bits.most
