use Rattle.flac_native.specs.Track.{stand_of}
use Rattle.flac_copy.specs.Parts.{Marked, piece}
use Rattle.flac_copy.proofs.PartLemmas.{all_of_packet}
use Rattle.flac_copy.proofs.parts.add_header.Goals as goal

pub returns-else-not-is_over : goal.returns-else-not-is_over
returns-else-not-is_over c =
    let part : Marked = record { last = c.in-Ok._last; block = c.in-Ok.block } in
    record {
      part = part;
      read = c.in-Ok.ensures.next;
      added = c.in_ok-push-in-Ok.ensures.items;
      is = λ phase.
          all_of_packet (stand_of c.args.track.now) c.args.packet.now c.read_bytes-reader.result c.read_header.new.reader (piece part) c.read_bytes-reader.ensures phase (c.in-Ok.ensures.spelled phase)
          (c.is_over.ensures c.if-not-is_over.false);
    }
