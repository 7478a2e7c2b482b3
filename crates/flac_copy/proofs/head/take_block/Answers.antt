use Rattle.flac_native.specs.Track.{stand_of}
use Rattle.std.proofs.Common.{Ok}
use Rattle.flac_copy.proofs.PartLemmas.{block_text}
use Rattle.flac_copy.proofs.head.take_block.Goals as goal

pub returns-clause-taken : goal.returns-clause-taken
returns-clause-taken g c = record {
  part = record { last = c.in_ok-_last._last; block = c.in_ok-_last.block };
  read = c.in_ok-_last.ensures.next;
  added = c.in_ok-push.ensures.items;
  text = block_text (stand_of c.args.track.now) c.args.reader.now _ (Ok (c.in_ok-_last._last, c.in_ok-_last.block)) c.in_ok-_last.ensures.reading;
}
