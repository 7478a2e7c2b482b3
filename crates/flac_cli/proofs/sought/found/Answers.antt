use Rattle.flac_reader.specs.Moved.{FindsMoved}
use Rattle.flac_reader.proofs.Moved.{moved_over, moved_found}
use Rattle.flac_cli.proofs.PartsFound.{finds_some}
use Rattle.flac_cli.proofs.sought.found.Goals as goal

pub returns-in-Ok-seek_from-clause-found : goal.returns-in-Ok-seek_from-clause-found
returns-in-Ok-seek_from-clause-found g c =
    let remaining = g.T.Read.remaining in
    let counted = c.new.ensures in
    let told = c.in-Ok-seek_from.ensures in
    let finds : FindsMoved g.T.Seek g.T.Read c.args.device c.unwrap_or-offset.result c.args.profile c.args.reader.info c.args.sample c.in-Ok-seek_from.reader = record {
      moved = c.in-Ok.device;
      there = c.in-Ok.ensures.moved;
      over = moved_over remaining c.in-Ok.device c.new.result.device c.new.result.errors c.in-Ok-seek_from.reader counted.0 counted.1 told.source;
      sought = moved_found remaining c.in-Ok.device c.new.result.device c.new.result.errors c.new.result.room c.args.profile c.args.reader.info c.args.sample c.in-Ok-seek_from.reader counted.0 counted.1 counted.2 told.found;
    } in
    finds_some g.T.Seek g.T.Read c.args.device c.args.profile c.args.reader.info c.args.sample c.in-Ok-seek_from.reader c.at_frame.result c.unwrap_or-offset.result c.at_frame.ensures.same c.at_frame.ensures.some finds told.ahead
