use Rattle.std.proofs.Common.{◌≡◌, true, inr, sym, subst}
use Rattle.std.specs.Prelude.{is_some}
use Rattle.flac_reader.specs.Moved.{IsMoved, read_resumed}
use Rattle.flac_reader.proofs.Moved.{moved_over, moved_found, moved_refused, moved_known, by_the_last}
use Rattle.flac_reader.proofs.sought.Reader+BitReader+R.seek_file.Goals as goal

pub returns-in-Ok-seek_from-clause-found : goal.returns-in-Ok-seek_from-clause-found
returns-in-Ok-seek_from-clause-found g c =
    let remaining = g.T.Read.remaining in
    let counted = c.new.ensures in
    let told = c.in-Ok-seek_from.ensures in
    record {
      moved = c.in-Ok.device;
      there = subst (IsMoved g.T.Seek c.args.device c.in-Ok.device) c.seek_offset-offset.ensures c.in-Ok.ensures.moved;
      over = moved_over remaining c.in-Ok.device c.new.result.device c.new.result.errors c.in-Ok-seek_from.reader counted.0 counted.1 told.source;
      sought = moved_found remaining c.in-Ok.device c.new.result.device c.new.result.errors c.new.result.room c.args.profile c.args.self.info c.args.sample c.in-Ok-seek_from.reader counted.0 counted.1 counted.2 told.found;
    }

pub returns-in-Err-seek_from-clause-refused : goal.returns-in-Err-seek_from-clause-refused
returns-in-Err-seek_from-clause-refused g c =
    let remaining = g.T.Read.remaining in
    let counted = c.new.ensures in
    let told = c.in-Err-seek_from.ensures in
    let read = c.in-Err-seek_from.refused.left in
    let left = c.after_reading-left.result in
    inr (record {
      moved = c.in-Ok.device;
      there = subst (IsMoved g.T.Seek c.args.device c.in-Ok.device) c.seek_offset-offset.ensures c.in-Ok.ensures.moved;
      refuses = by_the_last c.args.self.info c.args.sample (read_resumed c.args.profile c.args.self.info (remaining c.in-Ok.device)) (is_some (remaining c.in-Ok.device)) read.errors c.in-Err-seek_from.refused.fault (is_some left.last) c.after_reading-left.ensures.last
          (moved_refused remaining c.in-Ok.device c.new.result.device c.new.result.errors c.new.result.room read.errors c.args.profile c.args.self.info c.args.sample c.in-Err-seek_from.refused.fault counted.0 counted.1 counted.2 told.refused);
      known = λ memory is. subst (λ d. is_some (remaining d) ≡ true) (sym c.after_reading-left.ensures.device) (moved_known remaining c.in-Ok.device c.new.result.device read.device c.new.result.errors read.errors counted.0 counted.1 (told.known memory) is);
    })
