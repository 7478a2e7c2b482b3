use Rattle.std.proofs.Common.{rules, Option, Result, Ok, refl, ap}
use Rattle.flac_native.specs.Giving.{stage_of, held}
use Rattle.flac_native.specs.Item.{Item}
use Rattle.flac_native.specs.declared.decoder.Decoder.{Decoder}
use Rattle.flac_native.specs.declared.fault.Fault.{Fault}
use Rattle.flac_reader.specs.Coming.{only_frame}
use Rattle.flac_reader.proofs.Heads.{room}
use Rattle.flac_reader.proofs.Gives.{only_first}
use Rattle.flac_reader.proofs.reader.Reader.step.Goals as goal

abbrev shown : Option Item → Result (Option Item) Fault
shown o = Ok o

pub returns : goal.returns
returns g c =
    let new = c.forward.new.decoder in
    record {
      frame = λ calm roomy frames end comes. only_first g.C.Container frames end (held new.course new.track) (stage_of new) (c.in-Ok.ensures.frame calm (room c.in-Ok.field-0) frames end comes);
      counts = c.in-Ok.ensures.counts;
      given = λ e. let same = (c.in-Ok.ensures.given e).1 in (same, ap (λ (d : Decoder _ g.C.Container). shown (only_frame (held (stage_of d).course (stage_of d).track))) same);
      memory = λ k. tt;
      past = c.in-Ok.ensures.past;
      ahead = c.in-Ok.ensures.ahead;
      samples = (refl, search (rules, c.frame_len.ensures, c.saturating_add-self.ensures));
      blocks = refl;
      info = refl;
      start = refl;
    }

pub returns-in-Err : goal.returns-in-Err
returns-in-Err g c = search rules
