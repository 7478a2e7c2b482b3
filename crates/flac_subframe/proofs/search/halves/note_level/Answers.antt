use Rattle.flac_subframe.proofs.lemmas.search.Levels.{half_long, level_noted, level_apart}
use Rattle.flac_subframe.proofs.search.halves.note_level.Goals as goal

pub note-requires : goal.note-requires
note-requires c =
    let f = c.power-first.result in
    let long = half_long f c.args.table.now (rw c.power-first.ensures c.requires.table) in
    record {
      few = c.requires.few;
      places = rw (long, c.power-first.ensures) c.requires.sums;
      small = λ j h. c.requires.small j (rw (long, c.power-first.ensures) at h);
    }

pub returns : goal.returns
returns c =
    let f = c.power-first.result in
    let room = rw (← c.power-first.ensures) at c.requires.table in
    record {
      level = rw (← c.power-first.ensures) (level_noted f c.args.parameter c.args.sums.now c.args.table.now c.note.new.best room c.note.auto.best c.note.ensures);
      others = rw (← c.power-first.ensures) (level_apart f c.args.table.now c.note.new.best room c.note.auto.best);
    }
