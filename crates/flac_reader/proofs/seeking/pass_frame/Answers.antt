use Rattle.std.proofs.Common.{◌≡◌, [], map, None, Ok, Err, refl, sym, subst}
use Rattle.flac_native.specs.Item.{frame}
use Rattle.flac_native.specs.Giving.{stage_of, held}
use Rattle.flac_reader.specs.Coming.{only_frame}
use Rattle.flac_reader.proofs.Moving.{moves_first, moves_counted, moves_memory, moves_past, took_refused}
use Rattle.flac_reader.proofs.Heads.{room, same_room, err_counts}
use Rattle.flac_reader.proofs.Searches.{frame_passes, none_passes}
use Rattle.flac_reader.proofs.seeking.pass_frame.Goals as goal

pub returns-in-Err-clause-counts : goal.returns-in-Err-clause-counts
returns-in-Err-clause-counts g c =
    let new = c.step.new.self in
    err_counts g.C.Container (stage_of c.args.decoder.now) (stage_of new) c.in-Err.fault
    (moves_counted g.C.Container (stage_of c.args.decoder.now) (stage_of new) (λ _. held new.course new.track) (Err c.in-Err.fault) c.in-Err.ensures)

pub returns-in-Err-clause-memory : goal.returns-in-Err-clause-memory
returns-in-Err-clause-memory g c =
    let new = c.step.new.self in
    moves_memory g.C.Container (stage_of c.args.decoder.now) (stage_of new) (λ _. held new.course new.track) c.in-Err.fault c.in-Err.ensures

pub returns-in-Frame-clause-past : goal.returns-in-Frame-clause-past
returns-in-Frame-clause-past g c =
    let new = c.step.new.self in
    moves_past g.C.Container (stage_of c.args.decoder.now) (stage_of new) (λ _. held new.course new.track) c.in-Ok.field-0 c.in-Ok.ensures

pub returns-in-Block-clause-past : goal.returns-in-Block-clause-past
returns-in-Block-clause-past g c =
    let new = c.step.new.self in
    moves_past g.C.Container (stage_of c.args.decoder.now) (stage_of new) (λ _. held new.course new.track) c.in-Ok.field-0 c.in-Ok.ensures

pub returns-in-End-clause-past : goal.returns-in-End-clause-past
returns-in-End-clause-past g c =
    let new = c.step.new.self in
    moves_past g.C.Container (stage_of c.args.decoder.now) (stage_of new) (λ _. held new.course new.track) c.in-Ok.field-0 c.in-Ok.ensures

pub returns-in-Err-clause-passes : goal.returns-in-Err-clause-passes
returns-in-Err-clause-passes g c = λ calm roomy frames end comes.
    let new = c.step.new.self in
    let t = took_refused g.C.Container [] frames end c.in-Err.fault (stage_of new)
    (moves_first g.C.Container (stage_of c.args.decoder.now) (stage_of new) (λ _. held new.course new.track) (Err c.in-Err.fault) c.in-Err.ensures calm (same_room c.in-Err.fault roomy) (map frame frames) end comes) in
    (t.1, t.2)

pub returns-in-Frame-clause-passes : goal.returns-in-Frame-clause-passes
returns-in-Frame-clause-passes g c = λ calm roomy frames end comes.
    let new = c.step.new.self in
    frame_passes g.C.Container c.args.info.now c.args.sample frames end _ (stage_of new) c.first_if_held.result (sym c.in-Frame.ensures) c.first_if_held.ensures
    (moves_first g.C.Container (stage_of c.args.decoder.now) (stage_of new) (λ _. held new.course new.track) (Ok c.in-Ok.field-0) c.in-Ok.ensures calm (room c.in-Ok.field-0) (map frame frames) end comes)

pub returns-in-Block-clause-passes : goal.returns-in-Block-clause-passes
returns-in-Block-clause-passes g c = λ calm roomy frames end comes.
    let new = c.step.new.self in
    none_passes g.C.Container c.args.info.now c.args.sample frames end (stage_of new) 0 (subst (λ h. only_frame h ≡ None) c.in-Block.ensures refl)
    (moves_first g.C.Container (stage_of c.args.decoder.now) (stage_of new) (λ _. held new.course new.track) (Ok c.in-Ok.field-0) c.in-Ok.ensures calm (room c.in-Ok.field-0) (map frame frames) end comes)

pub returns-in-End-clause-passes : goal.returns-in-End-clause-passes
returns-in-End-clause-passes g c = λ calm roomy frames end comes.
    let new = c.step.new.self in
    none_passes g.C.Container c.args.info.now c.args.sample frames end (stage_of new) 0 (subst (λ h. only_frame h ≡ None) c.in-End.ensures refl)
    (moves_first g.C.Container (stage_of c.args.decoder.now) (stage_of new) (λ _. held new.course new.track) (Ok c.in-Ok.field-0) c.in-Ok.ensures calm (room c.in-Ok.field-0) (map frame frames) end comes)
