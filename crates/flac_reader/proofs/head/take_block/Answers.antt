use Rattle.std.proofs.Common.{◌≡◌, Ok, Err, refl, sym, subst}
use Rattle.flac_native.specs.Giving.{stage_of, held}
use Rattle.flac_reader.specs.Coming.{IsFirst, only_frame, stream_items}
use Rattle.flac_reader.proofs.Moving.{moves_first, moves_counted, took_refused, took_block, took_other, comes_past, held_going}
use Rattle.flac_reader.proofs.Heads.{room, same_room, err_counts}
use Rattle.flac_reader.proofs.head.take_block.Goals as goal

pub returns-in-Err-clause-counts : goal.returns-in-Err-clause-counts
returns-in-Err-clause-counts g c =
    let new = c.step.new.self in
    err_counts g.C.Container (stage_of c.args.decoder.now) (stage_of new) c.in-Err.fault
    (moves_counted g.C.Container (stage_of c.args.decoder.now) (stage_of new) (λ _. held new.course new.track) (Err c.in-Err.fault) c.in-Err.ensures)

pub returns-in-Err-clause-gives : goal.returns-in-Err-clause-gives
returns-in-Err-clause-gives g c = λ calm roomy blocks frames end comes.
    let new = c.step.new.self in
    took_refused g.C.Container blocks frames end c.in-Err.fault (stage_of new)
    (moves_first g.C.Container (stage_of c.args.decoder.now) (stage_of new) (λ _. held new.course new.track) (Err c.in-Err.fault) c.in-Err.ensures calm (same_room c.in-Err.fault roomy) (stream_items blocks frames) end comes)

pub returns-in-Frame-clause-gives : goal.returns-in-Frame-clause-gives
returns-in-Frame-clause-gives g c = λ calm roomy blocks frames end comes.
    let new = c.step.new.self in
    let first = moves_first g.C.Container (stage_of c.args.decoder.now) (stage_of new) (λ _. held new.course new.track) (Ok c.in-Ok.field-0) c.in-Ok.ensures calm (room c.in-Ok.field-0) (stream_items blocks frames) end comes in
    let t = took_other g.C.Container blocks frames end (held new.course new.track) (stage_of new) (subst (λ h. only_frame h ≡ h) c.in-Frame.ensures refl) first in
    (t.0, refl, refl, t.1)

pub returns-in-End-clause-gives : goal.returns-in-End-clause-gives
returns-in-End-clause-gives g c = λ calm roomy blocks frames end comes.
    let new = c.step.new.self in
    let first = moves_first g.C.Container (stage_of c.args.decoder.now) (stage_of new) (λ _. held new.course new.track) (Ok c.in-Ok.field-0) c.in-Ok.ensures calm (room c.in-Ok.field-0) (stream_items blocks frames) end comes in
    let t = took_other g.C.Container blocks frames end (held new.course new.track) (stage_of new) (subst (λ h. only_frame h ≡ h) c.in-End.ensures refl) first in
    (t.0, refl, refl, t.1)

pub returns-in-Ok-outcome-clause-gives : goal.returns-in-Ok-outcome-clause-gives
returns-in-Ok-outcome-clause-gives g c = λ calm roomy blocks frames end comes.
    let new = c.step.new.self in
    let first = moves_first g.C.Container (stage_of c.args.decoder.now) (stage_of new) (λ _. held new.course new.track) (Ok c.in-Ok.field-0) c.in-Ok.ensures calm (room c.in-Ok.field-0) (stream_items blocks frames) end comes in
    let t = took_block g.C.Container blocks frames end c.in-Block.block.now (stage_of new) (subst (λ h. IsFirst g.C.Container (stream_items blocks frames) end (Ok h) (stage_of new)) (sym c.in-Block.ensures) first) in
    (c.in-Block.block.now, t.0, t.1, c.in-Ok-outcome.ensures.kept, rw c.length.ensures at c.saturating_add.ensures, t.2)

pub returns-in-Frame-clause-past : goal.returns-in-Frame-clause-past
returns-in-Frame-clause-past g c = λ is.
    let new = c.step.new.self in
    comes_past g.C.Container (stage_of c.args.decoder.now) (stage_of new) (λ _. held new.course new.track) c.in-Ok.field-0 c.in-Ok.ensures (subst (λ h. only_frame h ≡ h) c.in-Frame.ensures refl)

pub returns-in-End-clause-past : goal.returns-in-End-clause-past
returns-in-End-clause-past g c = λ is.
    let new = c.step.new.self in
    comes_past g.C.Container (stage_of c.args.decoder.now) (stage_of new) (λ _. held new.course new.track) c.in-Ok.field-0 c.in-Ok.ensures (subst (λ h. only_frame h ≡ h) c.in-End.ensures refl)

pub returns-in-Ok-outcome-clause-going : goal.returns-in-Ok-outcome-clause-going
returns-in-Ok-outcome-clause-going g c = λ is. held_going c.step.new.self.course c.step.new.self.track _ c.in-Block.ensures
