use Rattle.std.proofs.Common.{map}
use Rattle.flac_native.specs.Item.{frame}
use Rattle.flac_native.specs.Giving.{stage_of, held}
use Rattle.flac_reader.proofs.Moving.{moves_first, moves_counted, memory_kept, past_kept}
use Rattle.flac_reader.proofs.Heads.{same_counts}
use Rattle.flac_reader.proofs.head.forward.Goals as goal

pub returns-then-ahead-clause-counts : goal.returns-then-ahead-clause-counts
returns-then-ahead-clause-counts g c = same_counts g.C.Container (stage_of c.args.decoder.now) tt

pub returns-then-ahead-clause-frame : goal.returns-then-ahead-clause-frame
returns-then-ahead-clause-frame g c = rw c.if-ahead.true (λ calm roomy frames end comes. comes)

pub returns-then-ahead-clause-past : goal.returns-then-ahead-clause-past
returns-then-ahead-clause-past g c = λ past. past

pub returns-clause-memory : goal.returns-clause-memory
returns-clause-memory g c =
    let new = c.step.new.self in
    memory_kept g.C.Container (stage_of c.args.decoder.now) (stage_of new) (λ _. held new.course new.track) c.step.result c.step.ensures

pub returns-clause-past : goal.returns-clause-past
returns-clause-past g c =
    let new = c.step.new.self in
    past_kept g.C.Container (stage_of c.args.decoder.now) (stage_of new) c.step.result c.step.ensures

pub returns-clause-counts : goal.returns-clause-counts
returns-clause-counts g c =
    let new = c.step.new.self in
    moves_counted g.C.Container (stage_of c.args.decoder.now) (stage_of new) (λ _. held new.course new.track) c.step.result c.step.ensures

pub returns-clause-frame : goal.returns-clause-frame
returns-clause-frame g c = rw c.if-ahead.false (λ calm roomy frames end comes.
    let new = c.step.new.self in
    moves_first g.C.Container (stage_of c.args.decoder.now) (stage_of new) (λ _. held new.course new.track) c.step.result c.step.ensures calm roomy (map frame frames) end comes)
