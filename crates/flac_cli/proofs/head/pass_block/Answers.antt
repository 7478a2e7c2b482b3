use Rattle.std.proofs.Common.{◌≡◌, Ok, Err, IfSome, refl, sym, ap, subst}
use Rattle.flac_native.specs.Track.{is_going}
use Rattle.flac_native.specs.Giving.{stage_of, held}
use Rattle.flac_native.specs.declared.container.Part.{Part}
use Rattle.flac_native.specs.declared.decoder.Course.TheVariants as course
use Rattle.flac_cli.proofs.Heading.{still_goes, names_kept, blocks_one, blocks_refused, blocks_unread, blocks_unsent}
use Rattle.flac_cli.proofs.head.pass_block.Goals as goal

pub returns-in-Err-clause-refused : goal.returns-in-Err-clause-refused
returns-in-Err-clause-refused g c =
    let old = stage_of c.args.decoder.now in
    let new = stage_of c.step.new.self in
    blocks_refused g.C.Container old new (λ _. held new.course new.track) c.in-Err.fault
    (still_goes g.C.Container old new (λ _. held new.course new.track) (Err c.in-Err.fault) c.requires c.in-Err.ensures)

pub returns-in-Ok-passed-clause-reads : goal.returns-in-Ok-passed-clause-reads
returns-in-Ok-passed-clause-reads g c =
    let old = stage_of c.args.decoder.now in
    let new = stage_of c.step.new.self in
    blocks_one g.C.Container g.S.Sink.known g.S.Sink.takes old new c.args.sink.now c.block-passed.new.self (λ _. held new.course new.track) c.in-Ok.field-0 c.in-Block.block.now (sym c.in-Block.ensures)
    (still_goes g.C.Container old new (λ _. held new.course new.track) (Ok c.in-Ok.field-0) c.requires c.in-Ok.ensures) c.in-Ok-passed.ensures.known c.in-Ok-passed.ensures.takes

pub returns-in-Ok-passed-clause-going : goal.returns-in-Ok-passed-clause-going
returns-in-Ok-passed-clause-going g c =
    let old = stage_of c.args.decoder.now in
    let new = stage_of c.step.new.self in
    let goes = still_goes g.C.Container old new (λ _. held new.course new.track) (Ok c.in-Ok.field-0) c.requires c.in-Ok.ensures in
    let part = subst (λ h. IfSome h (λ _. (part : Part) × (new.course ≡ course.Read part))) (sym c.in-Block.ensures) goes.going in
    ap is_going part.1

pub returns-in-Frame-clause-refused : goal.returns-in-Frame-clause-refused
returns-in-Frame-clause-refused g c = blocks_unread g.C.Container (stage_of c.args.decoder.now) (stage_of c.step.new.self) c.no_memory_at.result c.no_memory_at.ensures

pub returns-in-End-clause-refused : goal.returns-in-End-clause-refused
returns-in-End-clause-refused g c = blocks_unread g.C.Container (stage_of c.args.decoder.now) (stage_of c.step.new.self) c.no_memory_at-in-End.result c.no_memory_at-in-End.ensures

pub returns-in-Err-passed-clause-refused : goal.returns-in-Err-passed-clause-refused
returns-in-Err-passed-clause-refused g c = blocks_unsent g.C.Container (stage_of c.args.decoder.now) (stage_of c.step.new.self) _ refl

pub returns-in-Err-clause-names : goal.returns-in-Err-clause-names
returns-in-Err-clause-names g c =
    let new = stage_of c.step.new.self in
    names_kept g.C.Container (stage_of c.args.decoder.now) new (λ _. held new.course new.track) (Err c.in-Err.fault) c.requires c.in-Err.ensures

pub returns-in-Ok-passed-clause-names : goal.returns-in-Ok-passed-clause-names
returns-in-Ok-passed-clause-names g c =
    let new = stage_of c.step.new.self in
    names_kept g.C.Container (stage_of c.args.decoder.now) new (λ _. held new.course new.track) (Ok c.in-Ok.field-0) c.requires c.in-Ok.ensures

pub returns-in-Err-passed-clause-names : goal.returns-in-Err-passed-clause-names
returns-in-Err-passed-clause-names g c =
    let new = stage_of c.step.new.self in
    names_kept g.C.Container (stage_of c.args.decoder.now) new (λ _. held new.course new.track) (Ok c.in-Ok.field-0) c.requires c.in-Ok.ensures

pub returns-in-Frame-clause-names : goal.returns-in-Frame-clause-names
returns-in-Frame-clause-names g c =
    let new = stage_of c.step.new.self in
    names_kept g.C.Container (stage_of c.args.decoder.now) new (λ _. held new.course new.track) (Ok c.in-Ok.field-0) c.requires c.in-Ok.ensures

pub returns-in-End-clause-names : goal.returns-in-End-clause-names
returns-in-End-clause-names g c =
    let new = stage_of c.step.new.self in
    names_kept g.C.Container (stage_of c.args.decoder.now) new (λ _. held new.course new.track) (Ok c.in-Ok.field-0) c.requires c.in-Ok.ensures
