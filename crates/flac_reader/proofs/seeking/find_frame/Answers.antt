use Rattle.std.proofs.Common.{Some}
use Rattle.flac_native.specs.Giving.{stage_of}
use Rattle.flac_reader.proofs.Searches.{search_more, search_ends, search_refused, search_ok, search_err, search_no_more}
use Rattle.flac_reader.proofs.seeking.find_frame.Goals as goal

pub loop-preserved : goal.loop-preserved
loop-preserved g c =
    let told = rw c.in-Ok-None.field-0-is at c.in-Ok-None.ensures in
    search_more g.C.Container (stage_of c.args.decoder.now) (stage_of c.loop.decoder) (stage_of c.pass_frame.new.decoder) c.args.info.now c.args.sample c.loop.invariant told.counts told.passes told.past

pub returns-in-Ok-Some-clause-counts : goal.returns-in-Ok-Some-clause-counts
returns-in-Ok-Some-clause-counts g c =
    let told = rw c.in-Ok-Some.field-0-is at c.in-Ok-Some.ensures in
    search_ok g.C.Container (stage_of c.args.decoder.now) (stage_of c.loop.decoder) (stage_of c.pass_frame.new.decoder) c.args.info.now c.args.sample (Some c.in-Ok-Some.first) c.in-Ok-Some.first c.loop.invariant told.counts

pub returns-in-Ok-Some-clause-finds : goal.returns-in-Ok-Some-clause-finds
returns-in-Ok-Some-clause-finds g c = λ calm roomy.
    let told = rw c.in-Ok-Some.field-0-is at c.in-Ok-Some.ensures in
    search_ends g.C.Container (stage_of c.args.decoder.now) (stage_of c.loop.decoder) (stage_of c.pass_frame.new.decoder) c.args.info.now c.args.sample c.in-Ok-Some.first c.loop.invariant told.passes calm

pub returns-in-Ok-Some-clause-past : goal.returns-in-Ok-Some-clause-past
returns-in-Ok-Some-clause-past g c = λ past.
    let told = rw c.in-Ok-Some.field-0-is at c.in-Ok-Some.ensures in
    told.past (c.loop.invariant.past past)

pub returns-in-Err-clause-memory : goal.returns-in-Err-clause-memory
returns-in-Err-clause-memory g c = λ past is. absurd (c.in-Err.ensures.memory (c.loop.invariant.past past) is)

pub returns-in-Err-clause-counts : goal.returns-in-Err-clause-counts
returns-in-Err-clause-counts g c =
    search_err g.C.Container (stage_of c.args.decoder.now) (stage_of c.loop.decoder) (stage_of c.pass_frame.new.decoder) c.args.info.now c.args.sample c.in-Err.fault c.loop.invariant c.in-Err.ensures.counts

pub returns-in-Err-clause-finds : goal.returns-in-Err-clause-finds
returns-in-Err-clause-finds g c =
    search_refused g.C.Container (stage_of c.args.decoder.now) (stage_of c.loop.decoder) (stage_of c.pass_frame.new.decoder) c.args.info.now c.args.sample c.in-Err.fault c.loop.invariant c.in-Err.ensures.passes

pub returns-clause-counts : goal.returns-clause-counts
returns-clause-counts g c = search_no_more g.C.Container (stage_of c.args.decoder.now) (stage_of c.loop.decoder) c.args.info.now c.args.sample _ c.loop.invariant
