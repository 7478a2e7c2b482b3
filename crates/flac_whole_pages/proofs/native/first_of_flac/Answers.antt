use Rattle.std.proofs.Common.{◌∙◌, sym}
use Rattle.flac_whole_pages.proofs.Natives.{standing_at, not_first}
use Rattle.flac_whole_pages.proofs.native.first_of_flac.Goals as goal

pub begins_flac-requires : goal.begins_flac-requires
begins_flac-requires c = (standing_at c.args.bytes.now c.loop-i.i c.args.pages.now c.loop-i-test.true c.loop-i.invariant.stand).0

pub loop-i-preserved : goal.loop-i-preserved
loop-i-preserved c = record {
  same = not_first c.args.bytes.now c.args.pages.now c.loop-i.i c.loop-i-test.true (sym c.begins_flac.ensures ∙ c.if-begins_flac.false) c.loop-i.invariant.same;
  stand = (standing_at c.args.bytes.now c.loop-i.i c.args.pages.now c.loop-i-test.true c.loop-i.invariant.stand).1;
}
