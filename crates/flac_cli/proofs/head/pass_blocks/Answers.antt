use Rattle.std.proofs.Common.{refl, sym, ◌∙◌}
use Rattle.flac_native.specs.Giving.{stage_of}
use Rattle.flac_cli.proofs.Heading.{blocks_none, blocks_both, blocks_end, blocks_unread, refused_after}
use Rattle.flac_cli.proofs.head.pass_blocks.Goals as goal

pub loop-index-init : goal.loop-index-init
loop-index-init g c = record { going = c.requires; names = refl; reads = blocks_none g.C.Container g.S.Sink.known g.S.Sink.takes (stage_of c.args.decoder.now) c.args.sink.now }

pub loop-index-preserved : goal.loop-index-preserved
loop-index-preserved g c = record {
  going = c.in-Ok.ensures.going;
  names = c.in-Ok.ensures.names ∙ c.loop-index.invariant.names;
  reads = blocks_both g.C.Container g.S.Sink.known g.S.Sink.takes (stage_of c.args.decoder.now) (stage_of c.loop-index.decoder) (stage_of c.pass_block.new.decoder) c.args.sink.now c.loop-index.sink c.pass_block.new.sink (sym c.is_past_metadata.ensures ∙ c.if-is_past_metadata.false) c.loop-index.invariant.reads c.in-Ok.ensures.reads;
}

pub returns-in-Err-clause-refused : goal.returns-in-Err-clause-refused
returns-in-Err-clause-refused g c =
    refused_after g.C.Container g.S.Sink.known g.S.Sink.takes (stage_of c.args.decoder.now) (stage_of c.loop-index.decoder) (stage_of c.pass_block.new.decoder) c.args.sink.now c.loop-index.sink c.in-Err.fault (sym c.is_past_metadata.ensures ∙ c.if-is_past_metadata.false) c.loop-index.invariant.reads c.in-Err.ensures.refused

pub returns-then-is_past_metadata-clause-ends : goal.returns-then-is_past_metadata-clause-ends
returns-then-is_past_metadata-clause-ends g c =
    blocks_end g.C.Container g.S.Sink.known g.S.Sink.takes (stage_of c.args.decoder.now) (stage_of c.loop-index.decoder) c.args.sink.now c.loop-index.sink (sym c.is_past_metadata.ensures ∙ c.if-is_past_metadata.true) c.loop-index.invariant.reads

pub returns-clause-refused : goal.returns-clause-refused
returns-clause-refused g c = blocks_unread g.C.Container (stage_of c.args.decoder.now) (stage_of c.loop-index.decoder) c.no_memory_at.result c.no_memory_at.ensures

pub returns-in-Err-clause-names : goal.returns-in-Err-clause-names
returns-in-Err-clause-names g c = c.in-Err.ensures.names ∙ c.loop-index.invariant.names

pub returns-then-is_past_metadata-clause-names : goal.returns-then-is_past_metadata-clause-names
returns-then-is_past_metadata-clause-names g c = c.loop-index.invariant.names

pub returns-clause-names : goal.returns-clause-names
returns-clause-names g c = c.loop-index.invariant.names
