use Rattle.std.proofs.Common.{◌≡◌, drop, map}
use Rattle.flac_salvage.specs.Chain.{Rise}
use Rattle.flac_rescue.specs.Gaps.{limit_of}
use Rattle.flac_rescue.proofs.Salvaging.{SalvagedTo}
use Rattle.flac_rescue.proofs.salvage.add_frames.Given as goal

abbrev pub invariant-loop-frame : goal.invariant-loop-frame
invariant-loop-frame l = record {
  rise : Rise (limit_of l.info.total) l.from (drop l.frame-index l.kept);
  channels : l.buffers.channels ≡ l.fn.buffers.channels;
  block : l.buffers.max_block ≡ l.fn.buffers.max_block;
  so_far : SalvagedTo l.info l.bytes l.silence l.info.total (map (λ c. c.items) l.fn.channels) l.kept l.frame-index l.from (map (λ c. c.items) l.channels);
}
