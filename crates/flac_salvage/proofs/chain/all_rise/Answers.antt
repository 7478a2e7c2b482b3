use Rattle.std.proofs.Common.{arith, sym, ◌∙◌}
use Rattle.flac_salvage.proofs.Chains.{rise_on, all_are_chain}
use Rattle.flac_salvage.proofs.chain.all_rise.Goals as goal

pub loop-frame-preserved : goal.loop-frame-preserved
loop-frame-preserved c = λ r. c.loop-frame.invariant (rise_on c.args.limit c.loop-frame.from c.loop-frame.frame-index c.args.frames.now (omega arith) (sym c.fits.ensures ∙ c.if-not-fits.false) r)

pub returns : goal.returns
returns c = λ _. all_are_chain c.args.limit c.loop-frame.from c.loop-frame.frame-index c.args.frames.now c.loop-frame-test.false c.loop-frame.invariant
