use Rattle.std.proofs.Common.{arith, drop, get_or}
use Rattle.flac_salvage.specs.Chain.{chain, samples_of}
use Rattle.flac_salvage.proofs.Chains.{top_ends, top_stays, top_rises, zero_most}
use Rattle.flac_salvage.proofs.chain.most_after.Goals as goal

pub loop-j-preserved : goal.loop-j-preserved
loop-j-preserved c = top_rises c.args.limit c.args.from c.loop-j.j c.loop-j.top c.raised-top.result (samples_of (chain c.args.limit c.args.from (drop c.args.begin c.args.frames.now))) c.args.frames.now (get_or c.args.most.now c.loop-j.j zero_most)
    (omega arith) (c.requires.known c.loop-j.j (omega arith) (omega arith)) c.raised-top.ensures.may c.raised-top.ensures.not c.loop-j.invariant

pub returns-then-most-j : goal.returns-then-most-j
returns-then-most-j c = top_stays c.args.limit c.args.from c.loop-j.top (samples_of (chain c.args.limit c.args.from (drop c.args.begin c.args.frames.now))) (drop c.loop-j.j c.args.frames.now) (get_or c.args.most.now c.loop-j.j zero_most)
    (c.requires.known c.loop-j.j (omega arith) (omega arith)) (omega arith) c.loop-j.invariant

pub returns : goal.returns
returns c = top_ends c.args.limit c.args.from c.loop-j.j c.loop-j.top (samples_of (chain c.args.limit c.args.from (drop c.args.begin c.args.frames.now))) c.args.frames.now (omega arith) c.loop-j.invariant
