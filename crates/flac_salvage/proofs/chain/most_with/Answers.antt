use Rattle.std.proofs.Common.{rules, arith, sym, ◌∙◌}
use Rattle.flac_salvage.proofs.Chains.{none_with, some_with}
use Rattle.flac_salvage.proofs.chain.most_with.Goals as goal

pub returns-then-not-fits : goal.returns-then-not-fits
returns-then-not-fits c = none_with c.args.limit c.args.index c.args.frames.now c.requires.within (sym c.fits.ensures ∙ c.if-not-fits.true)

pub overflow_add-result : goal.overflow_add-result
overflow_add-result c =
    let within = (some_with c.args.limit c.args.index c.most_after.result c.args.frames.now c.requires.within (sym c.fits.ensures ∙ c.if-not-fits.false) c.most_after.ensures).0 in
    search rules

pub returns : goal.returns
returns c = (some_with c.args.limit c.args.index c.most_after.result c.args.frames.now c.requires.within (sym c.fits.ensures ∙ c.if-not-fits.false) c.most_after.ensures).1
