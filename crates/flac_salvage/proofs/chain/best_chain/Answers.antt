use Rattle.std.proofs.Common.{sym, subst, List, ◌∙◌}
use Rattle.flac_salvage.proofs.Chains.{chain_is_best}
use Rattle.flac_salvage.specs.Chain.{IsBest}
use Rattle.flac_salvage.specs.declared.find.WholeFrame.{WholeFrame}
use Rattle.flac_salvage.proofs.chain.best_chain.Goals as goal

pub returns-then-all_rise-clause-best : goal.returns-then-all_rise-clause-best
returns-then-all_rise-clause-best c = subst (λ (l : List WholeFrame). IsBest c.args.limit 0 c.args.frames.now l) (c.all_rise.ensures c.if-all_rise.true ∙ sym c.in_ok-from_slice.ensures.items) (chain_is_best c.args.limit 0 c.args.frames.now)

pub returns-clause-best : goal.returns-clause-best
returns-clause-best c = subst (λ (l : List WholeFrame). IsBest c.args.limit 0 c.args.frames.now l) (sym c.in_ok-chosen.ensures) (chain_is_best c.args.limit 0 c.args.frames.now)
