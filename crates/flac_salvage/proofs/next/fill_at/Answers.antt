use Rattle.std.proofs.Common.{ℕ, List, sym, subst}
use Rattle.flac_native.specs.FrameAt.{IsFrameAt}
use Rattle.flac_salvage.proofs.Syncs.{no_sync}
use Rattle.flac_salvage.proofs.next.fill_at.Goals as goal

pub returns-clause-only : goal.returns-clause-only
returns-clause-only c = λ f n there. c.fill_frame.ensures.only f n (subst (λ (l : List ℕ). IsFrameAt c.args.profile c.args.info.now l f n) (sym c.bytes_from.ensures) there)

pub returns-then-not-has_sync-clause-only : goal.returns-then-not-has_sync-clause-only
returns-then-not-has_sync-clause-only c = λ f n there.
    absurd (no_sync c.args.profile c.args.info.now c.args.bytes.now c.args.at c.requires.rules c.has_sync.ensures.bytes.0 c.has_sync.ensures.bytes.1 (c.has_sync.ensures.sync cc) f n there)
