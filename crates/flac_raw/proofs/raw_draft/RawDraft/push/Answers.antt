use Rattle.std.specs.Prelude.{OnOk}
use Rattle.std.proofs.Common.{sym, subst}
use Rattle.flac_encoder.specs.Pushing.{block_channels}
use Rattle.flac_raw.specs.inner.Pushed.{GoesOnIn}
use Rattle.flac_raw.specs.declared.raw_draft.RawDraft.{RawDraft}
use Rattle.flac_raw.specs.declared.raw_draft.RawDraft.TheVariants.{Native, Ogg}
use Rattle.flac_raw.proofs.raw_draft.RawDraft.push.Goals as goal

pub returns-in-Native-clause-draft : goal.returns-in-Native-clause-draft
returns-in-Native-clause-draft g c = subst (λ (d : RawDraft g.row.W.Denot). OnOk c.push.result (GoesOnIn g.W.Target (block_channels c.args.block.now) d (Native c.push.new.self))) (sym c.in-Native.is) c.push.ensures.draft

pub returns-in-Ogg-clause-draft : goal.returns-in-Ogg-clause-draft
returns-in-Ogg-clause-draft g c =
    subst (λ (d : RawDraft g.row.W.Denot). OnOk c.push-in-Ogg.result (GoesOnIn g.W.Target (block_channels c.args.block.now) d (Ogg c.push-in-Ogg.new.self))) (sym c.in-Ogg.is) c.push-in-Ogg.ensures.draft
