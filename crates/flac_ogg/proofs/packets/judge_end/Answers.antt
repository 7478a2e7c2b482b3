use Rattle.std.proofs.Common.{◌≡◌, true, ap, sym, ◌∙◌, rules}
use Rattle.flac_bits.specs.Reasons.{of_output}
use Rattle.flac_native.specs.Track.{is_after_blocks}
use Rattle.flac_native.specs.declared.track.Phase.{Phase}
use Rattle.flac_native.specs.declared.track.Phase.TheVariants.{Frames}
use Rattle.flac_native.specs.declared.track.Track.{Track}
use Rattle.flac_ogg.proofs.Stepped.{due_here, over_here, refused_here}
use Rattle.flac_ogg.proofs.packets.judge_end.Goals as goal

pub returns-then-not-is_past_metadata-clause-ends : goal.returns-then-not-is_past_metadata-clause-ends
returns-then-not-is_past_metadata-clause-ends c = λ p at way. due_here c.args.track.now p c.block_due.result at (sym c.is_past_metadata.ensures ∙ c.if-not-is_past_metadata.true) c.block_due.ensures.at c.block_due.ensures.why

pub returns-in-Ok-clause-ends : goal.returns-in-Ok-clause-ends
returns-in-Ok-clause-ends c = λ p at way. over_here c.args.track.now p at way (sym c.is_past_metadata.ensures ∙ c.if-not-is_past_metadata.false) (c.in-Ok.ensures.judged p at)

at_frames : (ph : Phase) → is_after_blocks ph ≡ true → ph ≡ Frames
at_frames ph e = search rules

pub returns-in-Ok-clause-ordered : goal.returns-in-Ok-clause-ordered
returns-in-Ok-clause-ordered c =
    let frames = at_frames _ (sym c.is_past_metadata.ensures ∙ c.if-not-is_past_metadata.false) in
    (frames, ap (λ (t : Track). t.position.phase) c.in-Ok.ensures.stays ∙ frames)

pub returns-in-Err-clause-ends : goal.returns-in-Err-clause-ends
returns-in-Err-clause-ends c = λ p at way. refused_here c.args.track.now p c.in-Err.why at way (sym c.is_past_metadata.ensures ∙ c.if-not-is_past_metadata.false) (c.in-Err.ensures.judged p at)

pub returns-then-not-is_past_metadata-clause-output : goal.returns-then-not-is_past_metadata-clause-output
returns-then-not-is_past_metadata-clause-output c = ap of_output c.block_due.ensures.why
