use Rattle.std.proofs.Common.{◌∙◌}
use Rattle.flac_encoder.proofs.Pushing.{bad_channels, enough_channels}
use Rattle.flac_encoder.proofs.stream_format.StreamFormat.block_fault.Goals as goal

pub returns-then-block-self : goal.returns-then-block-self
returns-then-block-self c = bad_channels (λ b. b.now) c.args.block.now c.args.self.now.channels c.args.self.now.bits c.if-block-self.true

pub returns : goal.returns
returns c = c.samples_fault.ensures ∙ enough_channels (λ b. b.now) c.args.block.now c.args.self.now.channels c.args.self.now.bits c.if-block-self.false
