use Rattle.std.proofs.Common.{◌≡◌, ◌*◌, ◌≤◌, ◌-◌, take, true, All, cond, Some, None, []}
use Rattle.flac_bits.specs.Layout.{run}
use Rattle.flac_bits.specs.inner.Reading.{Goes}
use Rattle.flac_header.specs.Assignment.{code_of}
use Rattle.flac_frame.specs.Frame.{subframes}
use Rattle.flac_bits.specs.Signed.{FitsBits}
use Rattle.flac_frame.specs.View.{chunks}
use Rattle.flac_frame.proofs.channels.read_subframes.Given as goal

abbrev pub invariant-loop-channel : goal.invariant-loop-channel
invariant-loop-channel g l = (l.bits.most ≤ l.initial.bits.most) × (l.fits ≡ true → All (FitsBits 34) (take (l.channel * l.shape.block) l.samples)) × Goes l.initial.bits l.bits
    (run (subframes l.shape.depth (code_of l.assignment) l.shape.block l.shape.limits (cond l.fits (Some (chunks l.channel l.shape.block l.samples)) None) l.channel (l.shape.channels - l.channel)) l.bits.cursor)
    (run (subframes l.shape.depth (code_of l.assignment) l.shape.block l.shape.limits (Some []) 0 l.shape.channels) l.initial.bits.cursor)
