use Rattle.std.proofs.Common.{◌+◌, ◌-◌, ◌++◌, length, take, ap, ◌∙◌, arith}
use Rattle.flac_bits.proofs.Copied.{put_taken}
use Rattle.std.proofs.Math.Seq.{take-length}
use Rattle.flac_around.proofs.walk.put_lead.Goals as goal

pub returns-clause-held : goal.returns-clause-held
returns-clause-held c =
    let lead = c.args.lead.now in
    let n = length c.args.bytes.now in
    let new = c.copy_from_slice.new.self in
    let same = c.copy_from_slice.ensures.after in
    put_taken c.args.at (c.args.at + n - c.args.at) n lead new (omega (arith, c.requires.room, c.requires.within)) (omega (arith, ap length same))
    ∙ ap (λ l. take c.args.at lead ++ take n l) same ∙ ap (λ l. take c.args.at lead ++ l) (take-length c.args.bytes.now)
