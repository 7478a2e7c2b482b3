use Rattle.std.proofs.Common.{◌∙◌, ap, sym, take}
use Rattle.std.proofs.lemmas.Bool.{and_parts}
use Rattle.flac_cli.specs.inner.WaveRaw.{held_in, low_of}
use Rattle.flac_cli.specs.inner.LoweredSource.{left_of}
use Rattle.flac_cli.proofs.WaveRaws.{held_next}
use Rattle.flac_cli.proofs.wave_raw.LoweredSource.pull.Goals as goal

pub returns-in-Ok-clause-bytes : goal.returns-in-Ok-clause-bytes
returns-in-Ok-clause-bytes g c = λ known.
    let r = c.top_up.new.self in
    let n = c.give-count.result in
    let e = c.in-Ok.ensures in
    let given = c.give-count.ensures.front ∙ ap (take n) (c.held_in.ensures ∙ ap (λ l. held_in r.from r.to l) c.as_slice.ensures.value) in
    held_next n r.from r.to r.low.items (take n c.give-count.new.buf) (left_of g.S.Source c.args.self.now) (low_of r.form (g.S.Source.coming r.source)) (e.bytes (and_parts _ _ known).0) given
