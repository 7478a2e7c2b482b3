use Rattle.std.proofs.Common.{◌++◌, sym, ap, ◌∙◌}
use Rattle.flac_bits.specs.Bits.{bits_of}
use Rattle.flac_bits.specs.Store.{allowed}
use Rattle.flac_bits.specs.State.{State}
use Rattle.flac_bits.proofs.Standing.{short_is, no_bytes}
use Rattle.flac_bits.proofs.reader.BitReader.short.Goals as goal

pub returns-clause-short : goal.returns-clause-short
returns-clause-short g c = λ known none other.
    let is = ap (λ (s : State). s.cursor.mark.short) c.self.view_is in
    let room = c.self.inside.held.fence.room in
    let coming = g.R.Source.coming c.self.inside.source in
    let empty = no_bytes (allowed room coming) (c.self.inside.held.word ++ bits_of c.self.inside.held.bytes) (ap (λ (s : State). s.cursor.left) c.self.view_is ∙ none) in
    short_is room coming (g.R.Source.after c.self.inside.source) c.short.result c.short.ensures.fence c.short.ensures.over empty (λ e. other (sym is ∙ e)) ∙ is
