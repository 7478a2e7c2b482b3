use Rattle.std.proofs.Common.{◌≡◌, ◌+◌, ◌∙◌, ◌++◌, ap, arith, sym, subst}
use Rattle.flac_wave.specs.Chunks.{chunk_len}
use Rattle.flac_wave.specs.inner.Pieces.{IsPieceError}
use Rattle.flac_wave.proofs.NextPieces.{long_error}
use Rattle.flac_wave.proofs.front.read_chunk.Goals as goal

pub returns-then-left-clause-fault : goal.returns-then-left-clause-fault
returns-then-left-clause-fault g c = λ known same.
    let len : c.chunk_len-left.result ≡ chunk_len c.args.head.items = c.chunk_len-left.ensures.value ∙ ap chunk_len c.as_slice.ensures.value in
    subst (IsPieceError c.args.count (c.args.head.items ++ g.R.Source.coming c.args.source.now)) (sym c.chunk_error.ensures)
    (long_error c.args.count c.args.head.items (g.R.Source.coming c.args.source.now) c.in_ok-there.there _ _ c.requires.head c.requires.other (omega (arith, c.if-left.true)) (omega (arith, len, c.chunk_len-left.ensures.some))
    (c.in_ok-there.ensures.count known) c.too_long.ensures)
