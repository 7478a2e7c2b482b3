use Rattle.std.proofs.Common.{◌≡◌, ◌∙◌, cond, length, ap, arith, sym, subst}
use Rattle.std.specs.Prelude.{nat_eq}
use Rattle.flac_wave.specs.inner.Pieces.{IsPieceError}
use Rattle.flac_wave.specs.declared.why.WaveWhy.TheVariants as why
use Rattle.flac_wave.proofs.NextPieces.{short_error}
use Rattle.flac_wave.proofs.front.next_piece.Goals as goal

pub returns-then-len-lt8-clause-fault : goal.returns-then-len-lt8-clause-fault
returns-then-len-lt8-clause-fault g c = λ known same.
    let e = c.in_ok-head.ensures in
    subst (IsPieceError c.args.count (g.R.Source.coming c.args.source.now)) (sym c.chunk_error.ensures)
    (short_error c.args.count (g.R.Source.coming c.args.source.now) c.in_ok-head.head.items (g.R.Source.coming c.read_at_most.new.source) _ (e.bytes known)
    (omega (arith, c.if-len-lt8.true, c.in_ok-head.head.ok.0)) (λ short. e.end short known)
    (c.no_chunk.ensures ∙ ap (λ l. cond (nat_eq (length l) 0) why.NoData why.ChunkCut) c.as_slice.ensures.value))
