use Rattle.std.proofs.lemmas.List.{append-nil}
use Rattle.flac_bits.specs.Bits.{bits_of}
use Rattle.flac_edit.proofs.rewriting.rewrite.Goals as goal

pub returns-clause-written : goal.returns-clause-written
returns-clause-written g c =
    let written = rw c.new-reader.ensures at c.rewrite_from-outcome.ensures.written in
    rw (append-nil (bits_of (g.R.Source.coming c.args.source.now))) at written
