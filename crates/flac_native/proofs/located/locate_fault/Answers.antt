use Rattle.std.proofs.Common.{rules}
use Rattle.std.proofs.lemmas.List.{append-nil}
use Rattle.flac_bits.specs.Bits.{bits_of}
use Rattle.flac_native.specs.Stream.{opening}
use Rattle.flac_native.proofs.Locating.{located_at}
use Rattle.flac_native.proofs.located.locate_fault.Goals as goal

pub returns-clause-located : goal.returns-clause-located
returns-clause-located g c = λ known errors raised.
    let R = g.R.Source in
    let source = c.args.source.now in
    let found = rw c.new-reader.ensures at (c.locate_in-found.ensures.located (opening c.args.profile) c.opening-track.ensures) in
    let whole = rw (append-nil (bits_of (R.coming source))) at found in
    located_at c.args.profile (R.coming source) (R.after source) c.locate_in-found.result (whole known (search (rules, errors)) (search (rules, raised)))
