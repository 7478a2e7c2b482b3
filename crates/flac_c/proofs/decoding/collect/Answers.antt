use Rattle.std.proofs.Common.{ℕ, List, Some, refl, subst}
use Rattle.flac_native.specs.Decoding.{taken}
use Rattle.flac_ogg.specs.Verifying.{Verifies, bytes_reading}
use Rattle.flac_c.proofs.Kept.{refused_in_memory}
use Rattle.flac_c.proofs.decoding.collect.Goals as goal

pub returns-in-Ok-clause-done : goal.returns-in-Ok-clause-done
returns-in-Ok-clause-done g c =
    let d = (c.in-Ok.ensures.hands refl c.requires.known).done (refl, refl) refl in
    (d.0, subst (λ (l : List ℕ). (bytes_reading c.args.profile l).whole d.0) c.new-source.ensures d.1, d.2)

pub returns-in-Err-clause-refused : goal.returns-in-Err-clause-refused
returns-in-Err-clause-refused g c =
    let fault = c.in-Err.fault in
    subst (λ (l : List ℕ). Verifies c.args.profile l (Some (fault.at, c.of_memory.result))) c.new-source.ensures
    (refused_in_memory c.args.profile c.new-source.result.bytes.now (taken g.S.Sink.takes) g.S.Sink.errors _ c.args.sink.now c.decode_any.new.sink fault c.of_memory.result
    (c.in-Err.ensures.hands refl c.requires.known) (refl, refl) c.requires.none c.of_memory.ensures.sink c.of_memory.ensures.others)
