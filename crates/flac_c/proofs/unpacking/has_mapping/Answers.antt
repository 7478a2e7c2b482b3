use Rattle.std.proofs.Common.{List, ℕ, sym, ap, ◌∙◌}
use Rattle.flac_native.proofs.FramesRead.{at_bytes}
use Rattle.flac_c.proofs.NativeInOgg.{mapping_read, mapping_missing}
use Rattle.flac_c.proofs.unpacking.has_mapping.Goals as goal

pub returns-in-Ok-clause-some : goal.returns-in-Ok-clause-some
returns-in-Ok-clause-some c = λ e.
    let is = c.new-bits.ensures ∙ ap (λ (l : List ℕ). at_bytes l) c.new.ensures in
    mapping_read c.args.packed.now c.new-bits.result c.read_mapping-outcome.new.bits is c.in-Ok.ensures.reading.reads (sym c.into_source-source.ensures.errors)

pub returns-in-Err-clause-none : goal.returns-in-Err-clause-none
returns-in-Err-clause-none c = λ e.
    let is = c.new-bits.ensures ∙ ap (λ (l : List ℕ). at_bytes l) c.new.ensures in
    mapping_missing c.args.packed.now c.new-bits.result c.read_mapping-outcome.new.bits c.in-Err.field-0 is c.in-Err.ensures.reading.reads (sym c.into_source-source.ensures.errors)
